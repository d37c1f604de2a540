-- Text put behind text is one text, and what a line leaves in a buffer is settled by its statement.
use mathlib.Core.Path.{◌≡◌, refl, sym, ◌∙◌}
use mathlib.Core.List.{List, [], ◌++◌}
use Prim.Native.Nat.{ℕ, ◌+◌, ◌-◌, ◌≤◌, ◌<◌}
use native.Mathlib.Omega.{arith}
use lib.ListN.{length, take, drop, length-append}
use lib.Seq.{sets-eq, take-append_seam}
use borrow.Author.Tests.{le-leb, lt-leb}
use borrow.Rule.Slice.PartMut.{put_mid}
use Rattle.rules.proofs.Parts.{sets_then, copied_over}
use Rattle.text.specs.Buffers.{Put, Line}

pub put_none : (out : List ℕ) (at : ℕ) → Put 0 out at [] at out
put_none out at = record { place = omega arith; text = refl; short = omega arith }

pub put_then : {m n : ℕ} {a b c s t : List ℕ} {at p r : ℕ} → Put m a at s p b → Put n b p t r c → Put (m + n) a at (s ++ t) r c
put_then {a = a} {s = s} {t = t} {at = at} x y = record {
  place = omega (arith, length-append s t, x.place, y.place);
  text = y.text ∙ rw (x.text, x.place) (sets_then s t a at);
  short = omega (arith, x.short, y.short);
}

-- the text stands in front
pub put_front : {m : ℕ} {out s out' : List ℕ} {r : ℕ} → Put m out 0 s r out' → m ≤ length out → take r out' ≡ s
put_front {out = out} {s = s} {out' = out'} {r = r} p h =
    let e : r ≡ length s = omega (arith, p.place) in
    let f : out' ≡ s ++ drop (0 + length s) out = p.text ∙ sets-eq s out 0 (omega (arith, p.place, p.short)) in
    rw (e, f) (take-append_seam s (drop (0 + length s) out))

-- a bound may be larger
pub put_more : {m n at : ℕ} {out s out' : List ℕ} {r : ℕ} → m ≤ n → Put m out at s r out' → Put n out at s r out'
put_more h p = record { place = p.place; text = p.text; short = omega (arith, p.short) }

pub line_fits : {m : ℕ} {line out out' : List ℕ} {at r : ℕ} → at + length line ≤ length out → Put m out at line r out' → Line line out at r out'
line_fits h p = record { place = rw (le-leb _ _ h) p.place; text = rw (le-leb _ _ h) p.text }

-- a line that fits was copied over the part of its own length
pub line_over : (line out part : List ℕ) (at : ℕ) → at + length line ≤ length out → part ≡ line
    → Line line out at (at + length line) (put_mid at (at + length line - at) out part)
line_over line out part at h e = record {
  place = rw (le-leb _ _ h) refl;
  text = rw (le-leb _ _ h) (copied_over out line part at (at + length line - at) h (omega arith) e);
}

pub line_stays : (line out : List ℕ) (at : ℕ) → length out < at + length line → Line line out at at out
line_stays line out at h = record { place = rw (lt-leb _ _ h); text = rw (lt-leb _ _ h) }

-- two outcomes of one line that meet its statement are equal
pub line_one : (line out : List ℕ) (at r q : ℕ) (a b : List ℕ) → Line line out at r a → Line line out at q b → (r ≡ q) × (a ≡ b)
line_one line out at r q a b x y = (x.place ∙ sym y.place, x.text ∙ sym y.text)

-- One byte more of a piece: the desk is the moment behind the bytes so far, and what they print stands in front of the buffer, 50 bytes at
-- most for each of them.
use mathlib.Core.Path.{◌≡◌, refl, sym, subst, ◌∙◌}
use mathlib.Core.Bool.{true, false}
use mathlib.Core.List.{List, [], ◌∷◌, append-nil}
use lib.Dec.{eqb}
use Rattle.rules.proofs.Tests.{false_true}
use Prim.Native.Nat.{ℕ, ◌+◌, ◌*◌, ◌≤◌, ◌<◌}
use native.Mathlib.Omega.{arith}
use lib.ListN.{length, take, get_or}
use lib.Seq.{take_all}
use borrow.Author.Tests.{eqb-true, eq-eqb, ne_eqb, lt-ltb}
use Rattle.rules.specs.Answers.{StepIs}
use Rattle.rules.specs.declared.State.{State}
use Rattle.rules.specs.declared.Step.{Step}
use Rattle.rules.proofs.Answers.{step_is}
use Rattle.calls.specs.Line.{call_of}
use Rattle.text.specs.Lines.{answer_line}
use Rattle.text.specs.Buffers.{Put}
use Rattle.text.proofs.Filling.{put_none, put_then, put_more}
use Rattle.step.specs.Session.{said, obeyed, keeping, Moment, moment, answered, next, printed, after, text, last}
use Rattle.step.specs.Serving.{Prints}
use Rattle.step.proofs.Sessions.{after_more, text-more}

pub record Turn (bytes out₀ : List ℕ) (m : Moment) (out : List ℕ) (state : State) (line : List ℕ) (end i : ℕ) : Type 0 where
  pub within : i ≤ length bytes
  pub room : length out ≡ length out₀
  pub here : moment state line ≡ after m (take i bytes)
  pub lines : Put (50 * i) out₀ 0 (text m (take i bytes)) end out

pub turn_start : (bytes out : List ℕ) (state : State) (line : List ℕ) → Turn bytes out (moment state line) out state line 0 0
unfolding after text
turn_start bytes out state line = record { within = omega arith; room = refl; here = refl; lines = put_none out 0 }

-- what a byte that ends a line leads to, and what any other does
next-ends : (m : Moment) (b : ℕ) → b ≡ 10 → next m b ≡ moment (answered m).state []
unfolding next
next-ends m b e = rw (eq-eqb b 10 e)

printed-ends : (m : Moment) (b : ℕ) → b ≡ 10 → printed m b ≡ (answered m).line
unfolding printed
printed-ends m b e = rw (eq-eqb b 10 e)

next-keeps : (m : Moment) (b : ℕ) → (b ≡ 10 → ⊥) → next m b ≡ moment m.state (keeping m.line b)
unfolding next
next-keeps m b e = rw (ne_eqb b 10 e)

printed-keeps : (m : Moment) (b : ℕ) → (b ≡ 10 → ⊥) → printed m b ≡ []
unfolding printed
printed-keeps m b e = rw (ne_eqb b 10 e)

module _ {bytes out₀ out : List ℕ} {m : Moment} {state : State} {line : List ℕ} {end i : ℕ} (t : Turn bytes out₀ m out state line end i) (more : i < length bytes) where
  abbrev b : ℕ
  b = get_or bytes i 0

  pub turn_ends : (out' line' : List ℕ) (state' : State) (r : ℕ) → b ≡ 10 → Prints (obeyed state (call_of line)) out end state' r out' → length out' ≡ length out → line' ≡ [] → Turn bytes out₀ m out' state' line' r (i + 1)
  turn_ends out' line' state' r e p kept none = record {
    within = omega arith;
    room = kept ∙ t.room;
    here = rw (none, p.state, after_more m bytes i more, sym t.here) (sym (next-ends (moment state line) b e));
    lines =
        rw (text-more m bytes i more, sym t.here, printed-ends (moment state line) b e) (put_more (omega arith) (put_then t.lines p.line));
  }

  pub turn_keeps : (line' : List ℕ) → (b ≡ 10 → ⊥) → line' ≡ keeping line b → Turn bytes out₀ m out state line' end (i + 1)
  turn_keeps line' e k = record {
    within = omega arith;
    room = t.room;
    here = rw (k, after_more m bytes i more, sym t.here) (sym (next-keeps (moment state line) b e));
    lines =
        rw (text-more m bytes i more, sym t.here, printed-keeps (moment state line) b e, append-nil (text m (take i bytes)))
        (put_more (omega arith) t.lines);
  }

-- behind the last byte
pub turn_done : {bytes out₀ out : List ℕ} {m : Moment} {state : State} {line : List ℕ} {end i : ℕ} → Turn bytes out₀ m out state line end i → length bytes ≤ i → (moment state line ≡ after m bytes) × Put (50 * length bytes) out₀ 0 (text m bytes) end out
turn_done {bytes} {i = i} t h =
    let e : take i bytes ≡ bytes = take_all i bytes h in
    (rw e at t.here, put_more (omega (arith, t.within)) (rw e at t.lines))

-- an answer of the executive that is the one wanted
pub prints_step : (want r : Step) {out out' : List ℕ} {at x : ℕ} {z : State} → StepIs want r → Prints (said r.state (answer_line r.answer)) out at z x out' → Prints (said want.state (answer_line want.answer)) out at z x out'
prints_step want r {out} {out'} {at} {x} {z} h p =
    subst (λ (s : Step). Prints (said s.state (answer_line s.answer)) out at z x out') (step_is want r h) p

-- the input's end, with no byte of a line and with some
pub finish_none : (s : State) (line out : List ℕ) → eqb (length line) 0 ≡ true → Put 50 out 0 (last (moment s line)) 0 out
unfolding last
finish_none s [] out e = put_more (omega arith) (put_none out 0)
finish_none s (x ∷ line) out e = let z = eqb-true (length (x ∷ line)) 0 e in absurd (omega arith)

pub finish_line : (s : State) (line : List ℕ) → eqb (length line) 0 ≡ false → last (moment s line) ≡ (obeyed s (call_of line)).line
unfolding last
finish_line s [] e = absurd (false_true (sym e))
finish_line s (x ∷ line) e = rw (lt-ltb 0 (length (x ∷ line)) (omega arith))

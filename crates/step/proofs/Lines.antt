-- The kept bytes of a line, 13 at most: one byte more, with room and without.
use mathlib.Core.Path.{◌≡◌, sym, ap, ◌∙◌}
use mathlib.Core.List.{List, [], ◌∷◌, ◌++◌, map, map-id}
use Prim.Native.Nat.{ℕ, ◌+◌, ◌≤◌, ◌<◌}
use native.Mathlib.Omega.{arith}
use native.Mathlib.Numerals.{add-one}
use lib.ListN.{length, take, set, length-append}
use lib.Seq.{take_all, take-suc-set, take-append-le, length-take-le}
use Rattle.step.specs.Session.{most_kept, keeping}

-- the byte is kept behind n bytes of an array
pub keep_room : (l : List ℕ) (n b : ℕ) → length l ≡ most_kept → n < most_kept → take (n + 1) (set l n b) ≡ keeping (take n l) b
keep_room l n b h k =
    let i : n < length l = omega arith in
    let j : length (take n l ++ (b ∷ [])) ≤ most_kept = omega (arith, length-append (take n l) (b ∷ []), length-take-le n l (omega arith)) in
    rw (add-one, take-suc-set l n b i, take_all most_kept (take n l ++ (b ∷ [])) j)

-- with room the byte is put behind the bytes that are kept, and behind 13 nothing more is kept
pub keep_pushed : (l : List ℕ) (b : ℕ) → length l < most_kept → l ++ (b ∷ []) ≡ keeping l b
keep_pushed l b h = sym (take_all most_kept (l ++ (b ∷ [])) (omega (arith, length-append l (b ∷ []))))

pub keep_full : (l : List ℕ) (b : ℕ) → length l ≡ most_kept → l ≡ keeping l b
keep_full l b h = rw (take-append-le most_kept l (b ∷ []) (omega arith)) (sym (take_all most_kept l (omega arith)))

-- what owning a struct tells of a field that is an array, without the identity map that stands there
pub field_length : (k : ℕ) (xs : List ℕ) → length (map (λ (v : ℕ). v) xs) ≡ k → length xs ≡ k
field_length k xs h = ap length (sym (map-id xs)) ∙ h

-- Laws of the decoder: how a word's digits go on, when a line is bad, that the decoder's statement admits one answer, and that the
-- first 13 bytes decide any line: with a `c`, a space and eleven digits in front no line has a word.
use mathlib.Core.Path.{◌≡◌, refl, ap, sym, ◌∙◌}
use mathlib.Core.Bool.{Bool, true, false, not, cond, ◌||◌}
use mathlib.Core.List.{List, [], ◌∷◌}
use mathlib.Core.Logic.{⊎_elim}
use Prim.Native.Nat.{ℕ, zero, suc, ◌+◌, ◌*◌, ◌-◌, ◌^◌, ◌≤◌, ◌<◌}
use native.Mathlib.Numerals.{add-one}
use native.Mathlib.Nat.{pow-suc, pow-le-pow_right, zero-lt-suc}
use native.Mathlib.Omega.{arith}
use lib.ListN.{length, get_or, drop, take}
use lib.Seq.{drop-cons, take_all, length-take-le}
use lib.Dec.{ltb, eqb}
use borrow.Author.Tests.{lt-ltb, le-ltb, ltb-false}
use Rattle.rules.proofs.Tests.{lt_or, or_false}
use Rattle.std.specs.Prelude.{Result, Ok}
use Rattle.calls.specs.Line.{tick_letter, complete_letter, space, digit0, digit9, foreign, all_digits, value, bad, completion, word_of, call_of}
use Rattle.calls.specs.declared.Call.{Call}
use Rattle.calls.specs.declared.Call.TheVariants.{Tick}
use Rattle.calls.specs.declared.BadLine.{BadLine}

-- ---------------------------------------------------------------------------------------------------------------------------
-- the digits from place i on

pub value-turn : (s : List ℕ) (i v : ℕ) → i < length s → value v (drop i s) ≡ value (v * 10 + (get_or s i 0 - digit0)) (drop (i + 1) s)
unfolding value
value-turn s i v h = rw (add-one, drop-cons s i 0)

pub digits_turn : (s : List ℕ) (i : ℕ) → i < length s → foreign (get_or s i 0) ≡ false → all_digits (drop i s) ≡ all_digits (drop (i + 1) s)
unfolding all_digits
digits_turn s i h e = rw (add-one, drop-cons s i 0 h, e)

pub digits_stop : (s : List ℕ) (i : ℕ) → i < length s → foreign (get_or s i 0) ≡ true → all_digits (drop i s) ≡ false
unfolding all_digits
digits_stop s i h e = rw (drop-cons s i 0 h, e)

-- a digit is between its bounds, and so is the number behind i digits
pub digit_fits : (d : ℕ) → foreign d ≡ false → (digit0 ≤ d) × (d ≤ digit9)
digit_fits d e = let b = or_false (ltb d digit0) (ltb digit9 d) e in (ltb-false d digit0 b.0, ltb-false digit9 d b.1)

pub number_fits : (i v d : ℕ) → v < 10 ^ i → d ≤ digit9 → v * 10 + (d - digit0) < 10 ^ (i + 1)
number_fits i v d h k = let e : 10 ^ (i + 1) ≡ 10 ^ i * 10 = ap (λ (n : ℕ). 10 ^ n) (add-one i) ∙ pow-suc 10 i in omega arith

pub ten_digits : (i : ℕ) → i ≤ 10 → 10 ^ i ≤ 10000000000
ten_digits i h = pow-le-pow_right (zero-lt-suc 9) h

-- ---------------------------------------------------------------------------------------------------------------------------
-- a word

abbrev pub sized : List ℕ → Bool
sized s = ltb (length s) 1 || ltb 10 (length s)

pub word-sized : (s : List ℕ) → sized s ≡ true → word_of s ≡ bad
unfolding word_of
word-sized s e = rw e

module _ (s : List ℕ) (few : sized s ≡ false) where
  pub few_digits : (1 ≤ length s) × (length s ≤ 10)
  few_digits = let b = or_false (ltb (length s) 1) (ltb 10 (length s)) few in (ltb-false (length s) 1 b.0, ltb-false 10 (length s) b.1)

  pub word-foreign : all_digits s ≡ false → word_of s ≡ bad
  unfolding word_of
  word-foreign e = rw (few, e)

  pub word-large : all_digits s ≡ true → 4294967295 < value 0 s → word_of s ≡ bad
  unfolding word_of
  word-large e h = rw (few, e, lt-ltb _ _ h)

  pub word_read : all_digits s ≡ true → value 0 s ≤ 4294967295 → word_of s ≡ Ok (value 0 s)
  unfolding word_of
  word_read e h = rw (few, e, le-ltb _ _ h)

-- ---------------------------------------------------------------------------------------------------------------------------
-- a call

pub call_none : (s : List ℕ) → length s ≡ 0 → call_of s ≡ bad
unfolding call_of
call_none [] h = refl
call_none (x ∷ s) h = absurd (omega arith)

pub call_letter : (s : List ℕ) → length s ≡ 1 → call_of s ≡ cond (eqb (get_or s 0 0) tick_letter) (Ok Tick) bad
unfolding call_of
call_letter [] h = absurd (omega arith)
call_letter (x ∷ []) h = refl
call_letter (x ∷ y ∷ s) h = absurd (omega arith)

pub call_longer : (s : List ℕ) → 2 ≤ length s → call_of s ≡ cond (not (eqb (get_or s 0 0) complete_letter) || not (eqb (get_or s 1 0) space)) bad (completion (word_of (drop 2 s)))
unfolding call_of
call_longer [] h = absurd (omega arith)
call_longer (x ∷ []) h = absurd (omega arith)
call_longer (x ∷ y ∷ s) h = refl

-- the decoder's statement admits one answer
pub call_one : (s : List ℕ) (r q : Result Call BadLine) → r ≡ call_of s → q ≡ call_of s → r ≡ q
call_one s r q a b = a ∙ sym b

-- ---------------------------------------------------------------------------------------------------------------------------
-- the first 13 bytes

word-front : (m : ℕ) (s : List ℕ) → 11 ≤ m → word_of (take m s) ≡ word_of s
word-front m s h =
    ⊎_elim
    (λ l.
    let e = length-take-le m s (omega arith) in
    word-sized (take m s) (long (take m s) (omega arith)) ∙ sym (word-sized s (long s (omega arith))))
    (λ l. ap word_of (take_all m s l)) (lt_or m (length s)) where
      long : (l : List ℕ) → 10 < length l → sized l ≡ true
      long l k = rw (le-ltb (length l) 1 (omega arith), lt-ltb 10 (length l) k)

pub call_front : (m : ℕ) (s : List ℕ) → 13 ≤ m → call_of (take m s) ≡ call_of s
unfolding call_of
call_front zero s h = absurd (omega arith)
call_front (suc zero) s h = absurd (omega arith)
call_front (suc (suc m)) [] h = refl
call_front (suc (suc m)) (x ∷ []) h = refl
call_front (suc (suc m)) (x ∷ y ∷ s) h = rw (word-front m s (omega arith))

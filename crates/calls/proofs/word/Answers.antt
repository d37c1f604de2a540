-- A byte that is no digit decides; behind the last digit nothing is left: all are digits, and the number is their value.
use Rattle.std.proofs.Common.{◌≡◌, ◌∙◌, sym, ap, ℕ, ◌≤◌, ◌<◌, List, [], length, drop, true, false, get_or, arith, Result, Ok, Err, MatchResult}
use Rattle.std.proofs.lemmas.Bool.Decides.{nat_tests}
use Rattle.std.specs.Result.{OkIff, IsErrAnd}
use lib.ListN.{drop_of_length-le}
use Rattle.calls.specs.Line.{foreign, all_digits, value, word_of}
use Rattle.calls.specs.declared.BadLine.{BadLine}
use Rattle.calls.proofs.Decode.{value-turn, digits_turn, digits_stop, digit_fits, number_fits, sized, word-sized, word-foreign, word-large, word_read}
use Rattle.calls.proofs.word.Goals as goal

-- behind the last digit
module _ (s : List ℕ) (v i : ℕ) (e : length s ≤ i) where
  none_left : drop i s ≡ []
  none_left = drop_of_length-le s e

  all_read : all_digits (drop i s) ≡ all_digits s → all_digits s ≡ true
  unfolding all_digits
  all_read d = sym d ∙ ap all_digits none_left

  value_read : value v (drop i s) ≡ value 0 s → v ≡ value 0 s
  unfolding value
  value_read d = sym (ap (value v) none_left) ∙ d

-- a number that fits 32 bits is the word, and any other makes the line bad
settled : {E : Type 0} (Q : E → BadLine → Type 0) (s : List ℕ) → sized s ≡ false → all_digits s ≡ true → (v : ℕ) → v ≡ value 0 s
    → (t : Result ℕ E) (r : Result ℕ BadLine) → OkIff t (v < 4294967296) v → MatchResult t (λ x. r ≡ Ok x) (λ e. IsErrAnd r (Q e)) → r ≡ word_of s
settled Q s few d v n (Ok x) r o m = m ∙ ap Ok (o.1 ∙ n) ∙ sym (word_read s few d (omega (arith, o.0, n)))
settled Q s few d v n (Err e) (Ok x) o m = absurd m
settled Q s few d v n (Err e) (Err y) o m = sym (word-large s few d (omega (arith, o, n)))

pub returns-then-is_empty : goal.returns-then-is_empty
returns-then-is_empty c =
    let many : sized c.args.digits.now ≡ true = grind (arith, nat_tests) in
    sym (word-sized c.args.digits.now many)

pub returns-then-not-is_ascii_digit : goal.returns-then-not-is_ascii_digit
returns-then-not-is_ascii_digit c =
    let s = c.args.digits.now in
    let i : ℕ = c.loop-digit.digit-index in
    let few : sized s ≡ false = grind (arith, nat_tests) in
    let stops : foreign (get_or s i 0) ≡ true = grind (arith, nat_tests) in
    sym (word-foreign s few (sym c.loop-digit.invariant.digits ∙ digits_stop s i c.loop-digit-test.true stops))

pub loop-digit-preserved : goal.loop-digit-preserved
loop-digit-preserved c =
    let s = c.args.digits.now in
    let i : ℕ = c.loop-digit.digit-index in
    let v : ℕ = c.loop-digit.number in
    let h = c.loop-digit-test.true in
    let digit : foreign (get_or s i 0) ≡ false = grind (arith, nat_tests) in
    record {
      front = omega arith;
      small = rw c.from.ensures (number_fits i v (get_or s i 0) c.loop-digit.invariant.small (digit_fits (get_or s i 0) digit).1);
      digits = sym (digits_turn s i h digit) ∙ c.loop-digit.invariant.digits;
      number = rw c.from.ensures (sym (value-turn s i v h) ∙ c.loop-digit.invariant.number);
    }

pub returns : goal.returns
returns c =
    let s = c.args.digits.now in
    let i : ℕ = c.loop-digit.digit-index in
    let v : ℕ = c.loop-digit.number in
    let few : sized s ≡ false = grind (arith, nat_tests) in
    let d = all_read s v i c.loop-digit-test.false c.loop-digit.invariant.digits in
    let n : v ≡ value 0 s = value_read s v i c.loop-digit-test.false c.loop-digit.invariant.number in
    settled _ s few d v n c.try_from.result c.map_err.result c.try_from.ensures c.map_err.ensures.cases

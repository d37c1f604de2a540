-- A line of two bytes and a word, as `call_of` goes by cases: what the word is answered settles the line.
use Rattle.std.proofs.Common.{◌≡◌, ◌∙◌, sym, ap, not, ◌||◌, ◌≤◌, ℕ, false, length, get_or, arith, List, Result, Ok, Err, IsErr, take, drop, refl, ◌-◌}
use Rattle.std.proofs.lemmas.Bool.Decides.{nat_tests}
use Rattle.std.specs.Prelude.{eqb}
use Rattle.rules.proofs.Parts.{part_from}
use Rattle.calls.specs.Line.{complete_letter, space, word_of, completion, call_of}
use Rattle.calls.specs.declared.BadLine.{BadLine}
use Rattle.calls.proofs.Decode.{call_longer}
use Rattle.calls.proofs.call_of.Goals as goal

begins : (s : List ℕ) (r : Result ℕ BadLine) → 2 ≤ length s → (not (eqb (get_or s 0 0) complete_letter) || not (eqb (get_or s 1 0) space)) ≡ false
    → r ≡ word_of (take (length s - 2) (drop 2 s)) → completion r ≡ call_of s
begins s r h e w = ap completion (w ∙ ap word_of (part_from s 2)) ∙ sym (call_longer s h ∙ rw e)

-- all bad lines are one
one_bad : {A : Type 0} (r q : Result A BadLine) → IsErr r → IsErr q → r ≡ q
one_bad (Err e) (Err d) x y = refl
one_bad (Err e) (Ok b) x y = cc
one_bad (Ok a) q x y = cc

pub returns-in_ok-word-in-99 : goal.returns-in_ok-word-in-99
returns-in_ok-word-in-99 c =
    let starts : (not (eqb (get_or c.args.line.now 0 0) complete_letter) || not (eqb (get_or c.args.line.now 1 0) space)) ≡ false = grind (arith, nat_tests) in
    sym (ap completion c.in_ok-word-in-99.was) ∙ begins _ _ (omega arith) starts c.word.ensures

pub returns-in_err-word-in-99 : goal.returns-in_err-word-in-99
returns-in_err-word-in-99 c =
    let starts : (not (eqb (get_or c.args.line.now 0 0) complete_letter) || not (eqb (get_or c.args.line.now 1 0) space)) ≡ false = grind (arith, nat_tests) in
    one_bad c.from_residual.result (completion (Err c.in_err-word-in-99.field-0.0)) c.from_residual.ensures.0 refl
    ∙ sym (ap completion c.in_err-word-in-99.was) ∙ begins _ _ (omega arith) starts c.word.ensures

-- The kit's digits are the fewest that hold the number, which are its digits with no zero in front.
use Rattle.std.proofs.Common.{◌∙◌, ap, ◌++◌, List, ℕ, rules}
use Rattle.text.proofs.Digits.{digits_decimal}
use Rattle.text.proofs.put_number.Goals as goal

pub returns-clause-bytes : goal.returns-clause-bytes
returns-clause-bytes g c =
    let d = c.decimal-count.ensures in
    c.put_text.ensures ∙ ap (λ (ds : List ℕ). c.args.line.now.items ++ ds) (d.digits ∙ digits_decimal _ _ (search rules) d.len)

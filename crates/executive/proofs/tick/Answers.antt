-- Where a refusal stands nothing changes; where none does the state is in range, as that of a machine is.
use mathlib.Core.Path.{◌∙◌, sym}
use Rattle.std.proofs.Common.{rules}
use Rattle.rules.specs.Steps.{ticking}
use Rattle.rules.proofs.Answers.{step-refl}
use Rattle.executive.proofs.Judging.{refused-by, carried_out, fits_by, cycle_by}
use Rattle.executive.proofs.Lent.{same_reference, given_back}
use Rattle.executive.proofs.tick.Goals as goal

pub returns-in-Err : goal.returns-in-Err
returns-in-Err c =
    let s = c.args.state.now in
    step-refl _ _ (refused-by s c.in-Err.refusal (ticking s) (sym c.accepts.ensures ∙ c.in-Err.is))

pub invariant_of-machine : goal.invariant_of-machine
invariant_of-machine c =
    let s = c.args.state.now in
    let e = sym c.accepts.ensures ∙ c.in_default.is in
    record { fits = fits_by s _ e; cycle_below = cycle_by s _ e }

pub returns : goal.returns
returns c =
    let s = c.args.state.now in
    let same = same_reference ticking _ _ _ c.tick.ensures in
    let carried = carried_out s _ (sym c.accepts.ensures ∙ c.in_default.is) (ticking s) in
    step-refl _ _ (given_back ticking _ _ _ c.tick.ensures _ (search (rules, same)) ∙ carried)

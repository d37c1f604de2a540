-- The parts of refusal 16, in the order in which they are tested.
use Rattle.std.proofs.Common.{ap, sym, Bool}
use mathlib.Core.Bool.{◌&&◌}
use mathlib.Core.Path.{◌∙◌}
use Rattle.rules.specs.Range.{tasks_fit, rows_fit, order_fits}
use Rattle.rules.proofs.Tests.{and_not_left}
use Rattle.rules.proofs.Range.{in_range-parts}
use Rattle.executive.proofs.range.in_range.Goals as goal

pub returns-then-sizes_fit : goal.returns-then-sizes_fit
returns-then-sizes_fit c =
    let s = c.args.state.now in
    let sized = sym c.sizes_fit.ensures ∙ c.if-sizes_fit.true in
    rw (c.times_fit.ensures, c.dispatches_fit.ensures, c.rows_fit.ensures, c.order_fits.ensures)
    (sym (in_range-parts s ∙ ap (λ (b : Bool). b && (tasks_fit s && rows_fit s && order_fits s)) sized))

pub returns-else-sizes_fit : goal.returns-else-sizes_fit
returns-else-sizes_fit c =
    let not_sized = c.if-sizes_fit.false in
    not_sized ∙ sym (in_range-parts c.args.state.now ∙ and_not_left _ _ (sym c.sizes_fit.ensures ∙ not_sized))

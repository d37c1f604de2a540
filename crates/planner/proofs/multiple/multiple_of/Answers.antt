use Rattle.std.proofs.Common.{ap, arith}
use Rattle.rules.specs.declared.TaskRow.{TaskRow}
use Rattle.planner.proofs.Multiples.{multiple_first, multiple_more, both}
use Rattle.planner.proofs.multiple.multiple_of.Goals as goal

pub loop-i-init : goal.loop-i-init
loop-i-init c = multiple_first _

pub loop-i-preserved : goal.loop-i-preserved
loop-i-preserved c =
    multiple_more _ _ _ _ (ap (λ (v : TaskRow). v.period) c.at.ensures) c.loop-i.invariant _ c.in_ok-multiple.ensures

pub returns-in_err-multiple : goal.returns-in_err-multiple
returns-in_err-multiple c =
    rw c.from_residual.ensures
    (λ e p q common.
    let d = both _ _ _ _ (ap (λ (v : TaskRow). v.period) c.at.ensures) c.loop-i.invariant e (λ k u. common k (omega arith)) in
    c.in_err-multiple.ensures e p q d.0 d.1)

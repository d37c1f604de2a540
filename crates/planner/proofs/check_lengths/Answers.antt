use Rattle.std.proofs.Common.{arith}
use Rattle.rules.proofs.Refusals.{none_under_two, none_under_three}
use Rattle.planner.proofs.check_lengths.Goals as goal

pub returns : goal.returns
returns c =
    none_under_three _ _ (none_under_two _ _ (omega arith) (omega arith) (omega arith)) (omega arith) (omega arith)

use Rattle.std.proofs.Common.{ap}
use Rattle.rules.specs.Fresh.{halted_zeros}
use Rattle.rules.specs.Views.{set_halted}
use Rattle.rules.specs.declared.State.{State}
use mathlib.Core.Bool.{true}
use Rattle.executive.proofs.start.halted_zeros.Goals as goal

pub returns : goal.returns
unfolding halted_zeros
returns c = ap (λ (s : State). set_halted s true) c.at_rest-rest.ensures

-- No tables and no plan compute to these columns.
use Rattle.std.proofs.Common.{refl}
use Rattle.rules.specs.Fresh.{fresh_state}
use Rattle.executive.proofs.start.at_rest.Goals as goal

pub returns : goal.returns
unfolding fresh_state
returns c = refl

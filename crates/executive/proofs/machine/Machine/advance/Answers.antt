use Rattle.std.proofs.Common.{rules}
use Rattle.rules.specs.Steps.{advanced}
use Rattle.executive.proofs.machine.Machine.advance.Goals as goal

pub returns : goal.returns
unfolding advanced
returns c = search rules

-- The rows before `c` have their words.
use Rattle.std.proofs.Common.{◌≡◌}
use Rattle.rules.specs.Counting.{map_below}
use Rattle.rules.specs.Views.{set_inputs}
use Rattle.rules.specs.Steps.{takes}
use Rattle.executive.proofs.machine.Machine.start.Given as goal

abbrev pub invariant-loop-c : goal.invariant-loop-c
invariant-loop-c l = let s = l.initial.state in l.state ≡ set_inputs s (map_below (takes s l.task) l.c s.inputs)

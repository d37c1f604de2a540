-- The rows before `c` have their words.
use Rattle.std.proofs.Common.{◌≡◌}
use Rattle.rules.specs.Counting.{map_below}
use Rattle.rules.specs.Views.{set_buffers}
use Rattle.rules.specs.Steps.{delivers}
use Rattle.executive.proofs.machine.Machine.deliver.Given as goal

abbrev pub invariant-loop-c : goal.invariant-loop-c
invariant-loop-c l = let s = l.initial.state in l.state ≡ set_buffers s (map_below (delivers s) l.c s.buffers)

-- The rows before `c` have their words.
use Rattle.std.proofs.Common.{◌≡◌}
use Rattle.rules.specs.Counting.{map_below}
use Rattle.rules.specs.Views.{set_buffers}
use Rattle.rules.specs.Steps.{posts}
use Rattle.executive.proofs.machine.Machine.end.Given as goal

abbrev pub invariant-loop-c : goal.invariant-loop-c
invariant-loop-c l = let s = l.initial.state in l.state ≡ set_buffers s (map_below (posts s l.task l.word) l.c s.buffers)

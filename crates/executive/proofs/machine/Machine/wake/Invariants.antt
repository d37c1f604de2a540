-- The tasks before `i` that are dispatched wait, and the cycle is recorded for them.
use Rattle.std.proofs.Common.{◌≡◌}
use Rattle.rules.specs.Counting.{map_below}
use Rattle.rules.specs.Views.{set_tasks, set_dispatches}
use Rattle.rules.specs.Steps.{wakes, records}
use Rattle.executive.proofs.machine.Machine.wake.Given as goal

abbrev pub invariant-loop-i : goal.invariant-loop-i
invariant-loop-i l =
    let s = l.initial.state in
    l.state ≡ set_dispatches (set_tasks s (map_below (wakes s) l.i s.tasks)) (map_below (records s) l.i s.dispatches)

-- The two parts of `dispatched`: "its delayed buffers go to their inputs", and "it is waiting, t is recorded".
use Rattle.rules.specs.Counting.{map_below}
use Rattle.rules.specs.Views.{set_tasks, set_dispatches, set_inputs}
use Rattle.rules.specs.Steps.{samples, wakes, records}
use Rattle.rules.specs.declared.State.{State}

abbrev pub sampled : State → State
sampled s = set_inputs s (map_below (samples s) s.rows s.inputs)

abbrev pub woken : State → State
woken s = set_dispatches (set_tasks s (map_below (wakes s) s.count s.tasks)) (map_below (records s) s.count s.dispatches)

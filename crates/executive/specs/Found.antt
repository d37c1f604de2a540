-- What is found, if it is there: the task that misses its deadline, the task that runs, the refusal.
use Rattle.std.specs.Prelude.{Bool, cond, ℕ, Option, Some, None, Result, Ok, Err, ltb}
use Rattle.rules.specs.Range.{in_range}
use Rattle.rules.specs.Steps.{missing, some_runs, running}
use Rattle.rules.specs.declared.State.{State}
use Rattle.rules.specs.declared.Refusal.{Refusal}
use Rattle.rules.specs.declared.Refusal.TheVariants.{Halted, OutOfRange}

abbrev pub found : Bool → ℕ → Option ℕ
found is x = cond is (Some x) None

-- "the lowest such task"
abbrev pub missing_task : State → Option ℕ
missing_task s = found (ltb (missing s) s.count) (missing s)

-- "the highest-priority task not idle"
abbrev pub running_task : State → Option ℕ
running_task s = found (some_runs s) (running s)

-- "Tick and completion test 16, 15, 14 in that order": the first two
abbrev pub accepts : State → Result (Unit {0}) Refusal
accepts s = cond (in_range s) (cond s.halted (Err Halted) (Ok tt)) (Err OutOfRange)

-- No place before the task's names a task that is not idle.
use Rattle.std.proofs.Common.{◌≡◌, ℕ, ◌<◌, false}
use Rattle.rules.specs.Steps.{busy}
use Rattle.executive.proofs.machine.Machine.running_task.Given as goal

abbrev pub invariant-loop-task : goal.invariant-loop-task
invariant-loop-task l = (j : ℕ) → j < l.task-index → busy l.state j ≡ false

-- Marks and phases in words: a mark is 0 or 1; a phase is 0 idle, 1 waiting, 2 started.
use Rattle.std.specs.Prelude.{Bool, cond, ℕ, eqb}
use Rattle.rules.specs.Views.{task_in}
use Rattle.rules.specs.declared.Phase.{Phase}
use Rattle.rules.specs.declared.Phase.TheVariants as phase
use Rattle.rules.specs.declared.Task.{Task}

abbrev pub mark_word : Bool → ℕ
mark_word b = cond b 1 0

abbrev pub mark_from : ℕ → Bool
mark_from w = eqb w 1

abbrev pub phase_word : Phase → ℕ
phase_word phase.Idle = 0
phase_word phase.Waiting = 1
phase_word phase.Started = 2

abbrev pub phase_from : ℕ → Phase
phase_from w = cond (eqb w 1) phase.Waiting (cond (eqb w 2) phase.Started phase.Idle)

abbrev pub task_word : Task → ℕ
task_word t = phase_word t.phase

abbrev pub task_from : ℕ → Task
task_from w = task_in (phase_from w)

abbrev pub idle_task : Task
idle_task = task_in phase.Idle

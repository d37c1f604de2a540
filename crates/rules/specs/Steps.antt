-- 01, "Steps of the executive": the five steps of a tick, completion and the choice, on a state in range that is not halted.
use Rattle.std.specs.Prelude.{Bool, true, not, cond, ◌&&◌, ℕ, ◌+◌, ◌%◌, set, eqb, ltb}
use Rattle.rules.specs.Counting.{first_of, map_below}
use Rattle.rules.specs.Views.{idle, waiting, task_in, period, deadline, sender, receiver, undelayed, ordered, phase_of, output, dispatch, buffer, set_tasks, set_outputs, set_dispatches, set_buffers, set_inputs, set_cycle, set_halted}
use Rattle.rules.specs.declared.Phase.TheVariants as phase
use Rattle.rules.specs.declared.Task.{Task}
use Rattle.rules.specs.declared.State.{State}
use Rattle.rules.specs.declared.Step.{Step}
use Rattle.rules.specs.declared.Answer.{Answer}
use Rattle.rules.specs.declared.Answer.TheVariants as answer
use Rattle.rules.specs.declared.Refusal.TheVariants.{NothingRuns}

abbrev pub step : Answer → State → Step
step a s = record { answer = a; state = s }

-- 1. "A deadline falls for each task where t and the deadline leave the same remainder by the period, except at the first
-- tick of all."
abbrev pub falls : State → ℕ → Bool
falls s i = s.ticked && eqb (s.cycle % period s i) (deadline s i % period s i)

-- "If one of these is not idle, the answer is Missed with the lowest such task, the state becomes halted, and nothing else
-- changes."
abbrev pub late : State → ℕ → Bool
late s i = falls s i && not (idle (phase_of s i))

abbrev pub missing : State → ℕ
missing s = first_of (late s) s.count

-- 2. "Each such task's output goes to the buffers of its delayed connections."
abbrev pub delivers : State → ℕ → ℕ → ℕ
delivers s c b = cond (not (undelayed s c) && falls s (sender s c)) (output s (sender s c)) b

unfoldable pub delivered : State → State
delivered s = set_buffers s (map_below (delivers s) s.rows s.buffers)

-- 3. "Each task whose period divides t is dispatched: its delayed buffers go to their inputs, it is waiting, t is recorded."
abbrev pub released : State → ℕ → Bool
released s i = eqb (s.cycle % period s i) 0

abbrev pub samples : State → ℕ → ℕ → ℕ
samples s c x = cond (not (undelayed s c) && released s (receiver s c)) (buffer s c) x

abbrev pub wakes : State → ℕ → Task → Task
wakes s i k = cond (released s i) (task_in phase.Waiting) k

abbrev pub records : State → ℕ → ℕ → ℕ
records s i t = cond (released s i) s.cycle t

unfoldable pub dispatched : State → State
dispatched s =
    set_dispatches
    (set_tasks (set_inputs s (map_below (samples s) s.rows s.inputs)) (map_below (wakes s) s.count s.tasks))
    (map_below (records s) s.count s.dispatches)

-- "The running task is the highest-priority task not idle": its place in the order, the count of tasks where all are idle
abbrev pub busy : State → ℕ → Bool
busy s k = not (idle (phase_of s (ordered s k)))

abbrev pub running_place : State → ℕ
running_place s = first_of (busy s) s.count

abbrev pub some_runs : State → Bool
some_runs s = ltb (running_place s) s.count

abbrev pub running : State → ℕ
running s = ordered s (running_place s)

-- 4. "Choose: the highest-priority task not idle runs. If it was waiting, its undelayed buffers go to their inputs and it is
-- started."
abbrev pub takes : State → ℕ → ℕ → ℕ → ℕ
takes s i c x = cond (undelayed s c && eqb (receiver s c) i) (buffer s c) x

unfoldable pub started_at : State → ℕ → State
started_at s i = set_tasks (set_inputs s (map_below (takes s i) s.rows s.inputs)) (set s.tasks i (task_in phase.Started))

unfoldable pub chosen : State → Step
chosen s =
    cond (some_runs s)
    (step (answer.Running (running s)) (cond (waiting (phase_of s (running s))) (started_at s (running s)) s))
    (step answer.Idle s)

-- 5. "The cycle becomes t + 1, or 0 at the common multiple."
unfoldable pub advanced : State → State
advanced s = set_cycle s (cond (eqb (s.cycle + 1) s.multiple) 0 (s.cycle + 1)) true

-- "Tick at cycle t, in this order": steps 1 to 5
unfoldable pub ticking : State → Step
ticking s =
    cond (ltb (missing s) s.count)
    (step (answer.Missed (missing s)) (set_halted s true))
    (step (chosen (dispatched (delivered s))).answer (advanced (chosen (dispatched (delivered s))).state))

-- "Completion with a word ends the running task: the word is its output, it becomes idle, and for each undelayed connection
-- from it whose receiver has the same recorded cycle the word goes to the buffer."
abbrev pub posts : State → ℕ → ℕ → ℕ → ℕ → ℕ
posts s i w c b = cond (undelayed s c && eqb (sender s c) i && eqb (dispatch s (receiver s c)) (dispatch s i)) w b

unfoldable pub ended_at : State → ℕ → ℕ → State
ended_at s i w =
    set_buffers
    (set_tasks (set_outputs s (set s.outputs i w)) (set s.tasks i (task_in phase.Idle)))
    (map_below (posts s i w) s.rows s.buffers)

-- "Then choose as in 4"; 14 is "completion while no task runs"
unfoldable pub completing : State → ℕ → Step
completing s w = cond (some_runs s) (chosen (ended_at s (running s) w)) (step (answer.Refused NothingRuns) s)

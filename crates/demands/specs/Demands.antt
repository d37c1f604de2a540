-- Demand 3: "Take any calls from an accepted fresh start, each on the state the last one gave, refused ones among them, before any
-- deadline is missed." Calls, moments and jobs of a run are defined in the rules (Runs); fresh start's own statement is the premise.
use Rattle.std.specs.Prelude.{◌≡◌, true, false, cond, List, ℕ, ◌+◌, ◌*◌, ◌≤◌, ◌<◌, get_or, length, take, eqb}
use Rattle.rules.specs.declared.State.{State}
use Rattle.rules.specs.declared.Step.{Step}
use Rattle.std.specs.Prelude.{Ok}
use Rattle.rules.specs.declared.Answer.TheVariants as answer
use Rattle.rules.specs.Sizes.{task_width, row_width}
use Rattle.rules.specs.Tables as table
use Rattle.rules.specs.Order.{IsMultiple}
use Rattle.rules.specs.Views.{started, period, deadline, sender, receiver, undelayed, phase_of}
use Rattle.rules.specs.Range.{in_range}
use Rattle.rules.specs.Fresh.{FreshIs}
use Rattle.rules.specs.Runs.{Call, Sent, Run, Runs, JobAt, Job, OrderKept, Numbered, Recorded, Sampled, TwoRuns}
use Rattle.reader.specs.Read.{ReadIs}
use Rattle.reader.specs.Tables.{Words, TablesAre}

-- "an accepted fresh start": r answers fresh start's call on the two tables, and the planner's verdict on them is that they are accepted
pub record AcceptedStart (tw cw : List ℕ) (r : Step) : Type 0 where
  pub fresh : FreshIs tw cw r
  pub accepted : fresh.plan.verdict ≡ Ok tt

-- a machine file was read and started: `read`, lent two tables, answers that it read t tasks and c connections, and fresh start, called on so
-- much of both tables, answers Idle
pub record FileStart (file : List ℕ) (r : Step) : Type 0 where
  pub lent_tasks : List ℕ
  pub lent_rows : List ℕ
  pub left_tasks : List ℕ
  pub left_rows : List ℕ
  pub t : ℕ
  pub c : ℕ
  pub read : ReadIs file lent_tasks lent_rows (Ok (record { tasks = t; connections = c })) left_tasks left_rows
  pub fresh : FreshIs (take (t * task_width) left_tasks) (take (c * row_width) left_rows) r
  pub idle : r.answer ≡ answer.Idle

-- the same of a file's own tables, by which the programs go: `Tables::of` answers these words, and fresh start, called on them, answers Idle
pub record TablesStart (file : List ℕ) (r : Step) : Type 0 where
  pub words : Words
  pub read : TablesAre file (Ok words)
  pub fresh : FreshIs words.tasks words.connections r
  pub idle : r.answer ≡ answer.Idle

-- the plan of a state is that of two tables: all that the demand asks of a plan is the tables' own
pub record Tabled (tw cw : List ℕ) (s : State) : Type 0 where
  pub count : s.count ≡ table.count tw
  pub rows : s.rows ≡ table.rows cw
  pub periods : (i : ℕ) → i < table.count tw → period s i ≡ table.period tw i
  pub deadlines : (i : ℕ) → i < table.count tw → deadline s i ≡ table.deadline tw i
  pub senders : (c : ℕ) → c < table.rows cw → sender s c ≡ table.sender cw c
  pub receivers : (c : ℕ) → c < table.rows cw → receiver s c ≡ table.receiver cw c
  pub kinds : (c : ℕ) → c < table.rows cw → undelayed s c ≡ eqb (table.kind cw c) 1
  pub multiple : IsMultiple tw s.multiple

-- "on a delayed connection, .. dispatch plus deadline is at most r; on an undelayed connection, .. dispatched at or before r": the rule
-- has job j of the sender of row c in view, for a job dispatched at tick r
abbrev pub InView : State → ℕ → ℕ → ℕ → Type 0
InView s c r j = j * period s (sender s c) + cond (undelayed s c) 0 (deadline s (sender s c)) ≤ r

-- "the output of the sender's last job" in view, "0 if there is none": v is what the rule names for row c, where ws are the sender's words
pub record Named (s : State) (c r : ℕ) (ws : List ℕ) (v : ℕ) : Type 0 where
  pub last : (j : ℕ) → InView s c r j → ((l : ℕ) → InView s c r l → l ≤ j) → (j < length ws) × (v ≡ get_or ws j 0)
  pub none : ((j : ℕ) → InView s c r j → ⊥) → v ≡ 0

-- "Each word a started job has read is the one that 01's sampling rule names from dispatch ticks and deadlines, with execution times
-- nowhere in the rule."
abbrev pub ReadsAsNamed : State → Run → Type 0
ReadsAsNamed s run = (cs : List Call) → Sent cs → (i k : ℕ) (x : ℕ → ℕ) → JobAt s (run cs) i k x → (c : ℕ) → c < s.rows → receiver s c ≡ i →
    Named s c (k * period s i) ((run cs).words (sender s c)) (x c)

-- the demand on the runs from a start
pub record Demand (s : State) (run : Run) : Type 0 where
  -- "While a task runs, no task that sends to it undelayed has an unfinished job."
  pub order_kept : OrderKept s run
  -- a started job of number k is the one dispatched at tick k periods, its task's latest dispatch, and that tick's cycle is recorded
  pub numbered : Numbered s run
  pub recorded : Recorded s run
  -- "Each word a started job has read is the one that 01's sampling rule names": in 01's words, and by the count of the sender's jobs
  pub named : ReadsAsNamed s run
  pub sampled : Sampled s run
  -- "So take two runs of one plan, where jobs of the same task and number that read equal words deliver equal words: every job started
  -- in both reads the same words in both, however long anything took."
  pub two_runs : TwoRuns s run
  -- besides: the state stays in range, so that no call is refused by 16
  pub in_range : (cs : List Call) → Sent cs → in_range (run cs).state ≡ true
  -- whoever runs is started
  pub runner_started : (cs : List Call) → Sent cs → (run cs).state.halted ≡ false → (i : ℕ) → Runs (run cs).state i →
      started (phase_of (run cs).state i) ≡ true
  -- a job that delivers was started
  pub delivered_started : (cs : List Call) → Sent cs → (i k : ℕ) → k < length ((run cs).words i) → (x : ℕ → ℕ) × Job s run cs i k x

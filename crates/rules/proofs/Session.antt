-- 01, "Numbers from the bench": the session, run on the rules by computation, from its machine file and its plan to the words that
-- each job reads; and the runs that tell the slips about undelayed words and resumed tasks from the rules.
use mathlib.Core.Path.{◌≡◌, refl}
use mathlib.Core.List.{List, [], ◌∷◌, ◌++◌}
use Prim.Native.Nat.{ℕ, suc}
use lib.ListN.{get_or, replicate}
use Rattle.rules.specs.Sizes.{most_rows}
use Rattle.rules.specs.File.{contents_of, records, onward, item_at, marked, task_row, connection_row, task_words, connection_words}
use Rattle.rules.specs.Plan.{PlanIs, internal_deadline, internal_criticality}
use Rattle.rules.specs.Views.{buffer, input, set_buffers}
use Rattle.rules.specs.Range.{in_range}
use Rattle.rules.specs.Steps.{delivered, dispatched, started_at, chosen, advanced, ticking, ended_at, completing}
use Rattle.rules.specs.Calls.{judged, tick_of, complete_of}
use Rattle.rules.specs.Fresh.{fresh_state}
use Rattle.rules.specs.Runs.{Call, Call.tick, Call.complete, start, after}
use Rattle.rules.specs.declared.State.{State}
use Rattle.rules.specs.declared.Plan.{Plan}
use Rattle.rules.specs.declared.Step.{Step}
use Rattle.rules.specs.declared.Answer.{Answer}
use Rattle.rules.specs.declared.Answer.TheVariants.{Running, Idle}
use Rattle.rules.proofs.DecidingPlans.{plan_is}
use Rattle.rules.proofs.Bench.{undelayed, accepted, ticks}

-- ---------------------------------------------------------------------------------------------------------------------------
-- The file, the tables and the plan

-- "tasks (period, deadline, compute, criticality, flag) 0: 5, 5, 1, 1, 0; 1: 20, 20, 3, 1, 0; 2: 10, 10, 2, 1, 0"
abbrev pub session_tasks : List ℕ
session_tasks = 5 ∷ 5 ∷ 1 ∷ 1 ∷ 0 ∷ 20 ∷ 20 ∷ 3 ∷ 1 ∷ 0 ∷ 10 ∷ 10 ∷ 2 ∷ 1 ∷ 0 ∷ []

-- "Undelayed rows: 0 to 1, 0 to 2, 1 to 2."
abbrev pub session_rows : List ℕ
session_rows = undelayed 0 1 ++ undelayed 0 2 ++ undelayed 1 2

-- the same as a machine file: each record behind its mark, a TK of eight bytes, a CN of three, and EN
abbrev pub session_file : List ℕ
session_file =
    (0x54 ∷ 0x4B ∷ 5 ∷ 0 ∷ 5 ∷ 0 ∷ 1 ∷ 0 ∷ 1 ∷ 0 ∷ [])
    ++ (0x54 ∷ 0x4B ∷ 20 ∷ 0 ∷ 20 ∷ 0 ∷ 3 ∷ 0 ∷ 1 ∷ 0 ∷ [])
    ++ (0x54 ∷ 0x4B ∷ 10 ∷ 0 ∷ 10 ∷ 0 ∷ 2 ∷ 0 ∷ 1 ∷ 0 ∷ [])
    ++ (0x43 ∷ 0x4E ∷ 0 ∷ 1 ∷ 1 ∷ [])
    ++ (0x43 ∷ 0x4E ∷ 0 ∷ 2 ∷ 1 ∷ [])
    ++ (0x43 ∷ 0x4E ∷ 1 ∷ 2 ∷ 1 ∷ [])
    ++ (0x45 ∷ 0x4E ∷ [])

pub session_read : (task_words (contents_of session_file) ≡ session_tasks) × (connection_words (contents_of session_file) ≡ session_rows)
unfolding records onward item_at marked task_row connection_row task_words connection_words
session_read = (refl, refl)

abbrev pub session_plan : Plan
session_plan = accepted (0 ∷ 1 ∷ 2 ∷ []) (320 ∷ 639 ∷ 640 ∷ []) (1 ∷ 1 ∷ 1 ∷ []) 20

pub session_planned : PlanIs session_tasks session_rows session_plan
session_planned = (plan_is session_tasks session_rows session_plan).if_true refl

-- "place from 1, task, internal deadline, internal criticality"
abbrev listed : Plan → ℕ → List ℕ
listed r p = let i = get_or r.order p 0 in suc p ∷ i ∷ internal_deadline r i ∷ internal_criticality r i ∷ []

pub session_listed : listed session_plan 0 ∷ listed session_plan 1 ∷ listed session_plan 2 ∷ [] ≡
    (1 ∷ 0 ∷ 320 ∷ 1 ∷ []) ∷ (2 ∷ 1 ∷ 639 ∷ 1 ∷ []) ∷ (3 ∷ 2 ∷ 640 ∷ 1 ∷ []) ∷ []
session_listed = refl

-- ---------------------------------------------------------------------------------------------------------------------------
-- The run

abbrev pub session : State
session = fresh_state session_tasks session_rows session_plan

-- what a call shows: its answer, and the input and the buffer words of the three rows after it
pub record Line : Type 0 where
  pub answer : Answer
  pub inputs : List ℕ
  pub buffers : List ℕ

abbrev line : Answer → List ℕ → List ℕ → Line
line a inputs buffers = record { answer = a; inputs = inputs; buffers = buffers }

abbrev words : ℕ → ℕ → ℕ → List ℕ
words a b c = a ∷ b ∷ c ∷ []

abbrev shown : Step → Line
shown r =
    line r.answer (words (input r.state 0) (input r.state 1) (input r.state 2))
    (words (buffer r.state 0) (buffer r.state 1) (buffer r.state 2))

abbrev called : State → Call → Step
called s tick = tick_of s
called s (complete w) = complete_of s w

abbrev transcript : State → List Call → List Line
transcript s [] = []
transcript s (c ∷ cs) = shown (called s c) ∷ transcript (called s c).state cs

-- "Tick: 0 runs. Completions 11, 21: task 2 runs with 11 and 21. Completion 31: idle. At tick 5 task 0 completes with 12; nothing is
-- copied. At tick 10 it completes with 13; task 2 reads 13 and 21."
pub session_runs : transcript session (tick ∷ complete 11 ∷ complete 21 ∷ complete 31 ∷ ticks 5 ++ complete 12 ∷ ticks 5 ++ complete 13 ∷ []) ≡
    line (Running 0) (words 0 0 0) (words 0 0 0)
    ∷ line (Running 1) (words 11 0 0) (words 11 11 0)
    ∷ line (Running 2) (words 11 11 21) (words 11 11 21)
    ∷ line Idle (words 11 11 21) (words 11 11 21)
    ∷ replicate 4 (line Idle (words 11 11 21) (words 11 11 21))
    ++ line (Running 0) (words 11 11 21) (words 11 11 21)
    ∷ line Idle (words 11 11 21) (words 11 11 21)
    ∷ replicate 4 (line Idle (words 11 11 21) (words 11 11 21))
    ++ line (Running 0) (words 11 11 21) (words 11 11 21)
    ∷ line (Running 2) (words 11 13 21) (words 11 13 21)
    ∷ []
unfolding fresh_state in_range judged delivered dispatched started_at chosen advanced ticking ended_at completing
session_runs = refl

-- "task 2 above, still waiting when tick 5 comes", reads 11 and not 12: task 1 is at work when tick 5 comes, task 0 completes with
-- 12, and only then does task 1 resume and complete
pub late-runs : transcript session (tick ∷ complete 11 ∷ ticks 5 ++ complete 12 ∷ complete 21 ∷ []) ≡
    line (Running 0) (words 0 0 0) (words 0 0 0)
    ∷ line (Running 1) (words 11 0 0) (words 11 11 0)
    ∷ replicate 4 (line (Running 1) (words 11 0 0) (words 11 11 0))
    ++ line (Running 0) (words 11 0 0) (words 11 11 0)
    ∷ line (Running 1) (words 11 0 0) (words 11 11 0)
    ∷ line (Running 2) (words 11 11 21) (words 11 11 21)
    ∷ []
unfolding fresh_state in_range judged delivered dispatched started_at chosen advanced ticking ended_at completing
late-runs = refl

-- a preempted task resumes with the words that it has read. In a run from a fresh start the buffers of its undelayed rows still hold
-- those words; so the buffers are set anew here, in a state from outside, at tick 5 of the run above
abbrev altered : State
altered = let s = (after (start session) (tick ∷ complete 11 ∷ ticks 5)).state in set_buffers s (replicate most_rows 99)

pub resumed_runs : transcript altered (complete 12 ∷ complete 21 ∷ []) ≡
    line (Running 1) (words 11 0 0) (words 99 99 99) ∷ line (Running 2) (words 11 99 21) (words 99 99 21) ∷ []
unfolding fresh_state in_range judged delivered dispatched started_at chosen advanced ticking ended_at completing
resumed_runs = refl

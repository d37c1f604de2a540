-- Fresh start. "The planner and fresh start use 1 to 8." "A fresh state has all words and dispatch cycles 0, all tasks idle, cycle
-- 0, no tick yet, not halted." Past its counts "a fresh start puts zeros and idle there"; "a refused fresh start answers a halted
-- state of zeros, all idle, no tick yet".
use Rattle.std.specs.Prelude.{true, false, List, [], ℕ, replicate, eqb, Result, Ok, Err}
use Rattle.rules.specs.Counting.{column}
use Rattle.rules.specs.Sizes.{most_tasks, most_rows}
use Rattle.rules.specs.Tables.{count, rows, period, deadline, compute, criticality, flag, sender, receiver, kind}
use Rattle.rules.specs.Plan.{PlanIs}
use Rattle.rules.specs.Views.{task_in, set_halted}
use Rattle.rules.specs.Steps.{step}
use Rattle.rules.specs.Answers.{StepIs}
use Rattle.rules.specs.declared.Phase.TheVariants as phase
use Rattle.rules.specs.declared.State.{State}
use Rattle.rules.specs.declared.Step.{Step}
use Rattle.rules.specs.declared.Plan.{Plan}
use Rattle.rules.specs.declared.Refusal.{Refusal}
use Rattle.rules.specs.declared.Answer.TheVariants as answer

-- the columns of the tables, and all at rest
unfoldable pub fresh_state : List ℕ → List ℕ → Plan → State
fresh_state tw cw p = record {
  count = count tw;
  rows = rows cw;
  periods = column (period tw) (count tw) 0 most_tasks;
  deadlines = column (deadline tw) (count tw) 0 most_tasks;
  computes = column (compute tw) (count tw) 0 most_tasks;
  criticalities = column (criticality tw) (count tw) 0 most_tasks;
  enforced = column (λ i. eqb (flag tw i) 1) (count tw) false most_tasks;
  senders = column (sender cw) (rows cw) 0 most_rows;
  receivers = column (receiver cw) (rows cw) 0 most_rows;
  undelayed = column (λ c. eqb (kind cw c) 1) (rows cw) false most_rows;
  order = p.order;
  multiple = p.multiple;
  tasks = replicate most_tasks (task_in phase.Idle);
  outputs = replicate most_tasks 0;
  dispatches = replicate most_tasks 0;
  buffers = replicate most_rows 0;
  inputs = replicate most_rows 0;
  cycle = 0;
  ticked = false;
  halted = false;
}

-- no tables and no plan, halted
abbrev pub no_plan : Plan
no_plan = record {
  verdict = Ok tt;
  order = replicate most_tasks 0;
  deadlines = replicate most_tasks 0;
  criticalities = replicate most_tasks 0;
  multiple = 0;
}

unfoldable pub halted_zeros : State
unfolding fresh_state
halted_zeros = set_halted (fresh_state [] [] no_plan) true

-- by the planner's verdict
unfoldable pub start_of : List ℕ → List ℕ → Plan → Result (Unit {0}) Refusal → Step
start_of tw cw p (Ok _) = step answer.Idle (fresh_state tw cw p)
start_of tw cw p (Err f) = step (answer.Refused f) halted_zeros

-- the answer of fresh start to any two tables: it follows the planner's answer
pub record FreshIs (tw cw : List ℕ) (r : Step) : Type 0 where
  pub plan : Plan
  pub planned : PlanIs tw cw plan
  pub starts : StepIs (start_of tw cw plan plan.verdict) r

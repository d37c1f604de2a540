-- What a refused planner answers, and what an accepted one is made of.
use Rattle.std.specs.Prelude.{◌≡◌, List, ℕ, replicate, Result, Ok, Err, MatchResult}
use Rattle.rules.specs.Sizes.{most_tasks}
use Rattle.rules.specs.Tables.{count}
use Rattle.rules.specs.Counting.{column}
use Rattle.rules.specs.Refusals as listed
use Rattle.rules.proofs.Refusals.{NoneUnder}
use Rattle.rules.specs.Answers.{number_of, place_of}
use Rattle.rules.specs.declared.Refusal.{Refusal}
use Rattle.rules.specs.Plan.{Accepts}
use Rattle.rules.specs.declared.Plan.{Plan}
use Rattle.planner.specs.declared.places.Tables.{Tables}
use Rattle.planner.specs.Internal.{deadline_over, criticality_over}
use Rattle.planner.specs.Sorting.{Ordered}

-- no number below k of the list stands against the tables
abbrev pub Clear : Tables → ℕ → Type 0
Clear t k = NoneUnder t.tasks.now t.connections.now k

-- the refusal of the list that stands against the tables
abbrev pub Refused : Tables → Refusal → Type 0
Refused t f = listed.Refusal t.tasks.now t.connections.now (number_of f) (place_of f)

-- the numbers below k are gone through
abbrev pub Checked : Tables → ℕ → Result (Unit {0}) Refusal → Type 0
Checked t k r = MatchResult r (λ _. Clear t k) (Refused t)

-- "a refused planner answers zeros throughout"
abbrev pub refused_plan : Refusal → Plan
refused_plan f = record {
  verdict = Err f;
  order = replicate most_tasks 0;
  deadlines = replicate most_tasks 0;
  criticalities = replicate most_tasks 0;
  multiple = 0;
}

-- the plan that is worked out from the square of chains and the common multiple
pub record WorkedOut (tw : List ℕ) (sq : List (List ℕ)) (multiple : ℕ) (r : Plan) : Type 0 where
  pub accepted : r.verdict ≡ Ok tt
  pub deadlines_are : r.deadlines ≡ column (λ i. deadline_over tw sq i (count tw)) (count tw) 0 most_tasks
  pub criticalities_are : r.criticalities ≡ column (λ i. criticality_over tw sq i (count tw)) (count tw) 0 most_tasks
  pub ordered : Ordered r.deadlines r.criticalities (count tw) r.order
  pub multiple_is : r.multiple ≡ multiple

-- a plan of tables that are not refused
pub record Planned (t : Tables) (r : Plan) : Type 0 where
  pub accepted : r.verdict ≡ Ok tt
  pub accepts : Accepts t.tasks.now t.connections.now r

-- such a plan, or the refusal that stands
abbrev pub Outcome : Tables → Result Plan Refusal → Type 0
Outcome t r = MatchResult r (Planned t) (Refused t)

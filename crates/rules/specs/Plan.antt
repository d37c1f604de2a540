-- What the planner answers. "An accepted planner answers the order, both internal numbers of each task and the common
-- multiple, with zeros past the last task; a refused planner answers zeros throughout."
use Rattle.std.specs.Prelude.{◌≡◌, List, ℕ, ◌≤◌, ◌<◌, get_or, length, Result, Ok, Err}
use Rattle.rules.specs.Sizes.{most_tasks}
use Rattle.rules.specs.Tables.{count}
use Rattle.rules.specs.Order.{IsDeadline, IsCriticality, IsMultiple, IsOrder}
use Rattle.rules.specs.Refusals.{Refusal, Sound}
use Rattle.rules.specs.declared.Plan.{Plan}
use Rattle.rules.specs.declared.Refusal as code
use Rattle.rules.specs.Answers.{number_of, place_of}

-- 32 places, with zeros from place n on
abbrev pub ZeroFrom : ℕ → List ℕ → Type 0
ZeroFrom n l = (length l ≡ most_tasks) × ((p : ℕ) → n ≤ p → get_or l p 0 ≡ 0)

-- the internal numbers of task i in a plan
abbrev pub internal_deadline : Plan → ℕ → ℕ
internal_deadline r i = get_or r.deadlines i 0

abbrev pub internal_criticality : Plan → ℕ → ℕ
internal_criticality r i = get_or r.criticalities i 0

pub record Accepts (tw cw : List ℕ) (r : Plan) : Type 0 where
  pub sound : Sound tw cw
  pub deadlines_are : (i : ℕ) → i < count tw → IsDeadline tw cw i (internal_deadline r i)
  pub criticalities_are : (i : ℕ) → i < count tw → IsCriticality tw cw i (internal_criticality r i)
  pub order_is : IsOrder (count tw) (internal_deadline r) (internal_criticality r) r.order
  pub multiple_is : IsMultiple tw r.multiple
  pub order_past : ZeroFrom (count tw) r.order
  pub deadlines_past : ZeroFrom (count tw) r.deadlines
  pub criticalities_past : ZeroFrom (count tw) r.criticalities

pub record Refuses (tw cw : List ℕ) (k p : ℕ) (r : Plan) : Type 0 where
  pub because : Refusal tw cw k p
  pub order_none : ZeroFrom 0 r.order
  pub deadlines_none : ZeroFrom 0 r.deadlines
  pub criticalities_none : ZeroFrom 0 r.criticalities
  pub multiple_none : r.multiple ≡ 0

-- by cases on the verdict, with the refusal's number and place
abbrev pub Judges : List ℕ → List ℕ → Result (Unit {0}) code.Refusal → Plan → Type 0
Judges tw cw (Ok _) r = Accepts tw cw r
Judges tw cw (Err f) r = Refuses tw cw (number_of f) (place_of f) r

-- the answer of the planner to any two tables
abbrev pub PlanIs : List ℕ → List ℕ → Plan → Type 0
PlanIs tw cw r = Judges tw cw r.verdict r

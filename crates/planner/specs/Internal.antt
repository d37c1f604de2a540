-- The internal numbers, as they are worked out from the square of chain lengths: the least of a task's own and those of the tasks
-- to which a chain leads.
use Rattle.std.specs.Prelude.{◌≡◌, cond, List, [], ℕ, zero, suc, ◌-◌, ◌*◌, ◌≤◌, ◌<◌, get_or, ltb, min}
use Rattle.rules.specs.Sizes.{parts, most_tasks}
use Rattle.rules.specs.Tables.{count, deadline, criticality}
use Rattle.rules.specs.Counting.{column}
use Rattle.planner.specs.Multiples.{Sized}
use Rattle.planner.specs.declared.internal.Numbers.{Numbers}
use Rattle.planner.specs.declared.internal.Columns.{Columns}

-- the lower of best and x where a chain leads to it; else best
abbrev pub lower : ℕ → ℕ → ℕ → ℕ
lower best chain x = cond (ltb 0 chain) (min best x) best

-- the least of own and each f j, for j below n with a chain to it
abbrev pub least_of : ℕ → (ℕ → ℕ) → (ℕ → ℕ) → ℕ → ℕ
least_of own chain f zero = own
least_of own chain f (suc n) = lower (least_of own chain f n) (chain n) (f n)

-- how many connections the longest chain from i to j has
abbrev pub between : List (List ℕ) → ℕ → ℕ → ℕ
between sq i j = get_or (get_or sq i []) j 0

-- the internal deadline and criticality of task i over the first n tasks
abbrev pub deadline_over : List ℕ → List (List ℕ) → ℕ → ℕ → ℕ
deadline_over tw sq i n = least_of (deadline tw i * parts) (between sq i) (λ j. deadline tw j * parts - between sq i j) n

abbrev pub criticality_over : List ℕ → List (List ℕ) → ℕ → ℕ → ℕ
criticality_over tw sq i n = least_of (criticality tw i) (between sq i) (criticality tw) n

-- what the working out reads: tasks within their sizes, and chains of at most 32 connections
pub record Workable (tw : List ℕ) (sq : List (List ℕ)) : Type 0 where
  pub most : count tw ≤ most_tasks
  pub sized : Sized tw
  pub short : (i j : ℕ) → i < count tw → j < count tw → between sq i j ≤ most_tasks

-- both numbers of task i
pub record NumbersAre (tw : List ℕ) (sq : List (List ℕ)) (i : ℕ) (r : Numbers) : Type 0 where
  pub deadline_is : r.deadline ≡ deadline_over tw sq i (count tw)
  pub criticality_is : r.criticality ≡ criticality_over tw sq i (count tw)

-- both numbers of each task by table position, zeros past the last
pub record ColumnsAre (tw : List ℕ) (sq : List (List ℕ)) (r : Columns) : Type 0 where
  pub deadlines_are : r.deadlines ≡ column (λ i. deadline_over tw sq i (count tw)) (count tw) 0 most_tasks
  pub criticalities_are : r.criticalities ≡ column (λ i. criticality_over tw sq i (count tw)) (count tw) 0 most_tasks

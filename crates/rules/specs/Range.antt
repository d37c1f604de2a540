-- 01, "State out of range means: a count or row outside the sizes or the ranges of 3 and 4, a common multiple outside 1 to
-- 720,720, a cycle or recorded dispatch cycle not below it, or an order that does not name each task once. What a state
-- holds past its counts is not judged". A criticality is a byte, a flag and a kind are marks: no state holds a wrong one.
use Rattle.std.specs.Prelude.{Bool, ◌&&◌, ℕ, eqb, leb, ltb}
use Rattle.rules.specs.Counting.{first_of, all_below}
use Rattle.rules.specs.Sizes.{most_tasks, most_rows, longest_period, most_multiple}
use Rattle.rules.specs.Views.{period, deadline, compute, sender, receiver, ordered, dispatch}
use Rattle.rules.specs.declared.State.{State}

-- "a count .. outside the sizes", "a common multiple outside 1 to 720,720, a cycle .. not below it"
abbrev pub sizes_fit : State → Bool
sizes_fit s =
    leb 1 s.count && leb s.count most_tasks && leb s.rows most_rows && leb 1 s.multiple
    && leb s.multiple most_multiple && ltb s.cycle s.multiple

-- "the ranges of 3": 1 to the deadline, 1 to the period, 1 to 10,000
abbrev pub times_fit : State → ℕ → Bool
times_fit s i = leb 1 (compute s i) && leb (compute s i) (deadline s i) && leb (deadline s i) (period s i) && leb (period s i) longest_period

-- "a .. recorded dispatch cycle not below it"
abbrev pub dispatch_fits : State → ℕ → Bool
dispatch_fits s i = ltb (dispatch s i) s.multiple

-- "the ranges of .. 4": sender and receiver are tasks
abbrev pub row_fits : State → ℕ → Bool
row_fits s c = ltb (sender s c) s.count && ltb (receiver s c) s.count

-- "an order that does not name each task once": each place names a task, and each task has a place; there are as many of one as of the other
abbrev pub place_fits : State → ℕ → Bool
place_fits s k = ltb (ordered s k) s.count

abbrev pub names : State → ℕ → ℕ → Bool
names s i k = eqb (ordered s k) i

abbrev pub place_of : State → ℕ → ℕ
place_of s i = first_of (names s i) s.count

abbrev pub has_place : State → ℕ → Bool
has_place s i = ltb (place_of s i) s.count

abbrev pub tasks_fit : State → Bool
tasks_fit s = all_below (times_fit s) s.count && all_below (dispatch_fits s) s.count

abbrev pub rows_fit : State → Bool
rows_fit s = all_below (row_fits s) s.rows

abbrev pub order_fits : State → Bool
order_fits s = all_below (place_fits s) s.count && all_below (has_place s) s.count

unfoldable pub in_range : State → Bool
in_range s = sizes_fit s && tasks_fit s && rows_fit s && order_fits s

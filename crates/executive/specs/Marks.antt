-- Marks by place: whose deadlines fall and who is dispatched.
use Rattle.std.specs.Prelude.{◌≡◌, Bool, false, ◌||◌, List, ℕ, zero, suc, ◌<◌, get_or, set, replicate}
use Rattle.rules.specs.Sizes.{most_tasks}
use Rattle.rules.specs.declared.State.{State}
use Rattle.executive.specs.declared.deadlines.Marks.{Marks}

-- whether p holds of some i below n
abbrev pub any_below : (ℕ → Bool) → ℕ → Bool
any_below p zero = false
any_below p (suc n) = any_below p n || p n

-- the mark at place i
abbrev pub marked : List Bool → ℕ → Bool
marked marks i = get_or marks i false

-- no mark, and one more
abbrev pub no_marks : Marks
no_marks = record { tasks = replicate most_tasks false; any = false }

abbrev pub with_mark : Marks → ℕ → Bool → Marks
with_mark m i b = record { tasks = set m.tasks i b; any = m.any || b }

-- the mark of each task that the state has is what the test says, and `any` whether there is one
pub record Tells (s : State) (test : State → ℕ → Bool) (m : Marks) : Type 0 where
  pub each : (i : ℕ) → i < s.count → marked m.tasks i ≡ test s i
  pub some : m.any ≡ any_below (test s) s.count

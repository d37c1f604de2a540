-- What a state in range gives each step, the fact that a machine carries: of its plan alone, so that no step changes it. Few enough tasks and
-- rows, deadlines of 1 to the period, rows that join tasks, and an order that names tasks.
use Rattle.std.specs.Prelude.{ℕ, ◌≤◌, ◌<◌}
use Rattle.rules.specs.Sizes.{most_tasks, most_rows}
use Rattle.rules.specs.Views.{period, deadline, sender, receiver, ordered}
use Rattle.rules.specs.declared.State.{State}

pub record Fits (s : State) : Type 0 where
  pub few : s.count ≤ most_tasks
  pub few_rows : s.rows ≤ most_rows
  pub low : (i : ℕ) → i < s.count → 1 ≤ deadline s i
  pub within : (i : ℕ) → i < s.count → deadline s i ≤ period s i
  pub sends : (c : ℕ) → c < s.rows → sender s c < s.count
  pub receives : (c : ℕ) → c < s.rows → receiver s c < s.count
  pub names : (k : ℕ) → k < s.count → ordered s k < s.count

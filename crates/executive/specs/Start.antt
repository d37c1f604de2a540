-- Fresh start: what the tables must fit, as accepted tables do.
use Rattle.std.specs.Prelude.{List, ℕ, ◌≤◌, ◌<◌}
use Rattle.rules.specs.Sizes.{most_tasks, most_rows, least_critical}
use Rattle.rules.specs.Tables.{count, rows, criticality, sender, receiver}

-- there are few enough tasks and rows for the columns, a criticality is a byte, and so is a sender or receiver
pub record Tabled (tw cw : List ℕ) : Type 0 where
  pub few : count tw ≤ most_tasks
  pub few_rows : rows cw ≤ most_rows
  pub bytes : (i : ℕ) → i < count tw → criticality tw i ≤ least_critical
  pub sends : (c : ℕ) → c < rows cw → sender cw c < most_tasks
  pub receives : (c : ℕ) → c < rows cw → receiver cw c < most_tasks

-- Whether a refusal stands at a place, by tests of the words of a row: 3 of a task; 4, 5 and 7 of a connection.
use Rattle.std.specs.Prelude.{◌≡◌, Bool, true, false, not, cond, ◌&&◌, ℕ, ◌%◌, ◌<◌, Option, Some, None, MatchOption, eqb, leb, ltb}
use Rattle.rules.specs.Sizes.{longest_period, least_critical}
use Rattle.rules.specs.Tables.{count, rows, period, sender, receiver, kind}
use Rattle.rules.specs.Rows.{task_row_at, connection_row_at}
use Rattle.rules.specs.declared.TaskRow.{TaskRow}
use Rattle.rules.specs.declared.ConnectionRow.{ConnectionRow}
use Rattle.planner.specs.declared.places.Tables.{Tables}

abbrev pub fit : TaskRow → Bool
fit v =
    leb 1 v.period && leb v.period longest_period && leb 1 v.deadline && leb v.deadline v.period
    && leb 1 v.compute && leb v.compute v.deadline && leb v.criticality least_critical && leb v.flag 1

abbrev pub joins : ConnectionRow → ℕ → Bool
joins r count = ltb r.sender count && ltb r.receiver count && leb r.kind 1

abbrev pub divides : ℕ → ℕ → Bool
divides a b = eqb (b % a) 0

abbrev pub uneven : TaskRow → TaskRow → Bool
uneven from to = not (divides from.period to.period) && not (divides to.period from.period)

abbrev pub raised : TaskRow → TaskRow → Bool
raised from to = ltb to.criticality from.criticality && eqb from.flag 0

-- row c stands in the table and joins two tasks that have periods
pub record Joined (t : Tables) (c : ℕ) : Type 0 where
  pub row : c < rows t.connections.now
  pub sender_task : sender t.connections.now c < count t.tasks.now
  pub receiver_task : receiver t.connections.now c < count t.tasks.now
  pub sender_period : 0 < period t.tasks.now (sender t.connections.now c)
  pub receiver_period : 0 < period t.tasks.now (receiver t.connections.now c)

abbrev pub AllJoined : Tables → Type 0
AllJoined t = (c : ℕ) → c < rows t.connections.now → Joined t c

-- the tasks that row c names
abbrev pub sender_of : Tables → ℕ → TaskRow
sender_of t c = task_row_at t.tasks.now (sender t.connections.now c)

abbrev pub receiver_of : Tables → ℕ → TaskRow
receiver_of t c = task_row_at t.tasks.now (receiver t.connections.now c)

-- both, where the row is undelayed
abbrev pub undelayed_at : Tables → ℕ → Option (TaskRow × TaskRow)
undelayed_at t c = cond (eqb (kind t.connections.now c) 1) (Some (sender_of t c, receiver_of t c)) None

-- the tests of 3 at task i, and of 4, 5 and 7 at row c
abbrev pub misfit_at : Tables → ℕ → Bool
misfit_at t i = not (fit (task_row_at t.tasks.now i))

abbrev pub stray_at : Tables → ℕ → Bool
stray_at t c = not (joins (connection_row_at t.connections.now c) (count t.tasks.now))

abbrev pub uneven_at : Tables → ℕ → Bool
uneven_at t c = eqb (kind t.connections.now c) 1 && uneven (sender_of t c) (receiver_of t c)

abbrev pub raised_at : Tables → ℕ → Bool
raised_at t c = eqb (kind t.connections.now c) 1 && raised (sender_of t c) (receiver_of t c)

-- the first place below n where the test is true
abbrev pub IsFirst : (ℕ → Bool) → ℕ → Option ℕ → Type 0
IsFirst test n r =
    MatchOption r ((p : ℕ) → p < n → test p ≡ false)
    (λ p. (p < n) × (test p ≡ true) × ((q : ℕ) → q < p → test q ≡ false))

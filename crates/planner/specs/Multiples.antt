-- The common multiple of the periods, as it is worked out: one period after the other, none once it is over 720,720.
use Rattle.std.specs.Prelude.{List, ℕ, ◌≤◌, ◌<◌, Option, MatchOption}
use Rattle.std.specs.Int.{◌∣◌}
use Rattle.rules.specs.Sizes.{most_multiple}
use Rattle.rules.specs.Tables.{count}
use Rattle.rules.specs.Order.{Common}
use Rattle.rules.specs.Refusals.{InSize}

-- each task's values are within their sizes
abbrev pub Sized : List ℕ → Type 0
Sized tw = (i : ℕ) → i < count tw → InSize tw i

-- m is the least number that both a and b divide, and at most 720,720
pub record MeetAt (a b m : ℕ) : Type 0 where
  pub some : 0 < m
  pub small : m ≤ most_multiple
  pub left : a ∣ m
  pub right : b ∣ m
  pub least : (e : ℕ) → 0 < e → e < m → a ∣ e → b ∣ e → ⊥

-- that number where there is one
abbrev pub Meet : ℕ → ℕ → Option ℕ → Type 0
Meet a b r = MatchOption r ((e : ℕ) → 0 < e → e ≤ most_multiple → a ∣ e → b ∣ e → ⊥) (MeetAt a b)

-- the same of all periods
pub record MultipleAt (tw : List ℕ) (m : ℕ) : Type 0 where
  pub some : 0 < m
  pub small : m ≤ most_multiple
  pub common : Common tw m
  pub least : (e : ℕ) → Common tw e → m ∣ e

abbrev pub Multiple : List ℕ → Option ℕ → Type 0
Multiple tw r = MatchOption r ((e : ℕ) → 0 < e → e ≤ most_multiple → Common tw e → ⊥) (MultipleAt tw)

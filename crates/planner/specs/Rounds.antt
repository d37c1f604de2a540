-- The square of longest chains, as it is worked out: from each task in rounds, where a round marks the tasks to which one
-- connection more leads.
use Rattle.std.specs.Prelude.{◌≡◌, Bool, true, false, cond, List, [], ℕ, ◌<◌, get_or, ltb}
use Rattle.rules.specs.Sizes.{most_tasks}
use Rattle.rules.specs.Tables.{rows, sender, receiver}
use Rattle.rules.proofs.Chains.{Upto}

-- each row names two of 32 tasks
abbrev pub Named : List ℕ → Type 0
Named cw = (c : ℕ) → c < rows cw → (sender cw c < most_tasks) × (receiver cw c < most_tasks)

abbrev pub Marked : List Bool → ℕ → Type 0
Marked marks j = get_or marks j false ≡ true

-- next marks exactly the tasks to which a connection leads from a marked one
pub record Stepped (E : ℕ → ℕ → Type 0) (marks next : List Bool) : Type 0 where
  pub sound : (j : ℕ) → Marked next j → (h : ℕ) × Marked marks h × E h j
  pub complete : (h j : ℕ) → Marked marks h → E h j → Marked next j

-- the row of task i: the longest chain of at most n connections to each task
abbrev pub ChainsFrom : (ℕ → ℕ → Type 0) → ℕ → ℕ → List ℕ → Type 0
ChainsFrom E n i r = (j : ℕ) → j < most_tasks → Upto E n i j (get_or r j 0)

-- the rows of the first n tasks
abbrev pub Square : (ℕ → ℕ → Type 0) → ℕ → List (List ℕ) → Type 0
Square E n sq = (i : ℕ) → i < n → ChainsFrom E n i (get_or sq i [])

-- a chain leads from task p back to it
abbrev pub circles : List (List ℕ) → ℕ → Bool
circles sq p = ltb 0 (get_or (get_or sq p []) p 0)

-- k at a marked task j, and x at another
abbrev pub noted : List Bool → ℕ → ℕ → ℕ → ℕ
noted marks k j x = cond (get_or marks j false) k x

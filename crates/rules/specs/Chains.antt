-- 01, "Working out the order": chains of undelayed connections.
use Rattle.std.specs.Prelude.{◌≡◌, List, ℕ, zero, suc, ◌<◌}
use Rattle.rules.specs.Tables.{rows, sender, receiver, kind}

-- an undelayed connection leads from task i to task j
abbrev pub Link : List ℕ → ℕ → ℕ → Type 0
Link cw i j = (c : ℕ) × (c < rows cw) × (sender cw c ≡ i) × (receiver cw c ≡ j) × (kind cw c ≡ 1)

-- k connections lead from i to j
abbrev pub Chain : (ℕ → ℕ → Type 0) → ℕ → ℕ → ℕ → Type 0
Chain E zero i j = i ≡ j
Chain E (suc k) i j = (h : ℕ) × Chain E k i h × E h j

-- "A task reaches another by a chain of one or more undelayed connections."
abbrev pub Reaches : (ℕ → ℕ → Type 0) → ℕ → ℕ → Type 0
Reaches E i j = (k : ℕ) × (0 < k) × Chain E k i j

-- "the longest chain between each two tasks": b connections lead from i to j and no more do; 0 where i does not reach j
pub record Longest (E : ℕ → ℕ → Type 0) (i j b : ℕ) : Type 0 where
  pub is : 0 < b → Chain E b i j
  pub most : (k : ℕ) → b < k → Chain E k i j → ⊥

-- no chain returns to its start
abbrev pub Acyclic : (ℕ → ℕ → Type 0) → Type 0
Acyclic E = (i : ℕ) → Reaches E i i → ⊥

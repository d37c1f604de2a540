-- A list after a store: what stands at each place, and a list that is filled from the front, one store a turn.
use mathlib.Core.Path.{◌≡◌}
use mathlib.Core.Logic.{◌⊎◌, inl, inr, ⊎_elim}
use mathlib.Core.List.{List}
use Prim.Native.Nat.{ℕ, ◌+◌, ◌<◌}
use lib.ListN.{get_or, length, set, replicate}
use lib.Seq.{get_or-set_same, get_or-set_other}
use Rattle.rules.specs.Counting.{column}
use Rattle.rules.proofs.Tests.{eq_or}
use Rattle.rules.proofs.Counting.{map_below-turn}

module _ {A : Type 0} where
  pub stored_at :
      (l : List A) (i j : ℕ) (a d : A) → i < length l
      → ((j ≡ i) × (get_or (set l i a) j d ≡ a)) ⊎ ((j ≡ i → ⊥) × (get_or (set l i a) j d ≡ get_or l j d))
  stored_at l i j a d h =
      ⊎_elim (λ e. inl (e, rw e (get_or-set_same l i a d h))) (λ ne. inr (ne, get_or-set_other l i j a d ne)) (eq_or j i)

  -- a column that is filled so: a turn
  pub column-turn :
      (f : ℕ → A) (i : ℕ) (z : A) (places : ℕ) (out : List A) (v : A) → out ≡ column f i z places → v ≡ f i
      → set out i v ≡ column f (i + 1) z places
  column-turn f i z places out v e q = map_below-turn (λ k _. f k) i (replicate places z) out z v e q

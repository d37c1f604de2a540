-- A loop over a column of the state: one that changes some places, and one that fills them.
use mathlib.Core.Path.{◌≡◌, refl, ap, sym, ◌∙◌}
use mathlib.Core.Bool.{Bool, true, false, cond}
use mathlib.Core.List.{List}
use mathlib.Core.Logic.{◌⊎◌, ⊎_elim}
use Prim.Native.Nat.{ℕ, ◌+◌, ◌≤◌}
use lib.ListN.{get_or, set, replicate}
use Rattle.rules.specs.Counting.{map_below, column}
use Rattle.rules.specs.declared.State.{State}
use Rattle.rules.proofs.Tests.{cond_true, cond_false}
use Rattle.rules.proofs.Counting.{map_below-turn, map_below-skip, map_below-end}

-- a turn of a loop that stores v at place i of a column if a test holds: `get` reads the column of a state, and `put` gives the state with
-- another
module _ {A : Type 0} (get : State → List A) (put : State → List A → State) (s : State) (f : ℕ → A → A) (i : ℕ) (b : Bool) (v : A) (d : A) where
  pub state-turn : ((xs : List A) → get (put s xs) ≡ xs) → ((xs ys : List A) → put (put s xs) ys ≡ put s ys) →
      (out new : State) → out ≡ put s (map_below f i (get s)) → f i (get_or (get s) i d) ≡ cond b v (get_or (get s) i d) →
      ((b ≡ true) × (new ≡ put out (set (get out) i v))) ⊎ ((b ≡ false) × (new ≡ out)) → new ≡ put s (map_below f (i + 1) (get s))
  state-turn got again out new e q w =
      ⊎_elim
      (λ t.
      t.1
      ∙ (ap (λ (z : State). put z (set (get z) i v)) e
      ∙ (again (map_below f i (get s)) _
      ∙ ap (put s)
      (ap (λ (xs : List A). set xs i v) (got (map_below f i (get s)))
      ∙ map_below-turn f i (get s) (map_below f i (get s)) d v refl (sym (q ∙ cond_true b v (get_or (get s) i d) t.0))))))
      (λ l.
      l.1 ∙ (e ∙ ap (put s) (map_below-skip f i (get s) (map_below f i (get s)) d refl (q ∙ cond_false b v (get_or (get s) i d) l.0))))
      w

-- a turn, and the end, of a loop that fills a column from a table
module _ {A : Type 0} (f : ℕ → A) (z : A) (places : ℕ) where
  pub column-more : (i : ℕ) (out : List A) (v : A) → out ≡ column f i z places → v ≡ f i → set out i v ≡ column f (i + 1) z places
  column-more i out v e q = map_below-turn (λ k _. f k) i (replicate places z) out z v e q

  -- the end of such a loop
  pub column-whole : (n i : ℕ) (out : List A) → i ≤ n → n ≤ i → out ≡ column f i z places → out ≡ column f n z places
  column-whole n i out a b e = map_below-end (λ k _. f k) n i (replicate places z) out a b e

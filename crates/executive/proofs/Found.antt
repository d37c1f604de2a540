-- The first place that a test finds, if there is one: what a loop that searches comes to, and what its caller learns.
use mathlib.Core.Path.{◌≡◌, refl, sym}
use mathlib.Core.Bool.{Bool, true, false}
use Prim.Native.Nat.{ℕ, ◌≤◌, ◌<◌}
use native.Mathlib.Omega.{arith}
use lib.Dec.{ltb}
use borrow.Author.Tests.{lt-ltb, le-ltb}
use Rattle.std.specs.Prelude.{Option, Some, None, MatchOption}
use Rattle.std.proofs.lemmas.Option.{none-some}
use Rattle.rules.specs.Counting.{first_of}
use Rattle.rules.proofs.Counting.{first_of-found, first_of-none}
use Rattle.executive.specs.Found.{found}

module _ (p : ℕ → Bool) (f : ℕ → ℕ) (n : ℕ) where
  pub first-found : (i : ℕ) → i < n → ((k : ℕ) → k < i → p k ≡ false) → p i ≡ true → Some (f i) ≡ found (ltb (first_of p n) n) (f (first_of p n))
  first-found i h b e = let q : first_of p n ≡ i = sym (first_of-found p n i h b e) in rw (q, lt-ltb i n h) refl

  pub none-found : ((k : ℕ) → k < n → p k ≡ false) → None ≡ found (ltb (first_of p n) n) (f (first_of p n))
  none-found b = let q : first_of p n ≡ n = sym (first_of-none p n b) in rw (q, le-ltb n n (omega arith)) refl

pub found-none : (b : Bool) (x : ℕ) → found b x ≡ None → b ≡ false
found-none true x e = absurd (none-some x (sym e))
found-none false x e = refl

-- what `find` finds is the first
pub first-matched : (p : ℕ → Bool) (n : ℕ) (r : Option ℕ) →
    MatchOption r ((k : ℕ) → 0 ≤ k → k < n → p k ≡ false) (λ i. (0 ≤ i) × (i < n) × (p i ≡ true) × ((k : ℕ) → 0 ≤ k → k < i → p k ≡ false)) →
    r ≡ found (ltb (first_of p n) n) (first_of p n)
first-matched p n None h = none-found p (λ (i : ℕ). i) n (λ k l. h k (omega arith) l)
first-matched p n (Some i) h = first-found p (λ (i : ℕ). i) n i h.1 (λ k l. h.3 k (omega arith) l) h.2

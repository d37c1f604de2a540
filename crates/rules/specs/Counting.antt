-- The words that the rules are written in: the first of several, all of several, and a list changed place by place.
use Rattle.std.specs.Prelude.{Bool, true, cond, ◌&&◌, List, [], ◌∷◌, ℕ, zero, suc, replicate}

-- the least i below n with p i, and n where there is none
abbrev pub first_of : (ℕ → Bool) → ℕ → ℕ
first_of p zero = zero
first_of p (suc n) = cond (p zero) zero (suc (first_of (λ i. p (suc i)) n))

-- whether p holds of each i below n
abbrev pub all_below : (ℕ → Bool) → ℕ → Bool
all_below p zero = true
all_below p (suc n) = all_below p n && p n

-- each element at a place k below n becomes f k of itself; the others stay
abbrev pub map_below : {A : Type 0} → (ℕ → A → A) → ℕ → List A → List A
map_below f zero xs = xs
map_below f (suc n) [] = []
map_below f (suc n) (x ∷ xs) = f zero x ∷ map_below (λ k. f (suc k)) n xs

-- a column of so many places: f k at each place k below n, and z past them
abbrev pub column : {A : Type 0} → (ℕ → A) → ℕ → A → ℕ → List A
column f n z places = map_below (λ k _. f k) n (replicate places z)

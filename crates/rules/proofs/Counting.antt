-- Laws of the words that the rules are written in. A loop that searches, tests or changes place by place has one of these words as
-- its invariant, at the place that it has come to; its proof cites the law of a turn and the law of the end.
use mathlib.Core.Path.{◌≡◌, refl, ap, sym, ◌∙◌}
use mathlib.Core.Bool.{Bool, true, false, ◌&&◌}
use mathlib.Core.List.{List, [], ◌∷◌}
use mathlib.Core.Logic.{⊎_elim}
use Prim.Native.Nat.{ℕ, zero, suc, ◌+◌, ◌≤◌, ◌<◌, suc-le-suc}
use native.Mathlib.Omega.{arith}
use native.Mathlib.Numerals.{add-one}
use native.Mathlib.Nat.{le_of_suc-le-suc, not-suc-le-zero}
use lib.ListN.{get_or, set, length, replicate, length-replicate}
use Rattle.rules.specs.Counting.{first_of, all_below, map_below, column}
use Rattle.rules.proofs.Tests.{by_test, and_left, and_right, and_both, and_not_left, and_not_right, lt_or}

-- ---------------------------------------------------------------------------------------------------------------------------
-- mapBelow

module _ {A : Type 0} where
  pub map_below-length : (f : ℕ → A → A) (n : ℕ) (xs : List A) → length (map_below f n xs) ≡ length xs
  map_below-length f zero xs = refl
  map_below-length f (suc n) [] = refl
  map_below-length f (suc n) (x ∷ xs) = ap suc (map_below-length (λ k. f (suc k)) n xs)

  -- past n all stays
  pub map_below-past : (f : ℕ → A → A) (n : ℕ) (xs : List A) (k : ℕ) (d : A) → n ≤ k → get_or (map_below f n xs) k d ≡ get_or xs k d
  map_below-past f zero xs k d h = refl
  map_below-past f (suc n) [] k d h = refl
  map_below-past f (suc n) (x ∷ xs) zero d h = absurd (omega arith)
  map_below-past f (suc n) (x ∷ xs) (suc k) d h = map_below-past (λ j. f (suc j)) n xs k d (omega arith)

  -- below n each element is changed
  pub map_below-at : (f : ℕ → A → A) (n : ℕ) (xs : List A) (k : ℕ) (d : A) → k < n → k < length xs → get_or (map_below f n xs) k d ≡ f k (get_or xs k d)
  map_below-at f zero xs k d h l = absurd (omega arith)
  map_below-at f (suc n) [] k d h l = absurd (omega arith)
  map_below-at f (suc n) (x ∷ xs) zero d h l = refl
  map_below-at f (suc n) (x ∷ xs) (suc k) d h l = map_below-at (λ j. f (suc j)) n xs k d (omega arith) (omega arith)

  -- changes that agree below n are one change
  pub map_below-same : (f g : ℕ → A → A) (n : ℕ) (xs : List A) → ((k : ℕ) → k < n → (x : A) → f k x ≡ g k x) → map_below f n xs ≡ map_below g n xs
  map_below-same f g zero xs h = refl
  map_below-same f g (suc n) [] h = refl
  map_below-same f g (suc n) (x ∷ xs) h =
      rw (h zero (omega arith) x, map_below-same (λ k. f (suc k)) (λ k. g (suc k)) n xs (λ k l. h (suc k) (omega arith)))

  -- a change that changes nothing
  pub map_below-none : (f : ℕ → A → A) (n : ℕ) (xs : List A) → ((k : ℕ) → k < n → (x : A) → f k x ≡ x) → map_below f n xs ≡ xs
  map_below-none f zero xs h = refl
  map_below-none f (suc n) [] h = refl
  map_below-none f (suc n) (x ∷ xs) h = rw (h zero (omega arith) x, map_below-none (λ k. f (suc k)) n xs (λ k l. h (suc k) (omega arith)))

  -- what a change keeps of each element
  pub map_below-keeps : (P : A → Type 0) (f : ℕ → A → A) → ((k : ℕ) (x : A) → P x → P (f k x)) →
      (n : ℕ) (xs : List A) (k : ℕ) (d : A) → P (get_or xs k d) → P (get_or (map_below f n xs) k d)
  map_below-keeps P f h zero xs k d p = p
  map_below-keeps P f h (suc n) [] k d p = p
  map_below-keeps P f h (suc n) (x ∷ xs) zero d p = h zero x p
  map_below-keeps P f h (suc n) (x ∷ xs) (suc k) d p = map_below-keeps P (λ j. f (suc j)) (λ j. h (suc j)) n xs k d p

  more : (f : ℕ → A → A) (n : ℕ) (xs : List A) (d : A) → set (map_below f n xs) n (f n (get_or xs n d)) ≡ map_below f (suc n) xs
  more f zero [] d = refl
  more f zero (x ∷ xs) d = refl
  more f (suc n) [] d = refl
  more f (suc n) (x ∷ xs) d = ap (λ (l : List A). f zero x ∷ l) (more (λ k. f (suc k)) n xs d)

  stays : (f : ℕ → A → A) (n : ℕ) (xs : List A) (d : A) → f n (get_or xs n d) ≡ get_or xs n d → map_below f (suc n) xs ≡ map_below f n xs
  stays f zero [] d e = refl
  stays f zero (x ∷ xs) d e = rw e
  stays f (suc n) [] d e = refl
  stays f (suc n) (x ∷ xs) d e = ap (λ (l : List A). f zero x ∷ l) (stays (λ k. f (suc k)) n xs d e)

  -- a loop that changes element i finds the old one there, stores the new one or skips it, and ends at n
  pub map_below-here : (f : ℕ → A → A) (i : ℕ) (xs out : List A) (d : A) → out ≡ map_below f i xs → get_or out i d ≡ get_or xs i d
  map_below-here f i xs out d e = rw e (map_below-past f i xs i d (omega arith))

  pub map_below-turn : (f : ℕ → A → A) (i : ℕ) (xs out : List A) (d v : A) → out ≡ map_below f i xs → v ≡ f i (get_or xs i d) → set out i v ≡ map_below f (i + 1) xs
  map_below-turn f i xs out d v e q = rw (q, e, add-one) (more f i xs d)

  pub map_below-skip : (f : ℕ → A → A) (i : ℕ) (xs out : List A) (d : A) → out ≡ map_below f i xs → f i (get_or xs i d) ≡ get_or xs i d → out ≡ map_below f (i + 1) xs
  map_below-skip f i xs out d e q = rw add-one (e ∙ sym (stays f i xs d q))

  pub map_below-end : (f : ℕ → A → A) (n i : ℕ) (xs out : List A) → i ≤ n → n ≤ i → out ≡ map_below f i xs → out ≡ map_below f n xs
  map_below-end f n i xs out a z e = let q : i ≡ n = omega arith in rw q at e

  -- a column holds f below n and z from there on
  pub replicate_at : (places k : ℕ) (z : A) → get_or (replicate places z) k z ≡ z
  replicate_at zero k z = refl
  replicate_at (suc m) zero z = refl
  replicate_at (suc m) (suc k) z = replicate_at m k z

  pub column-at : (f : ℕ → A) (n : ℕ) (z : A) (places k : ℕ) → k < n → n ≤ places → get_or (column f n z places) k z ≡ f k
  column-at f n z places k h l = map_below-at (λ j _. f j) n (replicate places z) k z h (omega (arith, length-replicate places z))

  pub column-past : (f : ℕ → A) (n : ℕ) (z : A) (places k : ℕ) → n ≤ k → get_or (column f n z places) k z ≡ z
  column-past f n z places k h = map_below-past (λ j _. f j) n (replicate places z) k z h ∙ replicate_at places k z

  pub column-length : (f : ℕ → A) (n : ℕ) (z : A) (places : ℕ) → length (column f n z places) ≡ places
  column-length f n z places = map_below-length (λ j _. f j) n (replicate places z) ∙ length-replicate places z

-- ---------------------------------------------------------------------------------------------------------------------------
-- first_of

pub first_of-found : (p : ℕ → Bool) (n i : ℕ) → i < n → ((k : ℕ) → k < i → p k ≡ false) → p i ≡ true → i ≡ first_of p n
first_of-found p zero i h b e = absurd (omega arith)
first_of-found p (suc n) zero h b e = rw e refl
first_of-found p (suc n) (suc i) h b e =
    rw (b zero (omega arith)) (ap suc (first_of-found (λ j. p (suc j)) n i (omega arith) (λ k l. b (suc k) (omega arith)) e))

pub first_of-none : (p : ℕ → Bool) (n : ℕ) → ((k : ℕ) → k < n → p k ≡ false) → n ≡ first_of p n
first_of-none p zero b = refl
first_of-none p (suc n) b = rw (b zero (omega arith)) (ap suc (first_of-none (λ j. p (suc j)) n (λ k l. b (suc k) (omega arith))))

-- what is found holds, nothing before it does, and nothing does where n is the answer
pub first_of-hit : (p : ℕ → Bool) (n : ℕ) → first_of p n < n → p (first_of p n) ≡ true
first_of-hit p zero h = absurd (omega arith)
first_of-hit p (suc n) h =
    by_test (p zero) (λ e. rw e e) (λ e. rw e (first_of-hit (λ i. p (suc i)) n (le_of_suc-le-suc (rw e at h))))

pub first_of-before : (p : ℕ → Bool) (n k : ℕ) → k < first_of p n → p k ≡ false
first_of-before p zero k h = absurd (omega arith)
first_of-before p (suc n) zero h = by_test (p zero) (λ e. absurd (not-suc-le-zero (rw e at h))) (λ e. e)
first_of-before p (suc n) (suc k) h =
    by_test (p zero) (λ e. absurd (not-suc-le-zero (rw e at h)))
    (λ e. first_of-before (λ i. p (suc i)) n k (le_of_suc-le-suc (rw e at h)))

pub first_of-least : (p : ℕ → Bool) (n k : ℕ) → p k ≡ true → first_of p n ≤ k
first_of-least p zero k e = omega arith
first_of-least p (suc n) zero e = rw e (omega arith)
first_of-least p (suc n) (suc k) e =
    by_test (p zero) (λ q. rw q (omega arith)) (λ q. rw q (suc-le-suc (first_of-least (λ i. p (suc i)) n k e)))

pub first_of-within : (p : ℕ → Bool) (n : ℕ) → first_of p n ≤ n
first_of-within p zero = omega arith
first_of-within p (suc n) = by_test (p zero) (λ q. rw q (omega arith)) (λ q. rw q (suc-le-suc (first_of-within (λ i. p (suc i)) n)))

pub first_of-same : (p q : ℕ → Bool) (n : ℕ) → ((k : ℕ) → k < n → p k ≡ q k) → first_of p n ≡ first_of q n
first_of-same p q zero h = refl
first_of-same p q (suc n) h =
    rw (h zero (omega arith), first_of-same (λ i. p (suc i)) (λ i. q (suc i)) n (λ k l. h (suc k) (omega arith)))

-- ---------------------------------------------------------------------------------------------------------------------------
-- all_below

pub all_below-at : (p : ℕ → Bool) (n i : ℕ) → all_below p n ≡ true → i < n → p i ≡ true
all_below-at p zero i e h = absurd (omega arith)
all_below-at p (suc n) i e h =
    ⊎_elim (λ l. all_below-at p n i (and_left (all_below p n) (p n) e) l)
    (λ g. let q : i ≡ n = omega arith in rw q (and_right (all_below p n) (p n) e)) (lt_or i n)

pub all_below-all : (p : ℕ → Bool) (n : ℕ) → ((i : ℕ) → i < n → p i ≡ true) → all_below p n ≡ true
all_below-all p zero h = refl
all_below-all p (suc n) h = and_both (all_below p n) (p n) (all_below-all p n (λ i l. h i (omega arith))) (h n (omega arith))

pub all_below-fails : (p : ℕ → Bool) (n i : ℕ) → i < n → p i ≡ false → all_below p n ≡ false
all_below-fails p zero i h e = absurd (omega arith)
all_below-fails p (suc n) i h e =
    ⊎_elim (λ l. and_not_left (all_below p n) (p n) (all_below-fails p n i l e))
    (λ g. let q : i ≡ n = omega arith in and_not_right (all_below p n) (p n) (rw q at e)) (lt_or i n)

pub all_below-same : (p q : ℕ → Bool) (n : ℕ) → ((i : ℕ) → i < n → p i ≡ q i) → all_below p n ≡ all_below q n
all_below-same p q zero h = refl
all_below-same p q (suc n) h = rw (h n (omega arith), all_below-same p q n (λ i l. h i (omega arith)))

-- a loop that tests each place: one turn, and the end
pub all_below-turn : (p : ℕ → Bool) (i : ℕ) (ok : Bool) → ok ≡ all_below p i → ok && p i ≡ all_below p (i + 1)
all_below-turn p i ok e = rw (add-one, e) refl

-- Laws of the sampling rule's counts (01, "The sampling rule"). First in 01's words: a count names the last job whose dispatch, plus d,
-- is at most r. Then the same as bounds on multiples of the period, which the proofs about runs use: no division is left in them.
use mathlib.Core.Path.{◌≡◌, refl, ap}
use mathlib.Core.List.{List, [], ◌∷◌, ◌++◌}
use mathlib.Core.Logic.{◌⊎◌, inl, inr}
use Prim.Native.Nat.{ℕ, zero, suc, ◌+◌, ◌-◌, ◌*◌, ◌≤◌, ◌<◌}
use native.Mathlib.Nat.{mul-le-mul_right, div-add-mod', mod-lt}
use native.Mathlib.Omega.{arith}
use lib.ListN.{length, length-append, get_or-append}
use lib.Seq.{get_or-append_seam}
use lib.Dec.{ltb}
use borrow.Author.Tests.{ltb-true, ltb-false}
use Rattle.rules.specs.Sampling.{up_to, said}
use Rattle.rules.proofs.Tests.{by_test, lt_or}

-- ---------------------------------------------------------------------------------------------------------------------------
-- up_to

module _ (P d r : ℕ) (pos : 0 < P) where
  -- the first job that is not counted is past r
  pub up_to-above : r < up_to P d r * P + d
  unfolding up_to
  up_to-above =
      by_test (ltb r d) (λ e. rw e (omega (arith, ltb-true r d e)))
      (λ e. rw e (omega (arith, ltb-false r d e, div-add-mod' (r - d) P, mod-lt (r - d) pos)))

  -- the jobs that are counted are those with j * P + d at most r
  pub up_to-counted : (j : ℕ) → j < up_to P d r → j * P + d ≤ r
  unfolding up_to
  up_to-counted j =
      by_test (ltb r d) (λ e. rw e (λ h. absurd (omega arith)))
      (λ e. rw e (λ h. omega (arith, ltb-false r d e, div-add-mod' (r - d) P, mul-le-mul_right P h)))

  pub up_to-counts : (j : ℕ) → j * P + d ≤ r → j < up_to P d r
  up_to-counts j h = elim (lt_or j (up_to P d r)) [ inl l ↦ l | inr l ↦ absurd (omega (arith, up_to-above, mul-le-mul_right P l)) ]

  -- 01: "the sender's last job whose dispatch plus deadline is at most r" is the one before the count; "0 if there is none"
  pub up_to-last : (k : ℕ) → up_to P d r ≡ suc k → (k * P + d ≤ r) × (r < suc k * P + d) × ((j : ℕ) → j * P + d ≤ r → j ≤ k)
  up_to-last k e =
      (up_to-counted k (omega arith), omega (arith, up_to-above, ap (λ (u : ℕ). u * P) e), λ j h. omega (arith, up_to-counts j h))

  pub up_to-none : up_to P d r ≡ 0 → (j : ℕ) → j * P + d ≤ r → ⊥
  up_to-none e j h = omega (arith, up_to-counts j h)

  pub none_up_to : ((j : ℕ) → j * P + d ≤ r → ⊥) → up_to P d r ≡ 0
  none_up_to n = elim (lt_or 0 (up_to P d r)) [ inl l ↦ absurd (n 0 (up_to-counted 0 l)) | inr l ↦ omega arith ]

  -- the last job that is counted is not past r
  pub up_to-within : d ≤ P → up_to P d r * P + d ≤ r + P
  up_to-within dp = go (up_to P d r) refl
    where
      go : (u : ℕ) → up_to P d r ≡ u → u * P + d ≤ r + P
      go zero e = omega arith
      go (suc k) e = omega (arith, up_to-counted k (omega arith))

pub up_to-mono : (P d r q : ℕ) → 0 < P → d ≤ P → r ≤ q → up_to P d r ≤ up_to P d q
up_to-mono P d r q pos dp l =
    elim (lt_or (up_to P d q) (up_to P d r)) [
      | inl m ↦ absurd (omega (arith, up_to-counts P d q pos (up_to P d q) (omega (arith, up_to-counted P d r pos (up_to P d q) m))))
      | inr m ↦ m
    ]

-- two counts whose multiples are less than one period apart are one
pub same_count : (P u v : ℕ) → u * P < v * P + P → v * P < u * P + P → u ≡ v
same_count P u v h k = go (lt_or u v) (lt_or v u)
  where
    go : (u < v) ⊎ (v ≤ u) → (v < u) ⊎ (u ≤ v) → u ≡ v
    go (inl l) _ = omega (arith, mul-le-mul_right P l)
    go (inr l) (inl m) = omega (arith, mul-le-mul_right P m)
    go (inr l) (inr m) = omega arith

-- ---------------------------------------------------------------------------------------------------------------------------
-- said: a further word changes nothing that was said before it

pub said_more : (ws : List ℕ) (w k : ℕ) → k ≤ length ws → said (ws ++ (w ∷ [])) k ≡ said ws k
said_more ws w k l = get_or-append (0 ∷ ws) (w ∷ []) 0 k (omega arith)

pub said-last : (ws : List ℕ) (w : ℕ) → said (ws ++ (w ∷ [])) (suc (length ws)) ≡ w
said-last ws w = get_or-append_seam (0 ∷ ws) w [] 0

pub length_more : (ws : List ℕ) (w : ℕ) → length (ws ++ (w ∷ [])) ≡ suc (length ws)
length_more ws w = omega (arith, length-append ws (w ∷ []))

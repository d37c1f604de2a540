-- The internal numbers: the least that is worked out is at most each that it is worked out over, and is one of them; so with the
-- square of longest chains it is what 01 asks.
use mathlib.Core.Path.{◌≡◌, refl, ◌∙◌}
use mathlib.Core.Logic.{◌⊎◌, inl, inr, ⊎_elim}
use mathlib.Core.List.{List}
use Prim.Native.Nat.{ℕ, zero, suc, ◌-◌, ◌*◌, ◌≤◌, ◌<◌}
use native.Mathlib.Omega.{arith}
use lib.Dec.{ltb}
use borrow.Author.Tests.{ltb-true, lt-ltb}
use Rattle.rules.specs.Sizes.{parts}
use Rattle.rules.specs.Tables.{count, deadline, criticality}
use Rattle.rules.specs.Chains.{Link, Chain, Acyclic, Longest}
use Rattle.rules.specs.Order.{IsDeadline, IsCriticality}
use Rattle.rules.proofs.Tests.{by_test, lt_or}
use Rattle.rules.proofs.Chains.{Upto, chain_ends, upto_longest, upto_reached, longest_one}
use Rattle.rules.proofs.Refusals.{Tables, link_within}
use Rattle.planner.specs.Rounds.{Square}
use Rattle.planner.specs.Internal.{lower, least_of, between, deadline_over, criticality_over, Workable}

-- ---------------------------------------------------------------------------------------------------------------------------
-- The lower of two

module _ (best chain x : ℕ) where
  lower-low : lower best chain x ≤ best
  lower-low = by_test (ltb 0 chain) (λ t. rw t (omega arith)) (λ t. rw t (omega arith))

  lower-bound : 0 < chain → lower best chain x ≤ x
  lower-bound h = rw (lt-ltb 0 chain h) (omega arith)

  lower-is : (lower best chain x ≡ best) ⊎ ((0 < chain) × (lower best chain x ≡ x))
  lower-is =
      by_test (ltb 0 chain)
      (λ t. rw t (⊎_elim (λ lt. inl (omega arith)) (λ ge. inr (ltb-true 0 chain t, omega arith)) (lt_or best x)))
      (λ t. rw t (inl refl))

-- ---------------------------------------------------------------------------------------------------------------------------
-- The least of several

module _ (own : ℕ) (chain f : ℕ → ℕ) where
  pub least_low : (n : ℕ) → least_of own chain f n ≤ own
  least_low zero = omega arith
  least_low (suc n) = omega (arith, least_low n, lower-low (least_of own chain f n) (chain n) (f n))

  least_bound : (n j : ℕ) → j < n → 0 < chain j → least_of own chain f n ≤ f j
  least_bound zero j h p = absurd (omega arith)
  least_bound (suc n) j h p =
      ⊎_elim (λ lt. omega (arith, least_bound n j lt p, lower-low (least_of own chain f n) (chain n) (f n)))
      (λ ge. let e : j ≡ n = omega arith in rw e (lower-bound (least_of own chain f n) (chain n) (f n) (rw e at p))) (lt_or j n)

  least_is : (n : ℕ) → (least_of own chain f n ≡ own) ⊎ ((j : ℕ) × (j < n) × (0 < chain j) × (least_of own chain f n ≡ f j))
  least_is zero = inl refl
  least_is (suc n) =
      ⊎_elim (λ same. ⊎_elim (λ e. inl (same ∙ e)) (λ w. inr (w.0, omega (arith, w.1), w.2, same ∙ w.3)) (least_is n))
      (λ w. inr (n, omega arith, w.0, w.1)) (lower-is (least_of own chain f n) (chain n) (f n))

-- ---------------------------------------------------------------------------------------------------------------------------
-- What 01 asks

module _ (tw cw : List ℕ) (ts : Tables tw cw) (sq : List (List ℕ)) (s : Square (Link cw) (count tw) sq) where
  at : (i j : ℕ) → i < count tw → j < count tw → Upto (Link cw) (count tw) i j (between sq i j)
  at i j h g = s i h j (omega (arith, ts.lengths.tasks_most))

  pub workable : Workable tw sq
  workable = record {
    most = ts.lengths.tasks_most;
    sized = ts.sizes;
    short = λ i j h g. omega (arith, (at i j h g).within, ts.lengths.tasks_most);
  }

  ends : (i j k : ℕ) → 0 < k → Chain (Link cw) k i j → j < count tw
  ends i j k = chain_ends (Link cw) (count tw) ts.lengths.some (link_within tw cw ts) k i j

  module _ (free : Acyclic (Link cw)) (i : ℕ) (h : i < count tw) where
    long : (j : ℕ) → j < count tw → Longest (Link cw) i j (between sq i j)
    long j g = upto_longest (Link cw) (count tw) ts.lengths.some (link_within tw cw ts) free i j _ (at i j h g)

    pub deadline-right : IsDeadline tw cw i (deadline_over tw sq i (count tw))
    deadline-right = record {
      own = least_low (deadline tw i * parts) (between sq i) less (count tw);
      all = λ j b p l.
          let g = ends i j b p (l.is p) in
          let e = longest_one (Link cw) i j b (between sq i j) l (long j g) in
          rw e (least_bound (deadline tw i * parts) (between sq i) less (count tw) j g (omega (arith, e)));
      is = ⊎_elim inl (λ w. inr (w.0, between sq i w.0, w.2, long w.0 w.1, w.3))
          (least_is (deadline tw i * parts) (between sq i) less (count tw));
    }
      where
        less : ℕ → ℕ
        less j = deadline tw j * parts - between sq i j

    pub criticality-right : IsCriticality tw cw i (criticality_over tw sq i (count tw))
    criticality-right = record {
      own = least_low (criticality tw i) (between sq i) (criticality tw) (count tw);
      all = λ j r.
          let g = ends i j r.0 r.1 r.2 in
          least_bound (criticality tw i) (between sq i) (criticality tw) (count tw) j g
          (upto_reached (Link cw) (count tw) ts.lengths.some (link_within tw cw ts) i j _ (at i j h g) r);
      is = ⊎_elim inl (λ w. inr (w.0, (between sq i w.0, w.2, (at i w.0 h w.1).is w.2), w.3))
          (least_is (criticality tw i) (between sq i) (criticality tw) (count tw));
    }

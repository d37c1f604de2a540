-- Refusal 16 as facts: what a state in range gives, and what makes a state one. An order that passes names each task once: as there
-- are as many places as tasks and each task has one, a second place for a task would leave too few for the others (pigeonhole).
use mathlib.Core.Path.{◌≡◌, refl, ap, sym, ◌∙◌}
use mathlib.Core.Bool.{Bool, true, false, cond, ◌&&◌}
use mathlib.Core.Logic.{⊎_elim}
use Prim.Native.Nat.{ℕ, ◌≤◌, ◌<◌}
use native.Mathlib.Omega.{arith}
use lib.Dec.{leb, ltb}
use borrow.Author.Tests.{leb-true, ltb-true, eqb-true, le-leb, lt-ltb, le-ltb, eq-eqb}
use Rattle.rules.specs.Counting.{all_below}
use Rattle.rules.specs.Sizes.{most_tasks, most_rows, longest_period, most_multiple}
use Rattle.rules.specs.Views.{period, deadline, compute, sender, receiver, ordered, dispatch}
use Rattle.rules.specs.Range.{sizes_fit, times_fit, dispatch_fits, row_fits, place_fits, names, place_of, has_place, tasks_fit, rows_fit, order_fits, in_range}
use Rattle.rules.specs.declared.State.{State}
use Rattle.rules.proofs.Tests.{and_left, and_right, and_both, cond_true, cond_false, lt_or}
use Rattle.rules.proofs.Counting.{all_below-at, all_below-all, first_of-hit, first_of-least}
use Rattle.rules.proofs.Pigeonhole.{Twice, pigeonhole}

-- the counts, the common multiple and the cycle
pub record Sized (s : State) : Type 0 where
  pub some : 1 ≤ s.count
  pub few : s.count ≤ most_tasks
  pub few_rows : s.rows ≤ most_rows
  pub multiple_low : 1 ≤ s.multiple
  pub multiple_high : s.multiple ≤ most_multiple
  pub cycle_below : s.cycle < s.multiple

-- the times of task i
pub record Timed (s : State) (i : ℕ) : Type 0 where
  pub compute_low : 1 ≤ compute s i
  pub compute_high : compute s i ≤ deadline s i
  pub deadline_high : deadline s i ≤ period s i
  pub period_high : period s i ≤ longest_period

-- row c joins tasks
pub record Joined (s : State) (c : ℕ) : Type 0 where
  pub sender_task : sender s c < s.count
  pub receiver_task : receiver s c < s.count

pub record Ranged (s : State) : Type 0 where
  pub sizes : Sized s
  pub times : (i : ℕ) → i < s.count → Timed s i
  pub dispatches : (i : ℕ) → i < s.count → dispatch s i < s.multiple
  pub joins : (c : ℕ) → c < s.rows → Joined s c
  pub names_task : (k : ℕ) → k < s.count → ordered s k < s.count
  pub has_place : (i : ℕ) → i < s.count → place_of s i < s.count

-- ---------------------------------------------------------------------------------------------------------------------------
-- A test of several parts.

and_4 : (a b c d : Bool) → a && b && c && d ≡ true → (a ≡ true) × (b ≡ true) × (c ≡ true) × (d ≡ true)
and_4 a b c d e =
    let abc : a && b && c ≡ true = and_left (a && b && c) d e in
    let ab : a && b ≡ true = and_left (a && b) c abc in
    (and_left a b ab, and_right a b ab, and_right (a && b) c abc, and_right (a && b && c) d e)

all_4 : (a b c d : Bool) → a ≡ true → b ≡ true → c ≡ true → d ≡ true → a && b && c && d ≡ true
all_4 a b c d ea eb ec ed = rw (ea, eb, ec, ed)

and_regroup : (a b c d : Bool) → a && b && c && d ≡ a && (b && c && d)
and_regroup true b c d = refl
and_regroup false b c d = refl

module _ (s : State) where
  pub sizes_facts : sizes_fit s ≡ true → Sized s
  sizes_facts e =
      let some = leb 1 s.count in
      let few = leb s.count most_tasks in
      let few_rows = leb s.rows most_rows in
      let p = and_4 (some && few && few_rows) (leb 1 s.multiple) (leb s.multiple most_multiple) (ltb s.cycle s.multiple) e in
      let q = and_left (some && few) few_rows p.0 in
      record {
        some = leb-true _ _ (and_left some few q);
        few = leb-true _ _ (and_right some few q);
        few_rows = leb-true _ _ (and_right (some && few) few_rows p.0);
        multiple_low = leb-true _ _ p.1;
        multiple_high = leb-true _ _ p.2;
        cycle_below = ltb-true _ _ p.3;
      }

  sizes_test : Sized s → sizes_fit s ≡ true
  sizes_test z =
      all_4 _ _ _ _
      (and_both _ _ (and_both _ _ (le-leb _ _ z.some) (le-leb _ _ z.few)) (le-leb _ _ z.few_rows))
      (le-leb _ _ z.multiple_low)
      (le-leb _ _ z.multiple_high)
      (lt-ltb _ _ z.cycle_below)

  times-facts : (i : ℕ) → times_fit s i ≡ true → Timed s i
  times-facts i e =
      let p = and_4 (leb 1 (compute s i)) (leb (compute s i) (deadline s i)) (leb (deadline s i) (period s i)) (leb (period s i) longest_period) e in
      record {
        compute_low = leb-true _ _ p.0;
        compute_high = leb-true _ _ p.1;
        deadline_high = leb-true _ _ p.2;
        period_high = leb-true _ _ p.3;
      }

  times-test : (i : ℕ) → Timed s i → times_fit s i ≡ true
  times-test i z =
      all_4 _ _ _ _ (le-leb _ _ z.compute_low) (le-leb _ _ z.compute_high) (le-leb _ _ z.deadline_high) (le-leb _ _ z.period_high)

  row_facts : (c : ℕ) → row_fits s c ≡ true → Joined s c
  row_facts c e = record {
    sender_task = ltb-true _ _ (and_left (ltb (sender s c) s.count) (ltb (receiver s c) s.count) e);
    receiver_task = ltb-true _ _ (and_right (ltb (sender s c) s.count) (ltb (receiver s c) s.count) e);
  }

  row_test : (c : ℕ) → Joined s c → row_fits s c ≡ true
  row_test c z = and_both _ _ (lt-ltb _ _ z.sender_task) (lt-ltb _ _ z.receiver_task)

  -- the sizes first, then the tables
  pub in_range-parts : in_range s ≡ sizes_fit s && (tasks_fit s && rows_fit s && order_fits s)
  unfolding in_range
  in_range-parts = and_regroup (sizes_fit s) (tasks_fit s) (rows_fit s) (order_fits s)

  -- what a state in range gives
  pub in_range-ranged : in_range s ≡ true → Ranged s
  unfolding in_range
  in_range-ranged e =
      let p = and_4 (sizes_fit s) (tasks_fit s) (rows_fit s) (order_fits s) e in
      let times = all_below (times_fit s) s.count in
      let places = all_below (place_fits s) s.count in
      record {
        sizes = sizes_facts p.0;
        times = λ i h. times-facts i (all_below-at (times_fit s) s.count i (and_left times (all_below (dispatch_fits s) s.count) p.1) h);
        dispatches = λ i h. ltb-true _ _ (all_below-at (dispatch_fits s) s.count i (and_right times (all_below (dispatch_fits s) s.count) p.1) h);
        joins = λ c h. row_facts c (all_below-at (row_fits s) s.rows c p.2 h);
        names_task = λ k h. ltb-true _ _ (all_below-at (place_fits s) s.count k (and_left places (all_below (has_place s) s.count) p.3) h);
        has_place = λ i h. ltb-true _ _ (all_below-at (has_place s) s.count i (and_right places (all_below (has_place s) s.count) p.3) h);
      }

  -- and what makes a state one
  pub ranged_in_range : Ranged s → in_range s ≡ true
  unfolding in_range
  ranged_in_range r =
      all_4 (sizes_fit s) (tasks_fit s) (rows_fit s) (order_fits s)
      (sizes_test r.sizes)
      (and_both _ _
      (all_below-all (times_fit s) s.count (λ i h. times-test i (r.times i h)))
      (all_below-all (dispatch_fits s) s.count (λ i h. lt-ltb _ _ (r.dispatches i h))))
      (all_below-all (row_fits s) s.rows (λ c h. row_test c (r.joins c h)))
      (and_both _ _
      (all_below-all (place_fits s) s.count (λ k h. lt-ltb _ _ (r.names_task k h)))
      (all_below-all (has_place s) s.count (λ i h. lt-ltb _ _ (r.has_place i h))))

-- ---------------------------------------------------------------------------------------------------------------------------
-- The order of a state in range.

module _ (s : State) (r : Ranged s) where
  -- the place of a task names it
  pub place_of-names : (i : ℕ) → i < s.count → ordered s (place_of s i) ≡ i
  place_of-names i h = eqb-true (ordered s (place_of s i)) i (first_of-hit (names s i) s.count (r.has_place i h))

  -- were q a second place for the task at p: the places of all tasks, with q after them, are one more than there are places
  places : ℕ → ℕ → ℕ
  places q i = cond (ltb i s.count) (place_of s i) q

  places_task : (q i : ℕ) → i < s.count → places q i ≡ place_of s i
  unfolding places
  places_task q i h = cond_true _ _ _ (lt-ltb i s.count h)

  places_last : (q i : ℕ) → s.count ≤ i → places q i ≡ q
  unfolding places
  places_last q i h = cond_false _ _ _ (le-ltb i s.count h)

  places_below : (q i : ℕ) → q < s.count → places q i < s.count
  places_below q i l =
      ⊎_elim (λ h. rw (places_task q i h) (r.has_place i h)) (λ h. rw (places_last q i h) l) (lt_or i s.count)

  no_second : (p q : ℕ) → p < q → q < s.count → ordered s p ≡ ordered s q → ⊥
  no_second p q h l e =
      let t : Twice (places q) s.count = pigeonhole s.count (places q) (λ i _. places_below q i l) in
      let a = t.0 in
      let b = t.1 in
      let ha : a < s.count = omega arith in
      let same : place_of s a ≡ places q b = sym (places_task q a ha) ∙ t.4 in
      ⊎_elim
      (λ hb.
      let z : a ≡ b = sym (place_of-names a ha) ∙ (ap (ordered s) (same ∙ places_task q b hb) ∙ place_of-names b hb) in
      omega arith)
      (λ hb.
      let at-q : place_of s a ≡ q = same ∙ places_last q b hb in
      let named : ordered s p ≡ a = e ∙ (ap (ordered s) (sym at-q) ∙ place_of-names a ha) in
      let low : place_of s a ≤ p = first_of-least (names s a) s.count p (eq-eqb (ordered s p) a named) in
      omega arith)
      (lt_or b s.count)

  -- "names each task once"
  pub order_once : (p q : ℕ) → p < s.count → q < s.count → ordered s p ≡ ordered s q → p ≡ q
  order_once p q h l e =
      ⊎_elim (λ k. absurd (no_second p q k l e))
      (λ k. ⊎_elim (λ z. absurd (no_second q p z h (sym e))) (λ z. omega arith) (lt_or q p)) (lt_or p q)

-- Whether a plan is what the planner must answer to two tables (01, "Working out the order"), decided by computation.
-- The numbers of the plan are its own witness: with no circle the longest chains are those that were looked for, and a common
-- multiple within the bound shows that number 8 does not stand.
use mathlib.Core.Path.{◌≡◌, refl, sym, ◌∙◌, ap, subst}
use mathlib.Core.Logic.{◌⊎◌, inl, inr, ⊎_elim}
use mathlib.Core.List.{List}
use Prim.Native.Nat.{ℕ, ◌-◌, ◌*◌, ◌≤◌, ◌<◌}
use native.Mathlib.Omega.{arith}
use lib.ListN.{get_or, length, get_or-eq_default}
use Rattle.rules.specs.Sizes.{parts, most_tasks, most_multiple}
use Rattle.rules.specs.Tables.{count, deadline, criticality}
use Rattle.rules.specs.Chains.{Link, Reaches, Longest, Acyclic}
use Rattle.rules.specs.Order.{less_chain, IsDeadline, IsCriticality, IsMultiple, Ahead, IsOrder}
use Rattle.rules.specs.Refusals.{Sound}
use Rattle.rules.specs.Plan.{ZeroFrom, internal_deadline, internal_criticality, Accepts, Refuses, Judges, PlanIs}
use Rattle.rules.specs.declared.Plan.{Plan}
use Rattle.std.specs.Prelude.{Result, Ok, Err}
use Rattle.rules.specs.Answers.{number_of, place_of}
use Rattle.rules.specs.declared.Refusal.{Refusal}
use Rattle.rules.proofs.Tests.{lt_or}
use Rattle.rules.proofs.Chains.{chain_ends, upto_longest, longest_one}
use Rattle.rules.proofs.Refusals.{none_more, none_at_all, lengths_of, tables_of, no_circle}
use Rattle.rules.proofs.Deciding.{Decision, restated, both, either, fails, where_so, all, some, equal, le, lt}
use Rattle.rules.proofs.DecidingChains.{named, link_named, between, between-upto, reaches}
use Rattle.rules.proofs.DecidingRefusals.{common, no_step, no_step_none, none_no_step, none_under, refusal}

-- ---------------------------------------------------------------------------------------------------------------------------
-- Internal numbers

-- d is the least of `own` and of f j for each j below n that is On
abbrev LeastOf : ℕ → ℕ → (ℕ → Type 0) → (ℕ → ℕ) → ℕ → Type 0
LeastOf own n On f d = (d ≤ own) × (((j : ℕ) → j < n → On j → d ≤ f j) × ((d ≡ own) ⊎ ((j : ℕ) × (j < n) × (On j × (d ≡ f j)))))

abbrev least_of : {On : ℕ → Type 0} (own n : ℕ) → ((j : ℕ) → Decision (On j)) → (f : ℕ → ℕ) (d : ℕ) → Decision (LeastOf own n On f d)
least_of own n on f d =
    both (le d own) (both (all n (λ j. where_so (on j) (le d (f j)))) (either (equal d own) (some n (λ j. both (on j) (equal d (f j))))))

-- a task that is reached is one that a connection names
pub reached_named : (cw : List ℕ) (i j : ℕ) → Reaches (Link cw) i j → j < named cw
reached_named cw i j r = chain_ends (Link cw) (named cw) (omega arith) (link_named cw) r.0 i j r.1 r.2

-- no chain returns to its start
abbrev acyclic : (cw : List ℕ) → Decision (Acyclic (Link cw))
acyclic cw = restated (λ w i r. w i (reached_named cw i i r) r) (λ free i h r. free i r) (all (named cw) (λ i. fails (reaches cw i i)))

module _ (tw cw : List ℕ) (i : ℕ) where
  -- where there is no circle, the longest chain from i to j is the one that was looked for
  between-longest : Acyclic (Link cw) → (j : ℕ) → Longest (Link cw) i j (between cw i j)
  between-longest free j = upto_longest (Link cw) (named cw) (omega arith) (link_named cw) free i j (between cw i j) (between-upto cw i j)

  between_is : Acyclic (Link cw) → (j b : ℕ) → 0 < b → Longest (Link cw) i j b → (j < named cw) × (b ≡ between cw i j)
  between_is free j b h l =
      (reached_named cw i j (b, h, l.is h), longest_one (Link cw) i j b (between cw i j) l (between-longest free j))

  abbrev Deadline : ℕ → Type 0
  Deadline d = LeastOf (deadline tw i * parts) (named cw) (λ j. 0 < between cw i j) (λ j. less_chain tw j (between cw i j)) d

  abbrev deadline_of : (d : ℕ) → Decision (Deadline d)
  deadline_of d = least_of (deadline tw i * parts) (named cw) (λ j. lt 0 (between cw i j)) (λ j. less_chain tw j (between cw i j)) d

  pub deadline_is : Acyclic (Link cw) → (d : ℕ) → Deadline d → IsDeadline tw cw i d
  deadline_is free d w = record {
    own = w.0;
    all = λ j b h l.
        let e = between_is free j b h l in
        subst (λ (x : ℕ). d ≤ less_chain tw j x) (sym e.1) (w.1.0 j e.0 (omega (arith, e.1)));
    is = ⊎_elim inl (λ s. inr (s.0, between cw i s.0, s.2.0, between-longest free s.0, s.2.1)) w.1.1;
  }

  pub is_deadline : Acyclic (Link cw) → (d : ℕ) → IsDeadline tw cw i d → Deadline d
  is_deadline free d w = (
    w.own,
    (
      (λ j h p. w.all j (between cw i j) p (between-longest free j)),
      ⊎_elim inl
          (λ s.
          let e = between_is free s.0 s.1 s.2 s.3 in
          inr (s.0, e.0, (omega (arith, e.1, s.2), s.4 ∙ ap (less_chain tw s.0) e.1)))
          w.is,
    ),
  )

  abbrev criticality_is : (c : ℕ) → Decision (IsCriticality tw cw i c)
  criticality_is c =
      restated
      (λ w. record {
        own = w.0;
        all = λ j r. w.1.0 j (reached_named cw i j r) r;
        is = ⊎_elim inl (λ s. inr (s.0, s.2.0, s.2.1)) w.1.1;
      })
      (λ w. (w.own, ((λ j h r. w.all j r), ⊎_elim inl (λ s. inr (s.0, reached_named cw i s.0 s.1, (s.1, s.2))) w.is)))
      (least_of (criticality tw i) (named cw) (reaches cw i) (criticality tw) c)

-- all internal deadlines of a table with no circle
abbrev deadlines_are : (tw cw : List ℕ) (d : ℕ → ℕ) → Decision (Acyclic (Link cw) × ((i : ℕ) → i < count tw → IsDeadline tw cw i (d i)))
deadlines_are tw cw d =
    restated (λ w. (w.0, λ i h. deadline_is tw cw i w.0 (d i) (w.1 i h))) (λ w. (w.0, λ i h. is_deadline tw cw i w.0 (d i) (w.1 i h)))
    (both (acyclic cw) (all (count tw) (λ i. deadline_of tw cw i (d i))))

-- ---------------------------------------------------------------------------------------------------------------------------
-- The common multiple, and the refusals with it

abbrev multiple_is : (tw : List ℕ) (c : ℕ) → Decision ((0 < count tw) × IsMultiple tw c)
multiple_is tw c =
    restated
    (λ w. (
      w.0,
      record {
        some = w.1.0;
        common = w.1.1.0;
        least = λ e p h. ⊎_elim (λ low. absurd (no_step_none tw (c - 1) w.0 w.1.1.1 e p (omega arith) h)) (λ h. h) (lt_or e c);
      },
    ))
    (λ w. (w.0, (w.1.some, (w.1.common, none_no_step tw (c - 1) (λ e p l h. omega (arith, w.1.some, w.1.least e p h))))))
    (both (lt 0 (count tw)) (both (lt 0 c) (both (common tw c) (no_step tw (c - 1)))))

abbrev sound_with : (tw cw : List ℕ) (c : ℕ) → Decision (Sound tw cw × IsMultiple tw c)
sound_with tw cw c =
    restated
    (λ w. (none_at_all tw cw (none_more tw cw 8 w.1.0 (λ q b. b.1 c w.0.1.some w.1.1 w.0.1.common)), w.0.1))
    (λ w. (
      ((lengths_of tw cw w.0).some, w.1),
      (
        λ l q h b. w.0 l q b,
        ⊎_elim (λ over. absurd (w.0 8 0 (refl, λ e p l h. omega (arith, w.1.least e p h)))) (λ h. h) (lt_or most_multiple c),
      ),
    ))
    (both (multiple_is tw c) (both (none_under tw cw 8) (le c most_multiple)))

-- ---------------------------------------------------------------------------------------------------------------------------
-- The order, and the plan

abbrev ahead : (d c : ℕ → ℕ) (i j : ℕ) → Decision (Ahead d c i j)
ahead d c i j = either (lt (d i) (d j)) (both (equal (d i) (d j)) (either (lt (c i) (c j)) (both (equal (c i) (c j)) (lt i j))))

abbrev order_is : (n : ℕ) (d c : ℕ → ℕ) (order : List ℕ) → Decision (IsOrder n d c order)
order_is n d c order =
    restated (λ w. record { names = w.0; each = w.1.0; sorted = λ p q h g. w.1.1 q g p h }) (λ w. (w.names, (w.each, λ q g p h. w.sorted p q h g)))
    (both (all n (λ p. lt (get_or order p 0) n))
    (both (all n (λ i. some n (λ p. equal (get_or order p 0) i)))
    (all n (λ q. all q (λ p. ahead d c (get_or order p 0) (get_or order q 0))))))

abbrev zero_from : (n : ℕ) (l : List ℕ) → Decision (ZeroFrom n l)
zero_from n l =
    restated
    (λ w. (w.0, λ p h. ⊎_elim (λ low. w.1 p low h) (λ past. get_or-eq_default l 0 {n = p} (omega (arith, w.0))) (lt_or p most_tasks)))
    (λ w. (w.0, λ p low h. w.1 p h))
    (both (equal (length l) most_tasks) (all most_tasks (λ p. where_so (le n p) (equal (get_or l p 0) 0))))

module _ (tw cw : List ℕ) (r : Plan) where
  abbrev accepts : Decision (Accepts tw cw r)
  accepts =
      restated
      (λ w. record {
        sound = w.0.0;
        deadlines_are = w.1.0.1;
        criticalities_are = w.1.1.0;
        order_is = w.1.1.1.0;
        multiple_is = w.0.1;
        order_past = w.1.1.1.1.0;
        deadlines_past = w.1.1.1.1.1.0;
        criticalities_past = w.1.1.1.1.1.1;
      })
      (λ w. (
        (w.sound, w.multiple_is),
        (
          (no_circle tw cw (tables_of tw cw w.sound) (w.sound 6), w.deadlines_are),
          (w.criticalities_are, (w.order_is, (w.order_past, (w.deadlines_past, w.criticalities_past)))),
        ),
      ))
      (both (sound_with tw cw r.multiple)
      (both (deadlines_are tw cw (internal_deadline r))
      (both (all (count tw) (λ i. criticality_is tw cw i (internal_criticality r i)))
      (both (order_is (count tw) (internal_deadline r) (internal_criticality r) r.order)
      (both (zero_from (count tw) r.order) (both (zero_from (count tw) r.deadlines) (zero_from (count tw) r.criticalities)))))))

  abbrev refuses : (k p : ℕ) → Decision (Refuses tw cw k p r)
  refuses k p =
      restated
      (λ w. record {
        because = w.0;
        order_none = w.1.0;
        deadlines_none = w.1.1.0;
        criticalities_none = w.1.1.1.0;
        multiple_none = w.1.1.1.1;
      })
      (λ w. (w.because, (w.order_none, (w.deadlines_none, (w.criticalities_none, w.multiple_none)))))
      (both (refusal tw cw k p)
      (both (zero_from 0 r.order) (both (zero_from 0 r.deadlines) (both (zero_from 0 r.criticalities) (equal r.multiple 0)))))

  abbrev judges : (v : Result (Unit {0}) Refusal) → Decision (Judges tw cw v r)
  judges (Ok _) = accepts
  judges (Err f) = refuses (number_of f) (place_of f)

-- whether a plan is the planner's answer to the tables
abbrev pub plan_is : (tw cw : List ℕ) (r : Plan) → Decision (PlanIs tw cw r)
plan_is tw cw r = judges tw cw r r.verdict

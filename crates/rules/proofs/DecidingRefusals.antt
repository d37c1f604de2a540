-- 01, "Refusals in order": each of the numbers 1 to 8 decided at a place by computation, and with them which refusal is given.
-- A common multiple is a multiple of the first period, so those up to a bound are found by steps of it.
use mathlib.Core.Path.{◌≡◌, sym, subst}
use mathlib.Core.Logic.{⊎_elim}
use mathlib.Core.List.{List}
use Prim.Native.Nat.{ℕ, zero, suc, ◌+◌, ◌*◌, ◌/◌, ◌%◌, ◌≤◌, ◌<◌}
use native.Mathlib.Omega.{arith}
use native.Mathlib.Nat.{div-mul_cancel, div-zero, le-div_iff_mul-le, mul-pos, pos_of_dvd_of_pos, zero-mul}
use lib.ListN.{length}
use Rattle.rules.specs.Sizes.{longest_period, least_critical, most_multiple, task_width, row_width, most_task_words, most_row_words}
use Rattle.rules.specs.Tables.{count, rows, period, deadline, compute, criticality, flag, sender, receiver, kind}
use Rattle.rules.specs.Order.{Common}
use Rattle.rules.specs.Refusals.{InSize, Joins, Uneven, Raised, Never, refusals, Bad, Refusal}
use Rattle.rules.proofs.Tests.{lt_or}
use Rattle.rules.proofs.Refusals.{NoneUnder}
use Rattle.rules.proofs.Deciding.{Decision, restated, both, either, fails, all, equal, le, lt, divides, nothing, Each, Each.done, Each.◌and◌, each_at}
use Rattle.rules.proofs.DecidingChains.{reaches}

-- ---------------------------------------------------------------------------------------------------------------------------
-- Rows

abbrev pub in_size : (tw : List ℕ) (i : ℕ) → Decision (InSize tw i)
in_size tw i =
    restated
    (λ w. record {
      period_low = w.0.0.0.0.0.0.0;
      period_high = w.0.0.0.0.0.0.1;
      deadline_low = w.0.0.0.0.0.1;
      deadline_high = w.0.0.0.0.1;
      compute_low = w.0.0.0.1;
      compute_high = w.0.0.1;
      criticality_high = w.0.1;
      flag_high = w.1;
    })
    (λ s. (
      ((((((s.period_low, s.period_high), s.deadline_low), s.deadline_high), s.compute_low), s.compute_high), s.criticality_high),
      s.flag_high,
    ))
    (both (both (both (both (both (both (both
    (le 1 (period tw i)) (le (period tw i) longest_period)) (le 1 (deadline tw i))) (le (deadline tw i) (period tw i)))
    (le 1 (compute tw i))) (le (compute tw i) (deadline tw i))) (le (criticality tw i) least_critical)) (le (flag tw i) 1))

abbrev pub joins : (tw cw : List ℕ) (c : ℕ) → Decision (Joins tw cw c)
joins tw cw c =
    restated (λ w. record { sender_task = w.0.0; receiver_task = w.0.1; kind_known = w.1 })
    (λ s. ((s.sender_task, s.receiver_task), s.kind_known))
    (both (both (lt (sender cw c) (count tw)) (lt (receiver cw c) (count tw))) (le (kind cw c) 1))

abbrev pub uneven : (tw cw : List ℕ) (c : ℕ) → Decision (Uneven tw cw c)
uneven tw cw c =
    restated (λ w. record { undelayed = w.0; not_up = w.1.0; not_down = w.1.1 }) (λ s. (s.undelayed, (s.not_up, s.not_down)))
    (both (equal (kind cw c) 1)
    (both (fails (divides (period tw (sender cw c)) (period tw (receiver cw c)))) (fails (divides (period tw (receiver cw c)) (period tw (sender cw c))))))

abbrev pub raised : (tw cw : List ℕ) (c : ℕ) → Decision (Raised tw cw c)
raised tw cw c =
    restated (λ w. record { undelayed = w.0; less_critical = w.1.0; not_enforced = w.1.1 }) (λ s. (s.undelayed, (s.less_critical, s.not_enforced)))
    (both (equal (kind cw c) 1) (both (lt (criticality tw (receiver cw c)) (criticality tw (sender cw c))) (equal (flag tw (sender cw c)) 0)))

-- ---------------------------------------------------------------------------------------------------------------------------
-- Common multiples

abbrev pub common : (tw : List ℕ) (c : ℕ) → Decision (Common tw c)
common tw c = all (count tw) (λ i. divides (period tw i) c)

-- a number up to k that a divides is a step of a
step-to : (a k c q : ℕ) → 0 < a → q * a ≡ c → 0 < c → c ≤ k → (m : ℕ) × (m < k / a) × (suc m * a ≡ c)
step-to a k c zero h e p l = absurd (omega (arith, zero-mul a))
step-to a k c (suc m) h e p l = (m, (le-div_iff_mul-le h).1 (omega arith), e)

-- no step of the first period up to k is a common multiple
abbrev pub NoStep : List ℕ → ℕ → Type 0
NoStep tw k = (m : ℕ) → m < k / period tw 0 → Common tw (suc m * period tw 0) → ⊥

abbrev pub no_step : (tw : List ℕ) (k : ℕ) → Decision (NoStep tw k)
no_step tw k = all (k / period tw 0) (λ m. fails (common tw (suc m * period tw 0)))

-- so none at all up to k is
pub no_step_none : (tw : List ℕ) (k : ℕ) → 0 < count tw → NoStep tw k → (c : ℕ) → 0 < c → c ≤ k → Common tw c → ⊥
no_step_none tw k h none c p l w =
    let d = w 0 h in
    let s = step-to (period tw 0) k c (c / period tw 0) (pos_of_dvd_of_pos d p) (div-mul_cancel (period tw 0) d) p l in
    none s.0 s.1 (subst (Common tw) (sym s.2) w)

-- and the other way round, where the first period is not 0
pub none_no_step : (tw : List ℕ) (k : ℕ) → ((c : ℕ) → 0 < c → c ≤ k → Common tw c → ⊥) → NoStep tw k
none_no_step tw k none m h w = ⊎_elim here (λ z. let e : period tw 0 ≡ 0 = omega arith in omega (arith, div-zero k, rw e at h)) (lt_or 0 (period tw 0))
  where
    here : 0 < period tw 0 → ⊥
    here p = none (suc m * period tw 0) (mul-pos {m = suc m} (omega arith) p) ((le-div_iff_mul-le {x = suc m} p).0 h) w

-- whether there is a common multiple up to k; of no periods at all, 1 is one
abbrev no_common : (tw : List ℕ) (k : ℕ) → 0 < k → Decision ((c : ℕ) → 0 < c → c ≤ k → Common tw c → ⊥)
no_common tw k some =
    restated (λ w. no_step_none tw k w.0 w.1)
    (λ none. (⊎_elim (λ h. h) (λ z. absurd (none 1 (omega arith) some (λ i h. absurd (omega arith)))) (lt_or 0 (count tw)), none_no_step tw k none))
    (both (lt 0 (count tw)) (no_step tw k))

-- ---------------------------------------------------------------------------------------------------------------------------
-- The list

abbrev Decided : (ℕ → Type 0) → Type 0
Decided W = (p : ℕ) → Decision (W p)

abbrev refusals-decided : (tw cw : List ℕ) → Each Decided (refusals tw cw)
refusals-decided tw cw =
    (λ p. nothing)
    and (λ p. both (equal p 0) (either (fails (equal (length tw % task_width) 0)) (either (equal (length tw) 0) (lt most_task_words (length tw)))))
    and (λ p. both (equal p 0) (either (fails (equal (length cw % row_width) 0)) (lt most_row_words (length cw))))
    and (λ p. both (lt p (count tw)) (fails (in_size tw p)))
    and (λ p. both (lt p (rows cw)) (fails (joins tw cw p)))
    and (λ p. both (lt p (rows cw)) (uneven tw cw p))
    and (λ p. both (lt p (count tw)) (reaches cw p p))
    and (λ p. both (lt p (rows cw)) (raised tw cw p))
    and (λ p. both (equal p 0) (no_common tw most_multiple (omega arith)))
    and done

abbrev bad : (tw cw : List ℕ) (k p : ℕ) → Decision (Bad tw cw k p)
bad tw cw k p = each_at Decided (refusals-decided tw cw) Never (λ q. nothing) k p

-- every place of the list is below this
abbrev places : List ℕ → List ℕ → ℕ
places tw cw = suc (count tw + rows cw)

abbrev Placed : List ℕ → List ℕ → (ℕ → Type 0) → Type 0
Placed tw cw W = (p : ℕ) → W p → p < places tw cw

module _ (tw cw : List ℕ) where
  at_zero : {p : ℕ} {R : Type 0} → (p ≡ 0) × R → p < places tw cw
  at_zero b = omega (arith, b.0)

  at-task : {p : ℕ} {R : Type 0} → (p < count tw) × R → p < places tw cw
  at-task b = omega (arith, b.0)

  at_row : {p : ℕ} {R : Type 0} → (p < rows cw) × R → p < places tw cw
  at_row b = omega (arith, b.0)

  refusals-placed : Each (Placed tw cw) (refusals tw cw)
  refusals-placed =
      (λ p b. absurd b) and (λ p. at_zero) and (λ p. at_zero) and (λ p. at-task) and (λ p. at_row) and (λ p. at_row) and (λ p. at-task)
      and (λ p. at_row) and (λ p. at_zero) and done

  pub bad_placed : (k p : ℕ) → Bad tw cw k p → p < places tw cw
  bad_placed k p b = each_at (Placed tw cw) refusals-placed Never (λ q n. absurd n) k p b

abbrev pub none_under : (tw cw : List ℕ) (k : ℕ) → Decision (NoneUnder tw cw k)
none_under tw cw k =
    restated (λ w l q h b. w l h q (bad_placed tw cw l q b) b) (λ none l h q g b. none l q h b)
    (all k (λ l. all (places tw cw) (λ q. fails (bad tw cw l q))))

abbrev pub refusal : (tw cw : List ℕ) (k p : ℕ) → Decision (Refusal tw cw k p)
refusal tw cw k p =
    restated (λ w. record { stands = w.0; first = w.1.0; lowest = w.1.1 }) (λ r. (r.stands, (r.first, r.lowest)))
    (both (bad tw cw k p) (both (all p (λ q. fails (bad tw cw k q))) (none_under tw cw k)))

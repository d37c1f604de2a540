-- Laws of the refusals 1 to 8 (01, "Refusals in order"): a table has one refusal at most; the list is gone through number by
-- number; and what tables hold that none of the numbers stands against.
use mathlib.Core.Path.{◌≡◌, refl, sym, subst}
use mathlib.Core.Logic.{inl, inr, ⊎_elim}
use mathlib.Core.List.{List}
use Prim.Native.Nat.{ℕ, suc, ◌*◌, ◌%◌, ◌≤◌, ◌<◌}
use native.Mathlib.Omega.{arith}
use lib.ListN.{length, get_or-eq_default}
use Rattle.rules.specs.Sizes.{most_tasks, most_rows, task_width, row_width, most_task_words, most_row_words}
use Rattle.rules.specs.Tables.{count, rows}
use Rattle.rules.specs.Chains.{Link, Acyclic}
use Rattle.rules.specs.Refusals.{InSize, Joins, Bad, Refusal, Sound, refusals, Never}
use Rattle.rules.proofs.Tests.{lt_or, eq_or}
use Rattle.rules.proofs.Chains.{chain_ends}

-- ---------------------------------------------------------------------------------------------------------------------------
-- Number by number

-- no number below k stands anywhere
abbrev pub NoneUnder : List ℕ → List ℕ → ℕ → Type 0
NoneUnder tw cw k = (l q : ℕ) → l < k → Bad tw cw l q → ⊥

module _ (tw cw : List ℕ) where
  pub none_more : (k : ℕ) → NoneUnder tw cw k → ((q : ℕ) → Bad tw cw k q → ⊥) → NoneUnder tw cw (suc k)
  none_more k none here l q h b =
      ⊎_elim (λ lt. none l q lt b) (λ ge. let e : l ≡ k = omega arith in here q (subst (λ (x : ℕ). Bad tw cw x q) e b)) (lt_or l k)

  -- there is no number 0
  pub none_under_one : NoneUnder tw cw 1
  none_under_one = none_more 0 (λ l q h. absurd (omega arith)) (λ q b. b)

  pub none_under_two : length tw % task_width ≡ 0 → 0 < length tw → length tw ≤ most_task_words → NoneUnder tw cw 2
  none_under_two whole some most =
      none_more 1 none_under_one (λ q b. ⊎_elim (λ x. x whole) (⊎_elim (λ e. omega arith) (λ x. omega arith)) b.1)

  pub none_under_three : NoneUnder tw cw 2 → length cw % row_width ≡ 0 → length cw ≤ most_row_words → NoneUnder tw cw 3
  none_under_three none whole most = none_more 2 none (λ q b. ⊎_elim (λ x. x whole) (λ x. omega arith) b.1)

  -- 8 is the last number of the list
  pub none_at_all : NoneUnder tw cw 9 → Sound tw cw
  none_at_all none k p b =
      ⊎_elim (λ lt. none k p lt b)
      (λ ge. subst (λ (f : ℕ → Type 0). f p) (get_or-eq_default (refusals tw cw) Never {n = k} ge) b)
      (lt_or k 9)

  -- a number that stands at place 0
  pub refused-whole : (k : ℕ) → NoneUnder tw cw k → Bad tw cw k 0 → Refusal tw cw k 0
  refused-whole k none b = record { stands = b; first = λ q h. absurd (omega arith); lowest = none }

  -- one number and one place
  pub refusal_one : (k p l q : ℕ) → Refusal tw cw k p → Refusal tw cw l q → (k ≡ l) × (p ≡ q)
  refusal_one k p l q a b = (number, place)
    where
      number : k ≡ l
      number =
          ⊎_elim (λ lt. absurd (b.lowest k p lt a.stands))
          (λ ge. ⊎_elim (λ gt. absurd (a.lowest l q gt b.stands)) (λ le. omega arith) (lt_or l k))
          (lt_or k l)

      other : Refusal tw cw k q
      other = subst (λ (x : ℕ). Refusal tw cw x q) (sym number) b

      place : p ≡ q
      place =
          ⊎_elim (λ lt. absurd (other.first p lt a.stands))
          (λ ge. ⊎_elim (λ gt. absurd (a.first q gt other.stands)) (λ le. omega arith) (lt_or q p))
          (lt_or p q)

  pub refused-not_sound : (k p : ℕ) → Refusal tw cw k p → Sound tw cw → ⊥
  refused-not_sound k p r s = s k p r.stands

-- ---------------------------------------------------------------------------------------------------------------------------
-- What tables hold

-- 1 and 2 do not stand
pub record Lengths (tw cw : List ℕ) : Type 0 where
  pub tasks_whole : count tw * task_width ≡ length tw
  pub rows_whole : rows cw * row_width ≡ length cw
  pub some : 0 < count tw
  pub tasks_most : count tw ≤ most_tasks
  pub rows_most : rows cw ≤ most_rows

-- 3 and 4 do not stand either
pub record Tables (tw cw : List ℕ) : Type 0 where
  pub lengths : Lengths tw cw
  pub sizes : (i : ℕ) → i < count tw → InSize tw i
  pub joins : (c : ℕ) → c < rows cw → Joins tw cw c

le_stable : (a b : ℕ) → ((a ≤ b → ⊥) → ⊥) → a ≤ b
le_stable a b nn = ⊎_elim (λ lt. absurd (nn (λ h. omega arith))) (λ h. h) (lt_or b a)

eq_stable : (a b : ℕ) → ((a ≡ b → ⊥) → ⊥) → a ≡ b
eq_stable a b nn = ⊎_elim (λ h. h) (λ ne. absurd (nn ne)) (eq_or a b)

module _ (tw cw : List ℕ) where
  pub lengths_are :
      length tw % task_width ≡ 0 → 0 < length tw → length tw ≤ most_task_words → length cw % row_width ≡ 0 → length cw ≤ most_row_words
      → Lengths tw cw
  lengths_are a b c d e = record {
    tasks_whole = omega arith;
    rows_whole = omega arith;
    some = omega arith;
    tasks_most = omega arith;
    rows_most = omega arith;
  }

  pub lengths_under : NoneUnder tw cw 3 → Lengths tw cw
  lengths_under none =
      lengths_are
      (eq_stable _ _ (λ ne. none 1 0 (omega arith) (refl, inl ne)))
      (⊎_elim (λ h. h) (λ z. absurd (none 1 0 (omega arith) (refl, inr (inl (omega arith))))) (lt_or 0 (length tw)))
      (⊎_elim (λ over. absurd (none 1 0 (omega arith) (refl, inr (inr over)))) (λ h. h) (lt_or most_task_words (length tw)))
      (eq_stable _ _ (λ ne. none 2 0 (omega arith) (refl, inl ne)))
      (⊎_elim (λ over. absurd (none 2 0 (omega arith) (refl, inr over))) (λ h. h) (lt_or most_row_words (length cw)))

  sizes_of : NoneUnder tw cw 4 → (i : ℕ) → i < count tw → InSize tw i
  sizes_of none i h = record {
    period_low = le_stable _ _ (λ ne. sized (λ s. ne s.period_low));
    period_high = le_stable _ _ (λ ne. sized (λ s. ne s.period_high));
    deadline_low = le_stable _ _ (λ ne. sized (λ s. ne s.deadline_low));
    deadline_high = le_stable _ _ (λ ne. sized (λ s. ne s.deadline_high));
    compute_low = le_stable _ _ (λ ne. sized (λ s. ne s.compute_low));
    compute_high = le_stable _ _ (λ ne. sized (λ s. ne s.compute_high));
    criticality_high = le_stable _ _ (λ ne. sized (λ s. ne s.criticality_high));
    flag_high = le_stable _ _ (λ ne. sized (λ s. ne s.flag_high));
  }
    where
      sized : (InSize tw i → ⊥) → ⊥
      sized ne = none 3 i (omega arith) (h, ne)

  joins_of : NoneUnder tw cw 5 → (c : ℕ) → c < rows cw → Joins tw cw c
  joins_of none c h = record {
    sender_task = le_stable _ _ (λ ne. joined (λ s. ne s.sender_task));
    receiver_task = le_stable _ _ (λ ne. joined (λ s. ne s.receiver_task));
    kind_known = le_stable _ _ (λ ne. joined (λ s. ne s.kind_known));
  }
    where
      joined : (Joins tw cw c → ⊥) → ⊥
      joined ne = none 4 c (omega arith) (h, ne)

  pub tables_under : NoneUnder tw cw 5 → Tables tw cw
  tables_under none = record {
    lengths = lengths_under (λ l q h. none l q (omega arith));
    sizes = sizes_of (λ l q h. none l q (omega arith));
    joins = joins_of none;
  }

  -- tables that no refusal stands against
  pub lengths_of : Sound tw cw → Lengths tw cw
  lengths_of sound = lengths_under (λ l q h. sound l q)

  pub tables_of : Sound tw cw → Tables tw cw
  tables_of sound = tables_under (λ l q h. sound l q)

  -- an undelayed connection joins tasks
  pub link_within : Tables tw cw → (i j : ℕ) → Link cw i j → (i < count tw) × (j < count tw)
  link_within ts i j l = let w = ts.joins l.0 l.1 in (omega (arith, w.sender_task, l.2), omega (arith, w.receiver_task, l.3))

  -- tables that 6 does not stand against
  pub no_circle : Tables tw cw → ((p : ℕ) → Bad tw cw 6 p → ⊥) → Acyclic (Link cw)
  no_circle ts none i r = none i (chain_ends (Link cw) (count tw) ts.lengths.some (link_within ts) r.0 i i r.1 r.2, r)

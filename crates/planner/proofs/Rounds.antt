-- The rounds that work out a row of the square. After k rounds from task i the marks are the tasks at the end of a chain of
-- exactly k connections, and the row has the longest chain of at most k to each task: a round marks each task to which a
-- connection leads from a marked one, and then the row has k + 1 at the marked tasks.
use mathlib.Core.Path.{◌≡◌, refl, ap, sym, ◌∙◌, subst}
use mathlib.Core.Bool.{Bool, true, false}
use mathlib.Core.Logic.{⊎_elim}
use mathlib.Core.List.{List}
use Prim.Native.Nat.{ℕ, zero, suc, ◌+◌, ◌≤◌, ◌<◌}
use native.Mathlib.Omega.{arith}
use native.Mathlib.Numerals.{add-one}
use lib.ListN.{get_or, length, set, replicate}
use lib.Seq.{get_or-set_same}
use Rattle.rules.specs.Sizes.{most_tasks}
use Rattle.rules.specs.Tables.{sender, receiver, kind}
use Rattle.rules.specs.Chains.{Link, Chain}
use Rattle.rules.specs.Counting.{map_below}
use Rattle.rules.proofs.Tests.{lt_or, by_test, true_false, false_true}
use Rattle.rules.proofs.Counting.{map_below-at, map_below-length, replicate_at}
use Rattle.rules.proofs.Chains.{Upto}
use Rattle.planner.specs.Rounds.{Named, Marked, Stepped, noted}
use Rattle.planner.proofs.Stored.{stored_at}

-- ---------------------------------------------------------------------------------------------------------------------------
-- One step, as far as row c

pub record StepSoFar (cw : List ℕ) (marks : List Bool) (c : ℕ) (next : List Bool) : Type 0 where
  pub long : length next ≡ most_tasks
  pub sound : (j : ℕ) → Marked next j → (h : ℕ) × Marked marks h × Link cw h j
  pub complete : (q : ℕ) → q < c → Marked marks (sender cw q) → kind cw q ≡ 1 → Marked next (receiver cw q)

module _ (cw : List ℕ) (marks : List Bool) where
  pub step-none : StepSoFar cw marks 0 (replicate most_tasks false)
  step-none = record {
    long = refl;
    sound = λ j e. absurd (false_true (sym (replicate_at most_tasks j false) ∙ e));
    complete = λ q h x y. absurd (omega arith);
  }

-- a connection leads to a task
pub link_ends : (cw : List ℕ) → Named cw → (h j : ℕ) → Link cw h j → j < most_tasks
link_ends cw named h j l = let e = l.3 in omega (arith, (named l.0 l.1).1)

-- ---------------------------------------------------------------------------------------------------------------------------
-- The rounds

pub record Rounds (E : ℕ → ℕ → Type 0) (i k : ℕ) (marks : List Bool) (best : List ℕ) : Type 0 where
  pub long : length best ≡ most_tasks
  pub sound : (j : ℕ) → Marked marks j → Chain E k i j
  pub complete : (j : ℕ) → Chain E k i j → Marked marks j
  pub upto : (j : ℕ) → j < most_tasks → Upto E k i j (get_or best j 0)

module _ (E : ℕ → ℕ → Type 0) (i : ℕ) where
  pub rounds_none : i < most_tasks → Rounds E i 0 (set (replicate most_tasks false) i true) (replicate most_tasks 0)
  rounds_none h = record {
    long = refl;
    sound = λ j e. ⊎_elim (λ w. sym w.0) (λ w. absurd (false_true (sym (replicate_at most_tasks j false) ∙ sym w.1 ∙ e)))
        (stored_at (replicate most_tasks false) i j true false h);
    complete = λ j e. rw (← e) (get_or-set_same (replicate most_tasks false) i true false h);
    upto = λ j g. rw (replicate_at {A = ℕ} most_tasks j 0)
        (record { within = omega arith; is = λ p. absurd (omega arith); most = λ l p q. absurd (omega arith) });
  }

  module _
      (k : ℕ) (marks next : List Bool) (best more : List ℕ) (so : Rounds E i k marks best) (st : Stepped E marks next)
      (nt : more ≡ map_below (noted next (k + 1)) 32 best)
    where
      sound : (j : ℕ) → Marked next j → Chain E (k + 1) i j
      sound j e = let t = st.sound j e in rw add-one (t.0, so.sound t.0 t.1, t.2)

      complete : (j : ℕ) → Chain E (k + 1) i j → Marked next j
      complete j c = let d : Chain E (suc k) i j = rw add-one at c in st.complete d.0 j (so.complete d.0 d.1) d.2

      at : (j : ℕ) → j < most_tasks → get_or more j 0 ≡ noted next (k + 1) j (get_or best j 0)
      at j h = rw nt (map_below-at (noted next (k + 1)) 32 best j 0 h (omega (arith, so.long)))

      pub rounds_more : Rounds E i (k + 1) next more
      rounds_more = record { long = ap length nt ∙ map_below-length (noted next (k + 1)) 32 best ∙ so.long; sound = sound; complete = complete; upto = upto }
        where
          upto : (j : ℕ) → j < most_tasks → Upto E (k + 1) i j (get_or more j 0)
          upto j h =
              by_test (get_or next j false)
              (λ on. rw (at j h, on) (record { within = omega arith; is = λ p. sound j on; most = λ l p q. absurd (omega arith) }))
              (λ off.
              let u = so.upto j h in
              rw (at j h, off)
              (record {
                within = omega (arith, u.within);
                is = u.is;
                most = λ l p q c. ⊎_elim (λ low. u.most l p (omega arith) c)
                    (λ top. let e : l ≡ k + 1 = omega arith in true_false (sym (complete j (subst (λ (x : ℕ). Chain E x i j) e c)) ∙ off))
                    (lt_or l (k + 1));
              }))

  -- where a round marks no task no chain is longer, and the row has the longest of all
  module _
      (k : ℕ) (marks next : List Bool) (best : List ℕ) (so : Rounds E i k marks best) (st : Stepped E marks next)
      (ends : (h j : ℕ) → E h j → j < most_tasks) (none : (j : ℕ) → j < most_tasks → Marked next j → ⊥)
    where
      over : (l j : ℕ) → k < l → Chain E l i j → ⊥
      over zero j h c = omega arith
      over (suc l) j h c =
          ⊎_elim (λ more. over l c.0 more c.1)
          (λ top.
          let e : l ≡ k = omega arith in
          let on = st.complete c.0 j (so.complete c.0 (subst (λ (x : ℕ). Chain E x i c.0) e c.1)) c.2 in
          none j (ends c.0 j c.2) on)
          (lt_or k l)

      pub rounds_over : (n j : ℕ) → k ≤ n → j < most_tasks → Upto E n i j (get_or best j 0)
      rounds_over n j h g =
          let u = so.upto j g in
          record {
            within = omega (arith, u.within);
            is = u.is;
            most = λ l p q c. ⊎_elim (λ more. over l j more c) (λ low. u.most l p (omega arith) c) (lt_or k l);
          }

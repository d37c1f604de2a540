-- Laws of marks by place: what a loop that marks and looks for marks does in one turn and at its end, and that a test has a first
-- place where it holds exactly when it holds of some place.
use mathlib.Core.Path.{◌≡◌, refl, ap, sym, ◌∙◌}
use mathlib.Core.Bool.{Bool, true, false, ◌||◌}
use mathlib.Core.List.{List}
use Prim.Native.Nat.{ℕ, zero, suc, ◌+◌, ◌<◌}
use native.Mathlib.Omega.{arith}
use native.Mathlib.Numerals.{add-one}
use mathlib.Core.Logic.{⊎_elim}
use lib.ListN.{set, length, replicate}
use lib.Seq.{get_or-set_same, get_or-set_other}
use lib.Dec.{eqb, ltb}
use borrow.Author.Tests.{eqb-true, eqb-false, lt-ltb, le-ltb}
use Rattle.rules.specs.Counting.{first_of}
use Rattle.rules.proofs.Tests.{by_test, true_false, lt_or, eq_or}
use Rattle.rules.proofs.Counting.{first_of-hit, first_of-before}
use Rattle.std.proofs.lemmas.List.{length-set}
use Rattle.rules.specs.Sizes.{most_tasks}
use Rattle.executive.specs.Marks.{any_below, marked, no_marks, with_mark}
use Rattle.executive.specs.declared.deadlines.Marks.{Marks}
use Rattle.rules.specs.Range.{names}
use Rattle.rules.specs.Views.{ordered}
use Rattle.rules.specs.declared.State.{State}

-- ---------------------------------------------------------------------------------------------------------------------------
-- anyBelow

or_left : (a b : Bool) → a || b ≡ false → a ≡ false
or_left false b e = refl
or_left true b e = e

or_right : (a b : Bool) → a || b ≡ false → b ≡ false
or_right false b e = e
or_right true b e = let z : true ≡ false = e in cc

or_true : (a b : Bool) → b ≡ true → a || b ≡ true
or_true false b e = e
or_true true b e = refl

or_false : (a b : Bool) → b ≡ false → a || b ≡ a
or_false false b e = e
or_false true b e = refl

pub any_below-turn : (p : ℕ → Bool) (i : ℕ) (any : Bool) → any ≡ any_below p i → any || p i ≡ any_below p (i + 1)
any_below-turn p i any e = rw (add-one, e) refl

-- where none is found there is none
pub any_below-none : (p : ℕ → Bool) (n i : ℕ) → any_below p n ≡ false → i < n → p i ≡ false
any_below-none p zero i e h = absurd (omega arith)
any_below-none p (suc n) i e h =
    ⊎_elim (λ l. any_below-none p n i (or_left (any_below p n) (p n) e) l)
    (λ g. let q : i ≡ n = omega arith in rw q (or_right (any_below p n) (p n) e)) (lt_or i n)

pub any_below-at : (p : ℕ → Bool) (n i : ℕ) → i < n → p i ≡ true → any_below p n ≡ true
any_below-at p n i h e =
    by_test (any_below p n) (λ q. q) (λ q. absurd (true_false (sym e ∙ any_below-none p n i q h)))

pub any_below-false : (p : ℕ → Bool) (n : ℕ) → ((i : ℕ) → i < n → p i ≡ false) → any_below p n ≡ false
any_below-false p zero h = refl
any_below-false p (suc n) h = rw (h n (omega arith), any_below-false p n (λ i l. h i (omega arith)))

-- a first place, or none
pub first_of-any : (p : ℕ → Bool) (n : ℕ) → ltb (first_of p n) n ≡ any_below p n
first_of-any p n =
    ⊎_elim (λ l. lt-ltb _ _ l ∙ sym (any_below-at p n (first_of p n) l (first_of-hit p n l)))
    (λ g. le-ltb _ _ g ∙ sym (any_below-false p n (λ k l. first_of-before p n k (omega arith)))) (lt_or (first_of p n) n)

-- ---------------------------------------------------------------------------------------------------------------------------
-- The marks of those that the order names.

-- each place has the mark that p gives it
abbrev pub MarkedBy : (ℕ → Bool) → List Bool → Type 0
MarkedBy p marks = (i : ℕ) → marked marks i ≡ p i

-- whether one of the first k places names i
abbrev pub named_in : State → ℕ → ℕ → Bool
named_in s k i = any_below (names s i) k

pub named_none : (s : State) (n : ℕ) → MarkedBy (named_in s 0) (replicate n false)
named_none s zero i = refl
named_none s (suc n) zero = refl
named_none s (suc n) (suc i) = named_none s n i

pub named_turn : (s : State) (k : ℕ) (seen : List Bool) → ordered s k < length seen → MarkedBy (named_in s k) seen →
    MarkedBy (named_in s (k + 1)) (set seen (ordered s k) true)
named_turn s k seen h e i =
    rw add-one
    (by_test (eqb (ordered s k) i)
    (λ q.
    ap (marked (set seen (ordered s k) true)) (sym (eqb-true (ordered s k) i q))
    ∙ (get_or-set_same seen (ordered s k) true false h ∙ sym (or_true (named_in s k i) _ q)))
    (λ q. get_or-set_other seen (ordered s k) i true false (λ z. eqb-false _ _ q (sym z)) ∙ (e i ∙ sym (or_false (named_in s k i) _ q))))

-- ---------------------------------------------------------------------------------------------------------------------------
-- The marks that a loop puts, up to task n: one turn.

pub record Telling (p : ℕ → Bool) (n : ℕ) (m : Marks) : Type 0 where
  pub places : length m.tasks ≡ most_tasks
  pub each : (k : ℕ) → k < n → marked m.tasks k ≡ p k
  pub some : m.any ≡ any_below p n

pub telling-none : (p : ℕ → Bool) → Telling p 0 no_marks
telling-none p = record { places = refl; each = λ k h. absurd (omega arith); some = refl }

pub telling-turn : (p : ℕ → Bool) (i : ℕ) (m : Marks) (b : Bool) → i < most_tasks → Telling p i m → b ≡ p i → Telling p (i + 1) (with_mark m i b)
telling-turn p i m b l t e = record {
  places = length-set m.tasks i b ∙ t.places;
  each = λ k h.
      ⊎_elim
      (λ q. rw q (get_or-set_same m.tasks i b false (omega (arith, t.places)) ∙ e))
      (λ q. get_or-set_other m.tasks i k b false q ∙ t.each k (omega arith)) (eq_or k i);
  some = ap (λ (x : Bool). m.any || x) e ∙ any_below-turn p i m.any t.some;
}

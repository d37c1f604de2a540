-- The least common multiple: the multiples of a in turn until b divides one; then period by period. What divides both a common
-- multiple and the least one divides the remainder too, which is smaller: so the least divides every other.
use mathlib.Core.Path.{◌≡◌}
use mathlib.Core.Logic.{⊎_elim}
use mathlib.Core.List.{List}
use Prim.Native.Nat.{ℕ, ◌+◌, ◌-◌, ◌%◌, ◌≤◌, ◌<◌, ◌∣◌, max, min}
use native.Mathlib.Omega.{arith}
use native.Mathlib.Nat.{dvd-mod_iff, dvd_of_mod-eq-zero, mod-eq-zero_of_dvd, dvd-sub, le_of_dvd, dvd-add, dvd_trans, mod-lt, dvd_refl, one-dvd}
use borrow.Author.Count.{below_more}
use Rattle.rules.specs.Sizes.{most_multiple}
use Rattle.rules.specs.Tables.{period}
use Rattle.rules.specs.Order.{IsMultiple}
use Rattle.rules.proofs.Tests.{lt_or, eq_or}
use Rattle.planner.specs.Multiples.{MeetAt, MultipleAt}

-- ---------------------------------------------------------------------------------------------------------------------------
-- Of two numbers

-- t is a multiple of a, and b divides none below it
pub record Trying (a b t : ℕ) : Type 0 where
  pub some : 0 < t
  pub low : t ≤ most_multiple + a
  pub multiple : a ∣ t
  pub none : (e : ℕ) → 0 < e → e < t → a ∣ e → b ∣ e → ⊥

pub trying_first : (a b : ℕ) → 0 < a → Trying a b a
trying_first a b h = record {
  some = h;
  low = omega arith;
  multiple = dvd_refl a;
  none = λ e p q d x. absurd (omega (arith, le_of_dvd p d));
}

module _ (a b t : ℕ) (so : Trying a b t) where
  pub trying_more : t ≤ most_multiple → (t % b ≡ 0 → ⊥) → Trying a b (t + a)
  trying_more h miss = record {
    some = omega (arith, so.some);
    low = omega arith;
    multiple = dvd-add a so.multiple (dvd_refl a);
    none = λ e p q d x. ⊎_elim (λ lt. so.none e p lt d x)
        (λ ge. ⊎_elim (λ same. miss (rw same at (mod-eq-zero_of_dvd b x)))
        (λ ne. let r : 0 < e - t = omega arith in omega (arith, le_of_dvd r (dvd-sub a d so.multiple))) (eq_or e t))
        (lt_or e t);
  }

  pub trying_found : t ≤ most_multiple → t % b ≡ 0 → MeetAt a b t
  trying_found h e = record { some = so.some; small = h; left = so.multiple; right = dvd_of_mod-eq-zero b e; least = so.none }

-- the larger and the smaller of two numbers in their place
module _ (a b larger smaller : ℕ) (el : larger ≡ max a b) (es : smaller ≡ min a b) where
  by_size : (e : ℕ) → a ∣ e → b ∣ e → (larger ∣ e) × (smaller ∣ e)
  by_size e x y =
      ⊎_elim (λ lt. let p : larger ≡ b = omega arith in let q : smaller ≡ a = omega arith in rw (p, q) (y, x))
      (λ ge. let p : larger ≡ a = omega arith in let q : smaller ≡ b = omega arith in rw (p, q) (x, y)) (lt_or a b)

  in_turn : (e : ℕ) → larger ∣ e → smaller ∣ e → (a ∣ e) × (b ∣ e)
  in_turn e x y =
      ⊎_elim (λ lt. let p : a ≡ smaller = omega arith in let q : b ≡ larger = omega arith in rw (p, q) (y, x))
      (λ ge. let p : a ≡ larger = omega arith in let q : b ≡ smaller = omega arith in rw (p, q) (x, y)) (lt_or a b)

  pub met : (t : ℕ) → MeetAt larger smaller t → MeetAt a b t
  met t m =
      let w = in_turn t m.left m.right in
      record {
        some = m.some;
        small = m.small;
        left = w.0;
        right = w.1;
        least = λ e p q x y. let v = by_size e x y in m.least e p q v.0 v.1;
      }

  pub unmet :
      (t : ℕ) → Trying larger smaller t → most_multiple < t → (e : ℕ) → 0 < e → e ≤ most_multiple → a ∣ e → b ∣ e → ⊥
  unmet t so h e p q x y = let w = by_size e x y in so.none e p (omega arith) w.0 w.1

-- ---------------------------------------------------------------------------------------------------------------------------
-- Of all periods

pub record MultipleSoFar (tw : List ℕ) (i l : ℕ) : Type 0 where
  pub some : 0 < l
  pub small : l ≤ most_multiple
  pub common : (q : ℕ) → q < i → period tw q ∣ l
  pub all : (e : ℕ) → ((q : ℕ) → q < i → period tw q ∣ e) → l ∣ e

pub multiple_first : (tw : List ℕ) → MultipleSoFar tw 0 1
multiple_first tw = record { some = omega arith; small = omega arith; common = λ i h. absurd (omega arith); all = λ e c. one-dvd e }

module _ (tw : List ℕ) (i l b : ℕ) (eb : b ≡ period tw i) (so : MultipleSoFar tw i l) where
  pub both : (e : ℕ) → ((q : ℕ) → q < i + 1 → period tw q ∣ e) → (l ∣ e) × (b ∣ e)
  both e c = (so.all e (λ q h. c q (omega arith)), rw eb (c i (omega arith)))

  pub multiple_more : (t : ℕ) → MeetAt l b t → MultipleSoFar tw (i + 1) t
  multiple_more t m =
      record {
        some = m.some;
        small = m.small;
        common = below_more (λ (q : ℕ). period tw q ∣ t) i (λ q k. dvd_trans (period tw q) (so.common q k) m.left) (rw eb at m.right);
        all = λ e c.
            let d = both e c in
            ⊎_elim
            (λ pos. absurd (m.least (e % t) pos (mod-lt e m.some) ((dvd-mod_iff l m.left).1 d.0) ((dvd-mod_iff b m.right).1 d.1)))
            (λ z. dvd_of_mod-eq-zero t (omega arith)) (lt_or 0 (e % t));
      }

-- what is worked out is 01's common multiple
pub multiple_right : (tw : List ℕ) (c : ℕ) → MultipleAt tw c → IsMultiple tw c
multiple_right tw c m = record { some = m.some; common = m.common; least = λ e p d. le_of_dvd p (m.least e d) }

-- Deciding statements of the rules by computation (for the cases of 01, "Numbers from the bench"): a decision of a statement is a
-- test that computes, and what each of its values says. The statement of a whole table is decided from those of its numbers.
use mathlib.Core.Path.{◌≡◌, sym, ◌∙◌}
use mathlib.Core.Bool.{Bool, true, false, not, ◌&&◌, ◌||◌}
use mathlib.Core.Logic.{◌⊎◌, inl, inr, ⊎_elim}
use mathlib.Core.List.{List, [], ◌∷◌}
use Prim.Native.Nat.{ℕ, zero, suc, ◌%◌, ◌≤◌, ◌<◌, ◌∣◌}
use native.Mathlib.Omega.{arith}
use native.Mathlib.Nat.{dvd_of_mod-eq-zero, mod-eq-zero_of_dvd}
use lib.Dec.{leb, ltb, eqb}
use lib.ListN.{get_or}
use borrow.Author.Tests.{leb-true, leb-false, ltb-true, ltb-false, eqb-true, eqb-false, not-true, not-false}
use Rattle.rules.specs.Counting.{first_of, all_below}
use Rattle.rules.proofs.Tests.{by_test, true_false, false_true, and_left, and_right, and_false, or_true, or_false}
use Rattle.rules.proofs.Counting.{first_of-hit, first_of-before, all_below-at, all_below-all}

pub record Decision (P : Type 0) : Type 0 where
  pub test : Bool
  pub if_true : test ≡ true → P
  pub if_false : test ≡ false → P → ⊥

-- ---------------------------------------------------------------------------------------------------------------------------
-- Numbers

abbrev pub le : (a b : ℕ) → Decision (a ≤ b)
le a b = record { test = leb a b; if_true = leb-true a b; if_false = λ e h. omega (arith, leb-false a b e) }

abbrev pub lt : (a b : ℕ) → Decision (a < b)
lt a b = record { test = ltb a b; if_true = ltb-true a b; if_false = λ e h. omega (arith, ltb-false a b e) }

abbrev pub equal : (a b : ℕ) → Decision (a ≡ b)
equal a b = record { test = eqb a b; if_true = eqb-true a b; if_false = eqb-false a b }

abbrev pub divides : (a b : ℕ) → Decision (a ∣ b)
divides a b = record {
  test = eqb (b % a) 0;
  if_true = λ e. dvd_of_mod-eq-zero a (eqb-true (b % a) 0 e);
  if_false = λ e d. eqb-false (b % a) 0 e (mod-eq-zero_of_dvd a d);
}

-- the value of a test
abbrev pub tested : (b value : Bool) → Decision (b ≡ value)
tested b true = record { test = b; if_true = λ e. e; if_false = λ e p. true_false (sym p ∙ e) }
tested b false = record { test = not b; if_true = λ e. not-true b e; if_false = λ e p. false_true (sym p ∙ not-false b e) }

-- ---------------------------------------------------------------------------------------------------------------------------
-- Statements of several parts

abbrev pub nothing : Decision ⊥
nothing = record { test = false; if_true = λ e. absurd (false_true e); if_false = λ e p. p }

module _ {P : Type 0} where
  abbrev pub fails : Decision P → Decision (P → ⊥)
  fails d = record {
    test = not d.test;
    if_true = λ e. d.if_false (not-true d.test e);
    if_false = λ e k. k (d.if_true (not-false d.test e));
  }

module _ {P Q : Type 0} where
  -- the same said otherwise
  abbrev pub restated : (P → Q) → (Q → P) → Decision P → Decision Q
  restated f g d = record { test = d.test; if_true = λ e. f (d.if_true e); if_false = λ e q. d.if_false e (g q) }

  abbrev pub both : Decision P → Decision Q → Decision (P × Q)
  both d e = record {
    test = d.test && e.test;
    if_true = λ b. (d.if_true (and_left d.test e.test b), e.if_true (and_right d.test e.test b));
    if_false = λ b w. ⊎_elim (λ t. d.if_false t w.0) (λ t. e.if_false t w.1) (and_false d.test e.test b);
  }

  abbrev pub either : Decision P → Decision Q → Decision (P ⊎ Q)
  either d e = record {
    test = d.test || e.test;
    if_true = λ b. ⊎_elim (λ t. inl (d.if_true t)) (λ t. inr (e.if_true t)) (or_true d.test e.test b);
    if_false = λ b w. let t = or_false d.test e.test b in ⊎_elim (d.if_false t.0) (e.if_false t.1) w;
  }

  abbrev pub where_so : Decision P → Decision Q → Decision (P → Q)
  where_so d e = record {
    test = not d.test || e.test;
    if_true = λ b p.
        ⊎_elim (λ t. absurd (d.if_false (not-true d.test t) p)) (λ t. e.if_true t) (or_true (not d.test) e.test b);
    if_false = λ b f. let t = or_false (not d.test) e.test b in e.if_false t.1 (f (d.if_true (not-false d.test t.0)));
  }

-- ---------------------------------------------------------------------------------------------------------------------------
-- Statements of each number below n, or of one of them

module _ {P : ℕ → Type 0} where
  abbrev pub all : (n : ℕ) → ((i : ℕ) → Decision (P i)) → Decision ((i : ℕ) → i < n → P i)
  all n d = record {
    test = all_below (λ i. (d i).test) n;
    if_true = λ e i h. (d i).if_true (all_below-at (λ i. (d i).test) n i e h);
    if_false = λ e f.
        true_false
        (sym (all_below-all (λ i. (d i).test) n (λ i h. by_test (d i).test (λ t. t) (λ t. absurd ((d i).if_false t (f i h))))) ∙ e);
  }

  abbrev pub some : (n : ℕ) → ((i : ℕ) → Decision (P i)) → Decision ((i : ℕ) × (i < n) × P i)
  some n d = record {
    test = ltb (first_of (λ i. (d i).test) n) n;
    if_true = λ e.
        let h = ltb-true (first_of (λ i. (d i).test) n) n e in
        (first_of (λ i. (d i).test) n, h, (d (first_of (λ i. (d i).test) n)).if_true (first_of-hit (λ i. (d i).test) n h));
    if_false = λ e w.
        (d w.0).if_false (first_of-before (λ i. (d i).test) n w.0 (omega (arith, ltb-false (first_of (λ i. (d i).test) n) n e, w.1))) w.2;
  }

-- ---------------------------------------------------------------------------------------------------------------------------
-- Statements of each member of a list

infixr 15 ◌and◌
pub data Each {ℓ} {A : Type ℓ} (P : A → Type 0) : List A → Type ℓ where
  done : Each P []
  ◌and◌ : {x : A} {xs : List A} → P x → Each P xs → Each P (x ∷ xs)

module _ {ℓ} {A : Type ℓ} {P : A → Type 0} where
  pub first : {x : A} {xs : List A} → Each P (x ∷ xs) → P x
  first (p and ps) = p

  pub others : {x : A} {xs : List A} → Each P (x ∷ xs) → Each P xs
  others (p and ps) = ps

module _ {A : Type 0} {P : A → Type 0} where
  abbrev pub every : ((x : A) → Decision (P x)) → (xs : List A) → Decision (Each P xs)
  every d [] = record { test = true; if_true = λ e. done; if_false = λ e p. true_false e }
  every d (x ∷ xs) = restated (λ w. w.0 and w.1) (λ w. (first w, others w)) (both (d x) (every d xs))

module _ {ℓ} {A : Type ℓ} (P : A → Type 0) where
  abbrev pub each_at : {xs : List A} → Each P xs → (d : A) → P d → (k : ℕ) → P (get_or xs k d)
  each_at done d z k = z
  each_at (p and ps) d z zero = p
  each_at (p and ps) d z (suc k) = each_at ps d z k

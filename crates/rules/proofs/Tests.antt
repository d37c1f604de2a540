-- Deciding by a test, and what a test of several parts says of each.
use mathlib.Core.Path.{◌≡◌, refl}
use mathlib.Core.Bool.{Bool, true, false, cond, ◌&&◌, ◌||◌}
use mathlib.Core.Logic.{◌⊎◌, inl, inr}
use Prim.Native.Nat.{ℕ, ◌≤◌, ◌<◌}
use native.Mathlib.Omega.{arith}
use native.Mathlib.Decide.{dec_lt, ℕ_discrete}

-- by a test, with its value
pub by_test {ℓ} : {A : Type ℓ} (b : Bool) → (b ≡ true → A) → (b ≡ false → A) → A
by_test true y n = y refl
by_test false y n = n refl

-- two numbers are in one order or the other, equal or not
pub lt_or : (a b : ℕ) → (a < b) ⊎ (b ≤ a)
lt_or a b = elim (dec_lt a b) [ yes h ↦ inl h | no h ↦ inr (omega arith) ]

pub eq_or : (a b : ℕ) → (a ≡ b) ⊎ (a ≡ b → ⊥)
eq_or a b = elim (ℕ_discrete a b) [ yes h ↦ inl h | no h ↦ inr h ]

-- a test has one value
pub true_false : true ≡ false → ⊥
true_false e = let z : ◌≡◌ {A = ℕ} 0 1 = cc in omega arith

pub false_true : false ≡ true → ⊥
false_true e = let z : ◌≡◌ {A = ℕ} 0 1 = cc in omega arith

-- a test of two parts
pub and_left : (a b : Bool) → a && b ≡ true → a ≡ true
and_left true b e = refl
and_left false b e = e

pub and_right : (a b : Bool) → a && b ≡ true → b ≡ true
and_right true b e = e
and_right false b e = absurd (false_true e)

pub and_both : (a b : Bool) → a ≡ true → b ≡ true → a && b ≡ true
and_both a b e q = rw (e, q)

pub and_not_left : (a b : Bool) → a ≡ false → a && b ≡ false
and_not_left a b e = rw e

pub and_not_right : (a b : Bool) → b ≡ false → a && b ≡ false
and_not_right true b e = e
and_not_right false b e = refl

-- one of two parts fails, or one of two stands
pub and_false : (a b : Bool) → a && b ≡ false → (a ≡ false) ⊎ (b ≡ false)
and_false true b e = inr e
and_false false b e = inl refl

pub or_true : (a b : Bool) → a || b ≡ true → (a ≡ true) ⊎ (b ≡ true)
or_true true b e = inl refl
or_true false b e = inr e

pub or_false : (a b : Bool) → a || b ≡ false → (a ≡ false) × (b ≡ false)
or_false true b e = absurd (true_false e)
or_false false b e = (refl, e)

-- a choice by a test that is known
pub cond_true {ℓ} : {A : Type ℓ} (b : Bool) (x y : A) → b ≡ true → cond b x y ≡ x
cond_true b x y e = rw e

pub cond_false {ℓ} : {A : Type ℓ} (b : Bool) (x y : A) → b ≡ false → cond b x y ≡ y
cond_false b x y e = rw e

-- what is done behind a choice may be done to both
pub cond_map {ℓ m} : {A : Type ℓ} {B : Type m} (f : A → B) (b : Bool) (x y : A) → f (cond b x y) ≡ cond b (f x) (f y)
cond_map f true x y = refl
cond_map f false x y = refl

-- a choice between two alike
pub cond_same {ℓ} : {A : Type ℓ} (b : Bool) (x : A) → cond b x x ≡ x
cond_same true x = refl
cond_same false x = refl

-- what holds of each side under its test holds of the choice
pub cond_by {ℓ m} : {A : Type ℓ} (P : A → Type m) (b : Bool) (x y : A) → (b ≡ true → P x) → (b ≡ false → P y) → P (cond b x y)
cond_by P true x y p q = p refl
cond_by P false x y p q = q refl

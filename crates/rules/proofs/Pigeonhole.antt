-- The pigeonhole law: n + 1 places that hold numbers below n hold some number twice. Either the last place's number v stands at
-- an earlier place, or the earlier places avoid v; then the numbers past v, moved down by one, are numbers below n - 1.
use mathlib.Core.Path.{◌≡◌, ap, ◌∙◌}
use mathlib.Core.Bool.{cond}
use mathlib.Core.Logic.{◌⊎◌, inl, inr, ⊎_elim}
use Prim.Native.Nat.{ℕ, zero, suc, ◌-◌, ◌≤◌, ◌<◌}
use native.Mathlib.Omega.{arith}
use lib.Dec.{ltb}
use borrow.Author.Tests.{lt-ltb, le-ltb}
use Rattle.rules.proofs.Tests.{lt_or, eq_or, cond_true, cond_false}

-- two of the places up to n hold the same
abbrev pub Twice : (ℕ → ℕ) → ℕ → Type 0
Twice f n = (a : ℕ) × (b : ℕ) × (a < b) × (b ≤ n) × (f a ≡ f b)

-- a place below m where f has v, or none
place_or : (f : ℕ → ℕ) (v m : ℕ) → ((p : ℕ) × (p < m) × (f p ≡ v)) ⊎ ((p : ℕ) → p < m → f p ≡ v → ⊥)
place_or f v zero = inr (λ p h e. omega arith)
place_or f v (suc m) =
    ⊎_elim (λ w. inl (w.0, omega arith, w.2))
    (λ none. ⊎_elim (λ e. inl (m, omega arith, e))
    (λ ne. inr (λ p h e. ⊎_elim (λ below. none p below e) (λ up. ne (ap f (let q : m ≡ p = omega arith in q) ∙ e)) (lt_or p m)))
    (eq_or (f m) v))
    (place_or f v m)

-- the numbers but v, moved together
abbrev without : ℕ → ℕ → ℕ
without v x = cond (ltb x v) x (x - 1)

without_cases : (v x : ℕ) → ((x < v) × (without v x ≡ x)) ⊎ ((v ≤ x) × (without v x ≡ x - 1))
without_cases v x =
    ⊎_elim (λ h. inl (h, cond_true (ltb x v) x (x - 1) (lt-ltb x v h))) (λ h. inr (h, cond_false (ltb x v) x (x - 1) (le-ltb x v h))) (lt_or x v)

module _ (m v : ℕ) (f : ℕ → ℕ) (v-small : v < suc m) (small : (p : ℕ) → p ≤ m → f p < suc m) (off : (p : ℕ) → p < suc m → f p ≡ v → ⊥) where
  without_small : (p : ℕ) → p ≤ m → without v (f p) < m
  without_small p h =
      let b = small p h in
      let o = off p (omega arith) in
      ⊎_elim (λ w. omega arith) (λ w. ⊎_elim (λ e. absurd (o e)) (λ ne. omega arith) (eq_or (f p) v)) (without_cases v (f p))

  without_apart : (a b : ℕ) → a ≤ m → b ≤ m → without v (f a) ≡ without v (f b) → f a ≡ f b
  without_apart a b ha hb e =
      let oa = off a (omega arith) in
      let ob = off b (omega arith) in
      ⊎_elim (λ w. ⊎_elim (λ x. omega arith) (λ x. omega arith) (without_cases v (f b)))
      (λ w. ⊎_elim (λ x. omega arith) (λ x. omega arith) (without_cases v (f b))) (without_cases v (f a))

pub pigeonhole : (n : ℕ) (f : ℕ → ℕ) → ((p : ℕ) → p ≤ n → f p < n) → Twice f n
pigeonhole zero f h = let z : f 0 < 0 = h 0 (omega arith) in absurd (omega arith)
pigeonhole (suc m) f h =
    ⊎_elim (λ w. (w.0, suc m, w.1, omega arith, w.2))
    (λ off.
    let v-small = h (suc m) (omega arith) in
    let small : (p : ℕ) → p ≤ m → f p < suc m = λ p k. h p (omega arith) in
    let t = pigeonhole m (λ p. without (f (suc m)) (f p)) (without_small m (f (suc m)) f v-small small off) in
    (t.0, t.1, t.2, omega arith, without_apart m (f (suc m)) f v-small small off t.0 t.1 (omega arith) (omega arith) t.4))
    (place_or f (f (suc m)) (suc m))

-- With a deadline of 1 to the period, t and the deadline leave the same remainder by the period exactly when t leaves the deadline, or
-- t leaves 0 and the deadline is the period: one division for each task and tick.
use mathlib.Core.Path.{◌≡◌, refl, ap, sym, ◌∙◌}
use mathlib.Core.Bool.{Bool, true, false, ◌&&◌, ◌||◌}
use mathlib.Core.Logic.{⊎_elim}
use Prim.Native.Nat.{ℕ, ◌%◌, ◌≤◌, ◌<◌}
use native.Mathlib.Omega.{arith}
use native.Mathlib.Nat.{mod-lt, mod-eq_of_lt, mod_self}
use lib.Dec.{eqb}
use borrow.Author.Tests.{eq-eqb, ne_eqb}
use Rattle.rules.proofs.Tests.{lt_or}

below : (r d p : ℕ) → d < p → eqb r d || (eqb r 0 && eqb d p) ≡ eqb r d
below r d p h = rw (ne_eqb d p (λ e. omega arith)) (none (eqb r d) (eqb r 0))
  where
    none : (a b : Bool) → a || (b && false) ≡ a
    none true b = refl
    none false true = refl
    none false false = refl

at-end : (r d p : ℕ) → r < p → d ≡ p → eqb r d || (eqb r 0 && eqb d p) ≡ eqb r 0
at-end r d p h e = rw (ne_eqb r d (λ z. omega arith), eq-eqb d p e) (same (eqb r 0))
  where
    same : (a : Bool) → false || (a && true) ≡ a
    same true = refl
    same false = refl

pub same-remainder : (t d p : ℕ) → 1 ≤ d → d ≤ p → eqb (t % p) d || (eqb (t % p) 0 && eqb d p) ≡ eqb (t % p) (d % p)
same-remainder t d p l h =
    ⊎_elim (λ k. rw (mod-eq_of_lt {n = d} {m = p} k) (below (t % p) d p k))
    (λ k.
    let e : d ≡ p = omega arith in
    at-end (t % p) d p (mod-lt t (omega arith)) e ∙ sym (ap (λ (x : ℕ). eqb (t % p) x) (ap (λ (x : ℕ). x % p) e ∙ mod_self p)))
    (lt_or d p)

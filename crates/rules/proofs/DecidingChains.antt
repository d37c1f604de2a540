-- Chains of undelayed connections (01, "Working out the order") decided by computation. Every connection lies between the tasks
-- up to the greatest word of the table, so a chain is looked for task by task; and the longest of at most as many connections as
-- there are such tasks tells, by the laws of chains, whether one task reaches another.
use mathlib.Core.Path.{◌≡◌, refl, subst}
use mathlib.Core.Bool.{Bool, true, false, cond}
use mathlib.Core.Logic.{⊎_elim}
use mathlib.Core.List.{List, [], ◌∷◌}
use Prim.Native.Nat.{ℕ, zero, suc, ◌+◌, ◌*◌, ◌≤◌, ◌<◌, max}
use native.Mathlib.Omega.{arith}
use lib.ListN.{get_or}
use Rattle.rules.specs.Sizes.{row_width}
use Rattle.rules.specs.Tables.{rows, sender, receiver, kind}
use Rattle.rules.specs.Chains.{Link, Chain, Reaches}
use Rattle.rules.proofs.Tests.{lt_or}
use Rattle.rules.proofs.Chains.{Upto, upto_reached, upto_reaches}
use Rattle.rules.proofs.Deciding.{Decision, restated, both, some, equal, lt}

-- as many tasks as the table of connections can name
abbrev greatest : List ℕ → ℕ
greatest [] = 0
greatest (x ∷ xs) = max x (greatest xs)

greatest_at : (xs : List ℕ) (k : ℕ) → get_or xs k 0 ≤ greatest xs
greatest_at [] k = omega arith
greatest_at (x ∷ xs) zero = omega arith
greatest_at (x ∷ xs) (suc k) = omega (arith, greatest_at xs k)

abbrev pub named : List ℕ → ℕ
named cw = suc (greatest cw)

pub link_named : (cw : List ℕ) (i j : ℕ) → Link cw i j → (i < named cw) × (j < named cw)
link_named cw i j l =
    (omega (arith, greatest_at cw (l.0 * row_width), l.2), omega (arith, greatest_at cw (l.0 * row_width + 1), l.3))

abbrev link : (cw : List ℕ) (i j : ℕ) → Decision (Link cw i j)
link cw i j =
    restated (λ w. (w.0, w.1, w.2.0, w.2.1.0, w.2.1.1)) (λ l. (l.0, l.1, (l.2, (l.3, l.4))))
    (some (rows cw) (λ c. both (equal (sender cw c) i) (both (equal (receiver cw c) j) (equal (kind cw c) 1))))

abbrev chain : (cw : List ℕ) (k i j : ℕ) → Decision (Chain (Link cw) k i j)
chain cw zero i j = equal i j
chain cw (suc k) i j =
    restated (λ w. (w.0, w.2.0, w.2.1)) (λ c. (c.0, (link_named cw c.0 j c.2).0, (c.1, c.2)))
    (some (named cw) (λ h. both (chain cw k i h) (link cw h j)))

-- the longest of at most m connections
abbrev longest : List ℕ → ℕ → ℕ → ℕ → ℕ
longest cw zero i j = 0
longest cw (suc m) i j = cond (chain cw (suc m) i j).test (suc m) (longest cw m i j)

-- one connection more: m + 1 where so many lead from i to j, else what it was
upto_more : (E : ℕ → ℕ → Type 0) (m i j b : ℕ) (t : Bool) → (t ≡ true → Chain E (suc m) i j) → (t ≡ false → Chain E (suc m) i j → ⊥) →
    Upto E m i j b → Upto E (suc m) i j (cond t (suc m) b)
upto_more E m i j b true there none u = record { within = omega arith; is = λ h. there refl; most = λ k h q c. omega arith }
upto_more E m i j b false there none u = record {
  within = omega (arith, u.within);
  is = u.is;
  most = λ k h q c.
      ⊎_elim (λ low. u.most k h (omega arith) c)
      (λ top. none refl (subst (λ (x : ℕ). Chain E x i j) (let e : k ≡ suc m = omega arith in e) c)) (lt_or k (suc m));
}

longest_upto : (cw : List ℕ) (m i j : ℕ) → Upto (Link cw) m i j (longest cw m i j)
longest_upto cw zero i j = record { within = omega arith; is = λ h. absurd (omega arith); most = λ k h q c. omega arith }
longest_upto cw (suc m) i j =
    let d = chain cw (suc m) i j in
    upto_more (Link cw) m i j (longest cw m i j) d.test d.if_true d.if_false (longest_upto cw m i j)

-- "The longest chain between each two tasks", where there is no circle
abbrev pub between : List ℕ → ℕ → ℕ → ℕ
between cw i j = longest cw (named cw) i j

pub between-upto : (cw : List ℕ) (i j : ℕ) → Upto (Link cw) (named cw) i j (between cw i j)
between-upto cw i j = longest_upto cw (named cw) i j

abbrev pub reaches : (cw : List ℕ) (i j : ℕ) → Decision (Reaches (Link cw) i j)
reaches cw i j =
    restated (upto_reaches (Link cw) (named cw) i j (between cw i j) (between-upto cw i j))
    (upto_reached (Link cw) (named cw) (omega arith) (link_named cw) i j (between cw i j) (between-upto cw i j))
    (lt 0 (between cw i j))

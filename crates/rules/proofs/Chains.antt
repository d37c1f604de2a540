-- Laws of chains (01, "Working out the order"), for any connections E between tasks.
--
-- A chain of k connections is a walk through tasks f 0, f 1, .. f k with a connection from each to the next. Among n tasks a walk
-- of n or more connections comes to one of them twice within its first n (the pigeonhole law): it comes, goes round, and goes on.
-- So where there is no circle every chain has fewer than n connections; and where a chain leads from i to j, leaving the rounds
-- out gives one of at most n. What the longest of at most n connections says is then true of all chains.
use mathlib.Core.Path.{◌≡◌, refl, ap, sym, ◌∙◌, subst}
use mathlib.Core.Bool.{cond}
use mathlib.Core.Logic.{⊎_elim}
use Prim.Native.Nat.{ℕ, zero, suc, ◌+◌, ◌-◌, ◌≤◌, ◌<◌}
use native.Mathlib.Omega.{arith}
use native.Mathlib.Nat.{add-suc, add-zero, zero-add}
use lib.Dec.{leb}
use borrow.Author.Tests.{le-leb, lt-leb}
use Rattle.rules.specs.Chains.{Chain, Reaches, Acyclic, Longest}
use Rattle.rules.proofs.Tests.{lt_or, cond_true, cond_false}
use Rattle.rules.proofs.Pigeonhole.{Twice, pigeonhole}

-- the longest chain from i to j among those of at most n connections; 0 where there is none
pub record Upto (E : ℕ → ℕ → Type 0) (n i j b : ℕ) : Type 0 where
  pub within : b ≤ n
  pub is : 0 < b → Chain E b i j
  pub most : (k : ℕ) → b < k → k ≤ n → Chain E k i j → ⊥

-- ---------------------------------------------------------------------------------------------------------------------------
-- A chain as a walk

pub record Walk (E : ℕ → ℕ → Type 0) (k i j : ℕ) : Type 0 where
  pub at : ℕ → ℕ
  pub start : at 0 ≡ i
  pub end : at k ≡ j
  pub links : (p : ℕ) → p < k → E (at p) (at (suc p))

-- f as far as k, and j from there on
abbrev onward : (ℕ → ℕ) → ℕ → ℕ → ℕ → ℕ
onward f k j p = cond (leb p k) (f p) j

onward-within : (f : ℕ → ℕ) (k j p : ℕ) → p ≤ k → onward f k j p ≡ f p
onward-within f k j p h = cond_true (leb p k) (f p) j (le-leb p k h)

onward-past : (f : ℕ → ℕ) (k j : ℕ) → onward f k j (suc k) ≡ j
onward-past f k j = cond_false (leb (suc k) k) (f (suc k)) j (lt-leb (suc k) k (omega arith))

module _ (E : ℕ → ℕ → Type 0) where
  walk_more : (k i h j : ℕ) → Walk E k i h → E h j → Walk E (suc k) i j
  walk_more k i h j w e = record {
    at = onward w.at k j;
    start = onward-within w.at k j 0 (omega arith) ∙ w.start;
    end = onward-past w.at k j;
    links = links;
  }
    where
      links : (p : ℕ) → p < suc k → E (onward w.at k j p) (onward w.at k j (suc p))
      links p g =
          rw (onward-within w.at k j p (omega arith))
          (⊎_elim (λ lt. rw (onward-within w.at k j (suc p) lt) (w.links p lt))
          (λ ge. let q : p ≡ k = omega arith in rw (q, onward-past w.at k j, w.end) e) (lt_or p k))

  pub chain_walk : (k i j : ℕ) → Chain E k i j → Walk E k i j
  chain_walk zero i j c = record { at = λ p. i; start = refl; end = c; links = λ p h. absurd (omega arith) }
  chain_walk (suc k) i j c = walk_more k i c.0 j (chain_walk k i c.0 c.1) c.2

  -- a part of a walk is a chain
  walk_part : (k i j : ℕ) (w : Walk E k i j) (d a : ℕ) → a + d ≤ k → Chain E d (w.at a) (w.at (a + d))
  walk_part k i j w zero a h = rw add-zero refl
  walk_part k i j w (suc d) a h =
      rw add-suc
      (w.at (a + d), walk_part k i j w d a (omega (arith, add-suc a d)), w.links (a + d) (omega (arith, add-suc a d)))

  pub walk_chain : (k i j : ℕ) → Walk E k i j → Chain E k i j
  walk_chain k i j w =
      subst (λ (x : ℕ). Chain E k x j) w.start
      (subst (λ (x : ℕ). Chain E k (w.at 0) x) (ap w.at (zero-add k) ∙ w.end) (walk_part k i j w k 0 (omega arith)))

  -- ---------------------------------------------------------------------------------------------------------------------------
  -- Chains joined, and chains of n or more

  pub chain_join : (a b i v j : ℕ) → Chain E a i v → Chain E b v j → Chain E (a + b) i j
  chain_join a zero i v j c d = rw add-zero (subst (λ (x : ℕ). Chain E a i x) d c)
  chain_join a (suc b) i v j c d = rw add-suc (d.0, chain_join a b i v d.0 c d.1, d.2)

  -- one connection before a chain
  pub chain_before : (k i h j : ℕ) → E i h → Chain E k h j → Chain E (suc k) i j
  chain_before k i h j e c = subst (λ (x : ℕ). Chain E x i j) (let q : 1 + k ≡ suc k = omega arith in q) (chain_join 1 k i h j (i, refl, e) c)

  -- a chain that comes to task v, goes round to it and goes on, the round within its first n connections
  pub record Round (n k i j : ℕ) : Type 0 where
    pub a : ℕ
    pub l : ℕ
    pub b : ℕ
    pub v : ℕ
    pub come : Chain E a i v
    pub round : Chain E l v v
    pub go : Chain E b v j
    pub some : 0 < l
    pub soon : a + l ≤ n
    pub all : a + l + b ≡ k

  -- a walk that is at one task twice
  round_made : (n k i j : ℕ) → n ≤ k → (w : Walk E k i j) → Twice w.at n → Round n k i j
  round_made n k i j h w t = record {
    a = t.0;
    l = t.1 - t.0;
    b = k - t.1;
    v = w.at t.0;
    come = subst (λ (x : ℕ). Chain E t.0 x (w.at t.0)) w.start
        (subst (λ (x : ℕ). Chain E t.0 (w.at 0) (w.at x)) (zero-add t.0) (walk_part k i j w t.0 0 (omega (arith, t.2, t.3))));
    round = subst (λ (x : ℕ). Chain E (t.1 - t.0) (w.at t.0) x) (ap w.at up ∙ sym t.4)
        (walk_part k i j w (t.1 - t.0) t.0 (omega (arith, t.2, t.3)));
    go = subst (λ (x : ℕ). Chain E (k - t.1) x j) (sym t.4)
        (subst (λ (x : ℕ). Chain E (k - t.1) (w.at t.1) x) (ap w.at last ∙ w.end)
        (walk_part k i j w (k - t.1) t.1 (omega (arith, t.3))));
    some = omega (arith, t.2);
    soon = omega (arith, t.2, t.3);
    all = omega (arith, t.2, t.3);
  }
    where
      up : t.0 + (t.1 - t.0) ≡ t.1
      up = omega (arith, t.2)

      last : t.1 + (k - t.1) ≡ k
      last = omega (arith, t.3)

  module _ (n : ℕ) (some : 0 < n) (within : (i j : ℕ) → E i j → (i < n) × (j < n)) where
    walk_within : (k i j : ℕ) (w : Walk E k i j) → n ≤ k → (p : ℕ) → p ≤ n → w.at p < n
    walk_within k i j w h zero q = (within _ _ (w.links 0 (omega arith))).0
    walk_within k i j w h (suc p) q = (within _ _ (w.links p (omega arith))).1

    pub round_in : (k i j : ℕ) → n ≤ k → Chain E k i j → Round n k i j
    round_in k i j h c = let w = chain_walk k i j c in round_made n k i j h w (pigeonhole n w.at (walk_within k i j w h))

    -- a chain of one or more ends at a task
    pub chain_ends : (k i j : ℕ) → 0 < k → Chain E k i j → j < n
    chain_ends zero i j h c = absurd (omega arith)
    chain_ends (suc k) i j h c = (within c.0 j c.2).1

    -- with no circle a chain has fewer connections than there are tasks
    pub chain_bounded : Acyclic E → (k i j : ℕ) → Chain E k i j → k < n
    chain_bounded free k i j c =
        ⊎_elim (λ h. h) (λ h. let r = round_in k i j h c in absurd (free r.v (r.l, r.some, r.round))) (lt_or k n)

    -- and where one leads from i to j, a longest does, though which is not known: were none of k or more the longest, each would
    -- have a longer one
    pub longest_not_missing : Acyclic E → (k i j : ℕ) → 0 < k → Chain E k i j → ((b : ℕ) → k ≤ b → Longest E i j b → ⊥) → ⊥
    longest_not_missing free k i j h c none = go n k (omega arith) (omega arith) c
      where
        go : (m l : ℕ) → n ≤ l + m → k ≤ l → Chain E l i j → ⊥
        go zero l g le d = omega (arith, chain_bounded free l i j d)
        go (suc m) l g le d = none l le (record { is = λ p. d; most = λ x up e. go m x (omega arith) (omega arith) e })

    -- where a chain leads from i to j, one of at most n connections does
    shorter : (m k i j : ℕ) → k ≤ m → 0 < k → Chain E k i j → (l : ℕ) × (0 < l) × (l ≤ n) × Chain E l i j
    shorter zero k i j h q c = absurd (omega arith)
    shorter (suc m) k i j h q c =
        ⊎_elim
        (λ far.
        let r = round_in k i j (omega arith) c in
        shorter m (r.a + r.b) i j (omega arith) (omega arith) (chain_join r.a r.b i r.v j r.come r.go))
        (λ near. (k, q, near, c))
        (lt_or n k)

    pub reaches_within : (i j : ℕ) → Reaches E i j → (l : ℕ) × (0 < l) × (l ≤ n) × Chain E l i j
    reaches_within i j r = shorter r.0 r.0 i j (omega arith) r.1 r.2

    -- -------------------------------------------------------------------------------------------------------------------------
    -- The longest of at most n connections

    -- with no circle it is the longest of all
    pub upto_longest : Acyclic E → (i j b : ℕ) → Upto E n i j b → Longest E i j b
    upto_longest free i j b u = record { is = u.is; most = λ k h c. u.most k h (omega (arith, chain_bounded free k i j c)) c }

    -- it is not 0 exactly where i reaches j
    pub upto_reached : (i j b : ℕ) → Upto E n i j b → Reaches E i j → 0 < b
    upto_reached i j b u r =
        ⊎_elim (λ h. h) (λ z. let s = reaches_within i j r in absurd (u.most s.0 (omega (arith, s.1)) s.2 s.3)) (lt_or 0 b)

    -- there is no circle where it is 0 from each task to itself
    pub upto_acyclic : (b : ℕ → ℕ) → ((i : ℕ) → i < n → Upto E n i i (b i)) → ((i : ℕ) → i < n → b i ≡ 0) → Acyclic E
    upto_acyclic b u z i r =
        let h = chain_ends r.0 i i r.1 r.2 in
        omega (arith, upto_reached i i (b i) (u i h) r, z i h)

  pub upto_reaches : (n i j b : ℕ) → Upto E n i j b → 0 < b → Reaches E i j
  upto_reaches n i j b u h = (b, h, u.is h)

  -- the longest is one number
  pub longest_one : (i j b d : ℕ) → Longest E i j b → Longest E i j d → b ≡ d
  longest_one i j b d u w =
      ⊎_elim (λ h. absurd (u.most d h (w.is (omega arith))))
      (λ h. ⊎_elim (λ k. absurd (w.most b k (u.is (omega arith)))) (λ k. omega arith) (lt_or d b))
      (lt_or b d)

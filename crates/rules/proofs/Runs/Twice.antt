-- Two runs of one plan read the same words, by induction on a job's dispatch tick and then on its task's place in the order. A row counts
-- jobs of its sender that are smaller so: on a delayed row they were dispatched before, by a deadline at least; on an undelayed one at
-- the same tick or before, and the sender has the earlier place. Equal words read make equal words delivered, and those are what is read.
use mathlib.Core.Path.{◌≡◌, refl, sym, ◌∙◌, ap}
use mathlib.Core.Bool.{true, false}
use mathlib.Core.List.{List}
use Prim.Native.Nat.{ℕ, zero, suc, ◌+◌, ◌*◌, ◌≤◌, ◌<◌}
use native.Mathlib.Nat.{mul-le-mul_right}
use native.Mathlib.Omega.{arith}
use lib.ListN.{length, get_or, take}
use Rattle.rules.specs.declared.State.{State}
use Rattle.rules.specs.Views.{period, deadline, sender, receiver, undelayed}
use Rattle.rules.specs.Range.{place_of}
use Rattle.rules.specs.Sampling.{said}
use Rattle.rules.specs.Runs.{Call, Sent, start, after, Job, counted, Alike, Consistent, TwoRuns}
use Rattle.rules.proofs.Tests.{by_test}
use Rattle.rules.proofs.Sampling.{up_to-counted}
use Rattle.rules.proofs.Runs.Parts.{Laid}
use Rattle.rules.proofs.Runs.Invariant.{Planned, start-laid}
use Rattle.rules.proofs.Runs.Moments.{sent_take}
use Rattle.rules.proofs.Runs.Reads.{sampled}
use Rattle.rules.proofs.Runs.Words.{later_said, delivered_started}

module _ (s : State) (pl : Planned s) where
  laid : Laid s
  laid = start-laid s pl

  -- a job's dispatch tick, and then its task's place
  abbrev measure : ℕ → ℕ → ℕ
  measure i k = k * period s i * s.count + place_of s i

  falls : (i k c j : ℕ) → c < s.rows → receiver s c ≡ i → j < counted s c (k * period s i) → measure (sender s c) j < measure i k
  falls i k c j l e h = by_test (undelayed s c) at_once delayed
    where
      S : ℕ
      S = sender s c

      si : S < s.count
      si = laid.sender_in c l

      pos : 0 < period s S
      pos = (laid.paced S si).period_pos

      at_once : undelayed s c ≡ true → measure S j < measure i k
      at_once u =
          let a : j * period s S ≤ k * period s i = omega (arith, up_to-counted (period s S) 0 (k * period s i) pos j (rw u at h)) in
          omega (arith, mul-le-mul_right s.count a, laid.sender_first c l u, ap (λ (y : ℕ). place_of s y) e)

      delayed : undelayed s c ≡ false → measure S j < measure i k
      delayed u =
          let D : ℕ = deadline s S in
          let a : suc (j * period s S) ≤ k * period s i =
          omega (arith, up_to-counted (period s S) D (k * period s i) pos j (rw u at h), (laid.paced S si).deadline_pos) in
          omega (arith, mul-le-mul_right s.count a, laid.has_place S si)

  -- the words that a task delivers in a run
  abbrev words : List Call → ℕ → List ℕ
  words cs i = (after (start s) cs).words i

  -- what a job has read, by the words of the whole run
  reads : (cs : List Call) → Sent cs → (i k : ℕ) (x : ℕ → ℕ) → Job s (after (start s)) cs i k x → (c : ℕ) → c < s.rows → receiver s c ≡ i →
      (counted s c (k * period s i) ≤ length (words cs (sender s c))) × (x c ≡ said (words cs (sender s c)) (counted s c (k * period s i)))
  reads cs h i k x (n, j) c l e =
      let p = sampled s pl (take n cs) (sent_take n cs h) i k x j c l e in
      let q = later_said n cs (start s) (sender s c) _ p.0 in
      (q.0, p.1 ∙ sym q.1)

  module _ (ca cb : List Call) (ha : Sent ca) (hb : Sent cb) (agree : Consistent s (after (start s)) ca cb) where
    abbrev Same : ℕ → ℕ → Type 0
    Same i k = (x y : ℕ → ℕ) → Job s (after (start s)) ca i k x → Job s (after (start s)) cb i k y → Alike s i x y

    -- the word of a job that reads the same in both
    same_word : (i k : ℕ) → Same i k → k < length (words ca i) → k < length (words cb i) → get_or (words ca i) k 0 ≡ get_or (words cb i) k 0
    same_word i k ih a b =
        let p = delivered_started s pl ca i k a in
        let q = delivered_started s pl cb i k b in
        agree i k p.0 q.0 p.1 q.1 (ih p.0 q.0 p.1 q.1) a b

    same-said : (i u : ℕ) → ((j : ℕ) → j < u → Same i j) → u ≤ length (words ca i) → u ≤ length (words cb i) →
        said (words ca i) u ≡ said (words cb i) u
    same-said i zero f a b = refl
    same-said i (suc j) f a b = same_word i j (f j (omega arith)) (omega arith) (omega arith)

    -- the jobs that are counted read the same: then so does this one
    step : (i k : ℕ) → ((c j : ℕ) → c < s.rows → receiver s c ≡ i → j < counted s c (k * period s i) → Same (sender s c) j) → Same i k
    step i k ih x y ja jb c l e =
        let p = reads ca ha i k x ja c l e in
        let q = reads cb hb i k y jb c l e in
        p.1 ∙ same-said (sender s c) _ (λ j h. ih c j l e h) p.0 q.0 ∙ sym q.1

    all : (b i k : ℕ) → measure i k < b → Same i k
    all zero i k h = absurd (omega arith)
    all (suc b) i k h = step i k (λ c j l e q. all b (sender s c) j (omega (arith, falls i k c j l e q)))

  pub two_runs : TwoRuns s (after (start s))
  two_runs ca cb ha hb agree i k = all ca cb ha hb agree (suc (measure i k)) i k (omega arith)

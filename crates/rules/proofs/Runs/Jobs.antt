-- How many jobs of one task lie behind a moment of a run: T ticks are past, the next one is tick T. Numbers alone: a period P, an offset d
-- (0 for dispatches, the deadline for deadlines), and what one tick more adds to a count.
use mathlib.Core.Path.{◌≡◌, refl, sym, ◌∙◌, ap}
use mathlib.Core.Logic.{◌⊎◌, inl, inr}
use Prim.Native.Nat.{ℕ, zero, suc, ◌+◌, ◌-◌, ◌*◌, ◌/◌, ◌%◌, ◌≤◌, ◌<◌, ◌∣◌}
use native.Mathlib.Nat.{div-add-mod', mul-add-mod_self_right, mul-mod_left, mod-eq-zero_of_dvd, dvd-mul_left_of_dvd}
use native.Mathlib.Omega.{arith}
use Rattle.rules.specs.Sampling.{up_to}
use Rattle.rules.proofs.Tests.{lt_or}
use Rattle.rules.proofs.Sampling.{up_to-above, up_to-within, up_to-mono, same_count}

-- how many jobs j have j * P + d at a tick before T
abbrev pub before : ℕ → ℕ → ℕ → ℕ
before P d zero = 0
before P d (suc now) = up_to P d now

-- the latest dispatch at a tick before T
abbrev pub latest : ℕ → ℕ → ℕ
latest P T = before P 0 T * P - P

-- numbers with one remainder, less than the divisor apart, are one
pub same-mod : (M a b : ℕ) → a ≤ b → b < a + M → a % M ≡ b % M → a ≡ b
same-mod M a b l h e =
    let qa : a / M * M + a % M ≡ a = div-add-mod' a M in
    let qb : b / M * M + b % M ≡ b = div-add-mod' b M in
    let q : a / M ≡ b / M = same_count M (a / M) (b / M) (omega arith) (omega arith) in
    let p : a / M * M ≡ b / M * M = ap (λ (x : ℕ). x * M) q in
    omega arith

-- multiples of P, one below the other, are P apart
spaced : (P a b : ℕ) → a % P ≡ 0 → b % P ≡ 0 → a < b → a + P ≤ b
spaced P a b ea eb l =
    elim (lt_or b (a + P)) [ inr h ↦ h | inl h ↦ absurd (omega (arith, same-mod P a b (omega arith) h (ea ∙ sym eb))) ]

-- the bounds of `up_to`, for the ticks before T
pub before_above : (P d T : ℕ) → 0 < P → T ≤ before P d T * P + d
before_above P d zero pos = omega arith
before_above P d (suc now) pos = omega (arith, up_to-above P d now pos)

pub before-within : (P d T : ℕ) → 0 < P → d ≤ P → 0 < T → before P d T * P + d < T + P
before-within P d zero pos dp h = omega arith
before-within P d (suc now) pos dp h = omega (arith, up_to-within P d now pos dp)

pub dispatches_within : (P T : ℕ) → 0 < P → before P 0 T * P + 0 < T + P
dispatches_within P zero pos = omega arith
dispatches_within P (suc now) pos = before-within P 0 (suc now) pos (omega arith) (omega arith)

-- one tick more counts one job more where T and d leave the same remainder, and else none
module _ (P d T : ℕ) (pos : 0 < P) (dp : d ≤ P) (within : before P d T * P + d < T + P) where
  pub hit : T % P ≡ d % P → T ≡ before P d T * P + d
  hit e = same-mod P T (before P d T * P + d) (before_above P d T pos) within (e ∙ sym (mul-add-mod_self_right (before P d T) P d))

  pub hit_more : T % P ≡ d % P → up_to P d T ≡ suc (before P d T)
  hit_more e =
      same_count P (up_to P d T) (suc (before P d T)) (omega (arith, hit e, up_to-within P d T pos dp))
      (omega (arith, hit e, up_to-above P d T pos))

  pub no_hit : (T % P ≡ d % P → ⊥) → up_to P d T ≡ before P d T
  no_hit n = go (lt_or T (before P d T * P + d))
    where
      go : (T < before P d T * P + d) ⊎ (before P d T * P + d ≤ T) → up_to P d T ≡ before P d T
      go (inl l) = same_count P (up_to P d T) (before P d T) (omega (arith, up_to-within P d T pos dp)) (omega (arith, up_to-above P d T pos))
      go (inr l) = absurd (n (ap (λ (x : ℕ). x % P) at ∙ mul-add-mod_self_right (before P d T) P d))
        where
          at : T ≡ before P d T * P + d
          at = omega (arith, before_above P d T pos)

-- "except at the first tick of all"
pub no_deadline : (P D T : ℕ) → 0 < P → 0 < D → D ≤ P → (0 < T → T % P ≡ D % P → ⊥) → up_to P D T ≡ before P D T
no_deadline P D zero pos dpos dp n = same_count P (up_to P D 0) 0 (omega (arith, up_to-within P D 0 pos dp)) (omega arith)
no_deadline P D (suc now) pos dpos dp n =
    no_hit P D (suc now) pos dp (before-within P D (suc now) pos dp (omega arith)) (n (omega arith))

pub latest_lt : (P T : ℕ) → 0 < P → 0 < T → latest P T < T
latest_lt P T pos h = omega (arith, dispatches_within P T pos)

-- what the latest job of a receiver counts of a sender is past
pub latest_counts : (Ps Ds Pr T : ℕ) → 0 < Ps → 0 < Pr → Ds ≤ Ps → 0 < T → up_to Ps Ds (latest Pr T) ≤ before Ps Ds T
latest_counts Ps Ds Pr zero ps pr ds h = absurd (omega arith)
latest_counts Ps Ds Pr (suc now) ps pr ds h =
    up_to-mono Ps Ds (latest Pr (suc now)) now ps ds (omega (arith, latest_lt Pr (suc now) pr h))

-- a dispatch of the faster of two tasks that is none of the slower one's: the slower one's latest job is still that of the dispatch before
pub slower : (Ps Pr T : ℕ) → 0 < Ps → Pr ∣ Ps → T % Pr ≡ 0 → (T % Ps ≡ 0 → ⊥) → up_to Ps 0 (T - Pr) ≡ up_to Ps 0 T
slower Ps Pr T ps e m n = go (up_to Ps 0 T) refl
  where
    go : (u : ℕ) → up_to Ps 0 T ≡ u → up_to Ps 0 (T - Pr) ≡ up_to Ps 0 T
    go zero q = absurd (omega (arith, up_to-above Ps 0 T ps, ap (λ (x : ℕ). x * Ps) q))
    go (suc v) q =
        let above : T < suc v * Ps = omega (arith, up_to-above Ps 0 T ps, ap (λ (x : ℕ). x * Ps) q) in
        let within : suc v * Ps ≤ T + Ps = omega (arith, up_to-within Ps 0 T ps (omega arith), ap (λ (x : ℕ). x * Ps) q) in
        let off : v * Ps ≡ T → ⊥ = λ h. n (ap (λ (x : ℕ). x % Ps) (sym h) ∙ mul-mod_left v Ps) in
        let vm : v * Ps % Pr ≡ 0 = mod-eq-zero_of_dvd Pr (dvd-mul_left_of_dvd Pr e v) in
        let apart : v * Ps + Pr ≤ T = spaced Pr (v * Ps) T vm m (omega arith) in
        same_count Ps (up_to Ps 0 (T - Pr)) (suc v) (omega (arith, up_to-within Ps 0 (T - Pr) ps (omega arith)))
        (omega (arith, up_to-above Ps 0 (T - Pr) ps)) ∙ sym q

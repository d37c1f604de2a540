-- At each moment of a run before a miss: the order is kept, a started job is the one of its task's latest dispatch, whose cycle is the
-- recorded one, and what it has read is what the sampling rule names. First of a state by its own plan, then by the plan of the start.
use mathlib.Core.Path.{◌≡◌, ◌∙◌, ap, subst}
use mathlib.Core.Bool.{true, false}
use mathlib.Core.List.{List}
use Prim.Native.Nat.{ℕ, suc, ◌+◌, ◌*◌, ◌%◌, ◌≤◌, ◌<◌}
use native.Mathlib.Omega.{arith}
use lib.ListN.{length}
use Rattle.rules.specs.declared.Phase.{Phase}
use Rattle.rules.specs.declared.State.{State}
use Rattle.rules.specs.Views.{idle, started, period, sender, receiver, undelayed, phase_of, dispatch, input}
use Rattle.rules.specs.Sampling.{said}
use Rattle.rules.specs.Runs.{Moment, start, after, Runs, counted, JobAt, OrderKept, Numbered, Recorded, Sampled}
use Rattle.rules.proofs.Tests.{by_test}
use Rattle.rules.proofs.Runs.Jobs.{before, latest, before_above, dispatches_within}
use Rattle.rules.proofs.Runs.OneTask.{working}
use Rattle.rules.proofs.Runs.OneRow.{delayed_delivered}
use Rattle.rules.proofs.Runs.Parts.{Laid, Parts, ends}
use Rattle.rules.proofs.Runs.Choice.{sender-idle}
use Rattle.rules.proofs.Runs.Invariant.{Planned, Invariant, apart, run_invariant}

-- a started task is at work
at-work : (x : Phase) → started x ≡ true → idle x ≡ false
at-work x b = by_test (idle x) (λ q. absurd (apart x q b)) (λ q. q)

-- the job of number k was dispatched at tick k periods, and no later one before T
abbrev Latest : ℕ → ℕ → ℕ → Type 0
Latest P k T = (k * P < T) × (T ≤ k * P + P)

-- a row reads v for a job dispatched at tick r, where ws are its sender's words: the job that is counted last has delivered v
abbrev Says : State → ℕ → ℕ → List ℕ → ℕ → Type 0
Says s c r ws v = (counted s c r ≤ length ws) × (v ≡ said ws (counted s c r))

-- ---------------------------------------------------------------------------------------------------------------------------
-- By the state's own plan

module _ (T : ℕ) (W : ℕ → List ℕ) (s : State) (p : Parts T W s) where
  module _ (i : ℕ) (h : i < s.count) (b : started (phase_of s i) ≡ true) where
    last-job : suc (length (W i)) ≡ before (period s i) 0 T
    last-job = (p.task_kept i h).works (at-work (phase_of s i) b)

    numbered_here : Latest (period s i) (length (W i)) T
    numbered_here =
        let P : ℕ = period s i in
        let pos : 0 < P = (p.laid.paced i h).period_pos in
        let e : suc (length (W i)) * P ≡ before P 0 T * P = ap (λ (y : ℕ). y * P) last-job in
        (omega (arith, dispatches_within P T pos), omega (arith, before_above P 0 T pos))

    latest_here : latest (period s i) T ≡ length (W i) * period s i
    latest_here = omega (arith, ap (λ (y : ℕ). y * period s i) last-job)

    recorded_here : dispatch s i ≡ (length (W i) * period s i) % s.multiple
    recorded_here =
        let f = p.task_kept i h in
        f.at_dispatch (working f (at-work (phase_of s i) b)) ∙ ap (λ (y : ℕ). y % s.multiple) latest_here

  module _ (c : ℕ) (h : c < s.rows) (b : started (phase_of s (receiver s c)) ≡ true) where
    ri : receiver s c < s.count
    ri = p.laid.receiver_in c h

    busy : idle (phase_of s (receiver s c)) ≡ false
    busy = at-work (phase_of s (receiver s c)) b

    latest_reads : Says s c (latest (period s (receiver s c)) T) (W (sender s c)) (input s c)
    latest_reads =
        by_test (undelayed s c)
        (λ e. rw e ((p.undelayed_kept c h e).u_input b))
        (λ e. rw e (
          delayed_delivered (ends p c h) busy,
          (p.delayed_kept c h e).d_input busy,
        ))

    reads_here : Says s c (length (W (receiver s c)) * period s (receiver s c)) (W (sender s c)) (input s c)
    reads_here = rw (latest_here (receiver s c) ri b) at latest_reads

-- ---------------------------------------------------------------------------------------------------------------------------
-- By the plan of the start

module _ (s : State) (m : Moment) (d : Invariant s m) where
  idle-at : (c : ℕ) → c < s.rows → undelayed s c ≡ true → Runs m.state (receiver s c) → idle (phase_of m.state (sender s c)) ≡ true
  idle-at c h e =
      subst (λ (z : State). Laid z → Runs z (receiver s c) → idle (phase_of z (sender s c)) ≡ true) d.plan
      (λ l. sender-idle _ l c h e) d.parts.laid

  module _ (i k : ℕ) (x : ℕ → ℕ) (j : JobAt s m i k x) where
    numbered_at : Latest (period s i) k m.ticks
    numbered_at =
        rw j.number at
        (subst (λ (z : State). Parts m.ticks m.words z → started (phase_of z i) ≡ true → Latest (period s i) (length (m.words i)) m.ticks) d.plan
        (λ p. numbered_here m.ticks m.words _ p i j.in_table) d.parts j.begun)

    recorded_at : dispatch m.state i ≡ (k * period s i) % s.multiple
    recorded_at =
        rw j.number at
        (subst (λ (z : State). Parts m.ticks m.words z → started (phase_of z i) ≡ true →
        dispatch z i ≡ (length (m.words i) * period s i) % s.multiple) d.plan
        (λ p. recorded_here m.ticks m.words _ p i j.in_table) d.parts j.begun)

    reads_at : (c : ℕ) → c < s.rows → receiver s c ≡ i → Says s c (k * period s i) (m.words (sender s c)) (x c)
    reads_at c h e =
        rw (e, j.number, j.has_read c h e) at
        (subst (λ (z : State). Parts m.ticks m.words z → started (phase_of z (receiver s c)) ≡ true →
        Says s c (length (m.words (receiver s c)) * period s (receiver s c)) (m.words (sender s c)) (input z c)) d.plan
        (λ p. reads_here m.ticks m.words _ p c h) d.parts (rw e j.begun))

module _ (s : State) (pl : Planned s) where
  pub order_kept : OrderKept s (after (start s))
  order_kept cs _ h = idle-at s (after (start s) cs) (run_invariant s pl cs h)

  pub numbered : Numbered s (after (start s))
  numbered cs _ i k x j = numbered_at s (after (start s) cs) (run_invariant s pl cs j.live) i k x j

  pub recorded : Recorded s (after (start s))
  recorded cs _ i k x j = recorded_at s (after (start s) cs) (run_invariant s pl cs j.live) i k x j

  pub sampled : Sampled s (after (start s))
  sampled cs _ i k x j = reads_at s (after (start s) cs) (run_invariant s pl cs j.live) i k x j

-- Every moment of a run before a miss is sound: its plan is the one of the start, what a run keeps of tasks and rows holds there, the
-- clock tells the ticks, and whoever runs is started.
use mathlib.Core.Path.{◌≡◌, refl, sym, ◌∙◌, ap}
use mathlib.Core.Bool.{true, false}
use mathlib.Core.List.{List, []}
use mathlib.Core.Logic.{◌⊎◌}
use Prim.Native.Nat.{ℕ, suc, ◌*◌, ◌≤◌, ◌<◌, ◌∣◌}
use native.Mathlib.Nat.{zero-mod}
use native.Mathlib.Omega.{arith}
use lib.Dec.{ltb}
use Rattle.rules.specs.declared.Phase.{Phase}
use Rattle.rules.specs.declared.Phase.TheVariants as phase
use Rattle.rules.specs.declared.State.{State}
use Rattle.rules.specs.Views.{idle, started, period, deadline, sender, receiver, undelayed, phase_of, output, dispatch, buffer, input}
use Rattle.rules.specs.Range.{in_range, place_of}
use Rattle.rules.specs.Sampling.{up_to}
use Rattle.rules.specs.Steps.{missing, delivered, dispatched, some_runs, running, ended_at, chosen, advanced}
use Rattle.rules.specs.Runs.{Call, tick, complete, Moment, start, spoken, next, after}
use Rattle.rules.proofs.Tests.{true_false, false_true}
use Rattle.rules.proofs.Range.{Ranged, in_range-ranged}
use Rattle.rules.proofs.Steps.{SamePlan, chosen-plan, advanced-plan, ended_at-plan}
use Rattle.rules.proofs.Kept.{plan_trans, moved-on_kept}
use Rattle.rules.proofs.Sampling.{up_to-above}
use Rattle.rules.proofs.Runs.Jobs.{latest}
use Rattle.rules.proofs.Runs.OneTask.{TaskFact}
use Rattle.rules.proofs.Runs.Parts.{Laid, Fits, Parts, ClockOf, DelayedRow, UndelayedRow}
use Rattle.rules.proofs.Runs.Tick.{exchanged_parts, exchanged_clock, advanced-parts, advanced-clock}
use Rattle.rules.proofs.Runs.Choice.{Settled, runner_in, runner_busy, chosen-parts, chosen-settled, chosen-clock}
use Rattle.rules.proofs.Runs.Completion.{ended_parts, ended_clock}
use Rattle.rules.proofs.Runs.Moments.{ticked, spoke, tick_by, word-by, after-keeps}

-- what an accepted fresh start gives: in range, what the planner adds to that, and all at rest
pub record Planned (s : State) : Type 0 where
  pub in_range : in_range s ≡ true
  pub divides : (i : ℕ) → i < s.count → period s i ∣ s.multiple
  pub sender_first : (c : ℕ) → c < s.rows → undelayed s c ≡ true → place_of s (sender s c) < place_of s (receiver s c)
  pub harmonic : (c : ℕ) → c < s.rows → undelayed s c ≡ true →
      (period s (sender s c) ∣ period s (receiver s c)) ⊎ (period s (receiver s c) ∣ period s (sender s c))
  pub fits : Fits s
  pub all_idle : (i : ℕ) → i < s.count → idle (phase_of s i) ≡ true
  pub no_output : (i : ℕ) → i < s.count → output s i ≡ 0
  pub no_buffer : (c : ℕ) → c < s.rows → buffer s c ≡ 0
  pub first_cycle : s.cycle ≡ 0
  pub no_tick : s.ticked ≡ false
  pub no_halt : s.halted ≡ false

-- a task at rest is not started
pub apart : (x : Phase) → idle x ≡ true → started x ≡ true → ⊥
apart phase.Idle a b = false_true b
apart phase.Waiting a b = false_true b
apart phase.Started a b = false_true a

pub record Invariant (s0 : State) (m : Moment) : Type 0 where
  pub plan : SamePlan s0 m.state
  pub parts : Parts m.ticks m.words m.state
  pub clock : ClockOf m.ticks m.state
  pub settled : Settled m.state

-- ---------------------------------------------------------------------------------------------------------------------------
-- The calls

ticked_plan : (s : State) → Laid s → SamePlan s (advanced (chosen (dispatched (delivered s))).state)
ticked_plan s l =
    let y : State = (chosen (dispatched (delivered s))).state in
    plan_trans s y (advanced y) (moved-on_kept s l.names_task).plan (advanced-plan y)

spoke_plan : (s : State) (i w : ℕ) → SamePlan s (chosen (ended_at s i w)).state
spoke_plan s i w = plan_trans s (ended_at s i w) _ (ended_at-plan s i w) (chosen-plan (ended_at s i w))

advanced-settled : (s : State) → Settled s → Settled (advanced s)
unfolding advanced
advanced-settled s h = h

module _ (s0 : State) where
  ticked_invariant : (m : Moment) → Invariant s0 m → ltb (missing m.state) m.state.count ≡ false → Invariant s0 (ticked m)
  ticked_invariant m d e =
      let T : ℕ = suc m.ticks in
      let x : State = dispatched (delivered m.state) in
      let p : Parts T m.words x = exchanged_parts m.ticks m.words m.state d.parts d.clock e in
      let q : Parts T m.words (chosen x).state = chosen-parts T m.words x p in
      let k : ClockOf m.ticks x = exchanged_clock m.ticks m.words m.state d.parts d.clock e in
      record {
        plan = plan_trans s0 m.state _ d.plan (ticked_plan m.state d.parts.laid);
        parts = advanced-parts T m.words (chosen x).state q;
        clock = advanced-clock m.ticks (chosen x).state q.laid.multiple_pos (chosen-clock m.ticks x k);
        settled = advanced-settled (chosen x).state (chosen-settled T m.words x p);
      }

  spoke_invariant : (m : Moment) (w : ℕ) → Invariant s0 m → some_runs m.state ≡ true → Invariant s0 (spoke m w)
  spoke_invariant m w d e =
      let i : ℕ = running m.state in
      let x : State = ended_at m.state i w in
      let p : Parts m.ticks (spoken m.words i w) x = ended_parts m.ticks m.words m.state d.parts i (e, refl) w in
      record {
        plan = plan_trans s0 m.state _ d.plan (spoke_plan m.state i w);
        parts = chosen-parts m.ticks (spoken m.words i w) x p;
        clock = chosen-clock m.ticks x (ended_clock m.ticks m.words m.state d.parts i (e, refl) w d.clock);
        settled = chosen-settled m.ticks (spoken m.words i w) x p;
      }

  pub next-invariant : (m : Moment) (c : Call) → Invariant s0 m → (next m c).state.halted ≡ false → Invariant s0 (next m c)
  next-invariant m tick d =
      tick_by (λ k. k.state.halted ≡ false → Invariant s0 k) m (λ _. d) (λ _ h. absurd (true_false h)) (λ _ e _. ticked_invariant m d e)
  next-invariant m (complete w) d =
      word-by (λ k. k.state.halted ≡ false → Invariant s0 k) m w (λ _. d) (λ _ e _. spoke_invariant m w d e)

-- ---------------------------------------------------------------------------------------------------------------------------
-- The start, and so every moment before a miss

module _ (s : State) (pl : Planned s) where
  ranged : Ranged s
  ranged = in_range-ranged s pl.in_range

  pub start-laid : Laid s
  start-laid = record {
    paced = λ i h. let t = ranged.times i h in record {
      period_pos = omega arith;
      deadline_pos = omega arith;
      deadline_le = omega arith;
      divides = pl.divides i h;
      multiple_pos = ranged.sizes.multiple_low;
    };
    multiple_pos = ranged.sizes.multiple_low;
    names_task = ranged.names_task;
    has_place = ranged.has_place;
    sender_in = λ c h. (ranged.joins c h).sender_task;
    receiver_in = λ c h. (ranged.joins c h).receiver_task;
    sender_first = pl.sender_first;
    harmonic = pl.harmonic;
  }

  start-task : (i : ℕ) → i < s.count →
      TaskFact (period s i) (deadline s i) s.multiple 0 [] (phase_of s i) (output s i) (dispatch s i)
  start-task i h = record {
    rests = λ _. refl;
    works = λ b. absurd (true_false (sym (pl.all_idle i h) ∙ b));
    in_time = omega arith;
    at_output = pl.no_output i h;
    at_dispatch = λ l. absurd (omega arith);
  }

  module _ (c : ℕ) (h : c < s.rows) where
    rests : idle (phase_of s (receiver s c)) ≡ true
    rests = pl.all_idle (receiver s c) (start-laid.receiver_in c h)

    start-delayed : DelayedRow 0 (λ _. []) s c (phase_of s (receiver s c)) (buffer s c) (input s c)
    start-delayed = record { d_buffer = pl.no_buffer c h; d_input = λ b. absurd (true_false (sym rests ∙ b)) }

    -- a receiver counts a sender's first job at once
    counts : up_to (period s (sender s c)) 0 (latest (period s (receiver s c)) 0) ≤ 0 → ⊥
    counts l =
        let P : ℕ = period s (sender s c) in
        let u : ℕ = latest (period s (receiver s c)) 0 in
        let e : up_to P 0 u ≡ 0 = omega arith in
        omega (arith, up_to-above P 0 u (start-laid.paced (sender s c) (start-laid.sender_in c h)).period_pos, ap (λ (x : ℕ). x * P) e)

    start-undelayed : UndelayedRow 0 (λ _. []) s c (phase_of s (receiver s c)) (buffer s c) (input s c)
    start-undelayed = record {
      u_buffer = λ l. absurd (counts l);
      u_wait = λ l _. absurd (omega arith);
      u_input = λ b. absurd (apart (phase_of s (receiver s c)) rests b);
    }

  pub start-invariant : Invariant s (start s)
  start-invariant = record {
    plan = refl;
    parts = record {
      laid = start-laid;
      fits = pl.fits;
      task_kept = start-task;
      delayed_kept = λ c h _. start-delayed c h;
      undelayed_kept = λ c h _. start-undelayed c h;
    };
    clock = record { at_cycle = pl.first_cycle ∙ sym (zero-mod s.multiple); began = pl.no_tick };
    settled = λ i h. absurd (true_false (sym (pl.all_idle i (runner_in s start-laid i h)) ∙ runner_busy s start-laid i h));
  }

  pub run_invariant : (cs : List Call) → (after (start s) cs).state.halted ≡ false → Invariant s (after (start s) cs)
  run_invariant cs = after-keeps (Invariant s) (next-invariant s) cs (start s) start-invariant

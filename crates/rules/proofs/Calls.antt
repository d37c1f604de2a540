-- Laws of tick and completion on any state: the three ways of a judged call, that both statements admit one answer only, that a
-- refused call returns the state it was given, that what stands past the counts never changes, and that a state in range stays one: the
-- plan stays, and what is recorded anew is the cycle of a state in range or the next one.
use mathlib.Core.Path.{◌≡◌, refl, ap, sym, ◌∙◌}
use mathlib.Core.Bool.{Bool, true, false}
use mathlib.Core.Logic.{⊎_elim}
use Prim.Native.Nat.{ℕ, ◌+◌, ◌<◌}
use native.Mathlib.Omega.{arith}
use lib.Dec.{eqb, ltb}
use borrow.Author.Tests.{eqb-false}
use Rattle.rules.specs.Views.{dispatch, set_halted}
use Rattle.rules.specs.Steps.{step, released, records, delivered, dispatched, missing, some_runs, running, chosen, advanced, ticking, ended_at, completing}
use Rattle.rules.specs.Range.{in_range}
use Rattle.rules.specs.Calls.{judged, tick_of, complete_of}
use Rattle.rules.specs.Answers.{StepIs}
use Rattle.rules.specs.Runs.{refused}
use Rattle.rules.specs.declared.State.{State}
use Rattle.rules.specs.declared.Step.{Step}
use Rattle.rules.specs.declared.Answer.{Answer}
use Rattle.rules.specs.declared.Answer.TheVariants as answer
use Rattle.rules.specs.declared.Refusal.{Refusal}
use Rattle.rules.specs.declared.Refusal.TheVariants.{NothingRuns, Halted, OutOfRange}
use Rattle.rules.proofs.Tests.{cond_by, false_true, eq_or}
use Rattle.rules.proofs.Counting.{map_below-keeps}
use Rattle.rules.proofs.Answers.{step-one}
use Rattle.rules.proofs.Steps.{SamePlan, chosen-answer, chosen-dispatch, chosen-cycle}
use Rattle.rules.proofs.Range.{Ranged, in_range-ranged, ranged_in_range}
use Rattle.rules.proofs.Kept.{Kept, kept_refl, moved-on_kept, ticking-kept, completing-kept}

-- ---------------------------------------------------------------------------------------------------------------------------
-- The three ways of a judged call.

pub judged-out : (ranged halted : Bool) (s : State) (r : Step) → ranged ≡ false → judged ranged halted s r ≡ step (answer.Refused OutOfRange) s
unfolding judged
judged-out ranged halted s r e = rw e

pub judged-halted : (ranged halted : Bool) (s : State) (r : Step) → ranged ≡ true → halted ≡ true → judged ranged halted s r ≡ step (answer.Refused Halted) s
unfolding judged
judged-halted ranged halted s r e q = rw (e, q)

pub judged-on : (ranged halted : Bool) (s : State) (r : Step) → ranged ≡ true → halted ≡ false → judged ranged halted s r ≡ r
unfolding judged
judged-on ranged halted s r e q = rw (e, q)

-- what holds of a call that is carried out, and of a refusal of the state given, holds of the judged call
pub judged-by : (P : Step → Type 0) (ranged halted : Bool) (s : State) (r : Step) →
    ((f : Refusal) → P (step (answer.Refused f) s)) → (ranged ≡ true → halted ≡ false → P r) → P (judged ranged halted s r)
unfolding judged
judged-by P true true s r stop go = stop Halted
judged-by P true false s r stop go = go refl refl
judged-by P false halted s r stop go = stop OutOfRange

-- ---------------------------------------------------------------------------------------------------------------------------
-- The statements of tick and completion admit one answer each.

pub tick_one : (s : State) (r q : Step) → StepIs (tick_of s) r → StepIs (tick_of s) q → r ≡ q
tick_one s = step-one (tick_of s)

pub complete_one : (s : State) (w : ℕ) (r q : Step) → StepIs (complete_of s w) r → StepIs (complete_of s w) q → r ≡ q
complete_one s w = step-one (complete_of s w)

-- ---------------------------------------------------------------------------------------------------------------------------
-- "a refused tick or completion returns the state it was given"

abbrev ReturnsIfRefused : State → Step → Type 0
ReturnsIfRefused s r = refused r.answer ≡ true → r.state ≡ s

pub chosen-accepts : (s : State) → refused (chosen s).answer ≡ false
chosen-accepts s =
    rw (chosen-answer s)
    (cond_by (λ (a : Answer). refused a ≡ false) (some_runs s) (answer.Running (running s)) answer.Idle (λ _. refl) (λ _. refl))

ticking-accepts : (s : State) → refused (ticking s).answer ≡ false
unfolding ticking
ticking-accepts s =
    cond_by (λ (r : Step). refused r.answer ≡ false) (ltb (missing s) s.count) _ _ (λ _. refl) (λ _. chosen-accepts _)

completing-refused : (s : State) (w : ℕ) → ReturnsIfRefused s (completing s w)
unfolding completing
completing-refused s w =
    cond_by (ReturnsIfRefused s) (some_runs s) (chosen (ended_at s (running s) w)) (step (answer.Refused NothingRuns) s)
    (λ _ e. absurd (false_true (sym (chosen-accepts (ended_at s (running s) w)) ∙ e)))
    (λ _ _. refl)

pub tick_refused : (s : State) → refused (tick_of s).answer ≡ true → (tick_of s).state ≡ s
tick_refused s =
    judged-by (ReturnsIfRefused s) (in_range s) s.halted s (ticking s) (λ n _. refl)
    (λ _ _ e. absurd (false_true (sym (ticking-accepts s) ∙ e)))

pub complete_refused : (s : State) (w : ℕ) → refused (complete_of s w).answer ≡ true → (complete_of s w).state ≡ s
complete_refused s w =
    judged-by (ReturnsIfRefused s) (in_range s) s.halted s (completing s w) (λ n _. refl) (λ _ _. completing-refused s w)

-- ---------------------------------------------------------------------------------------------------------------------------
-- "What a state holds past its counts is not judged and never changes"; nor do the plan and the lengths.

pub tick_kept : (s : State) → Kept s (tick_of s).state
tick_kept s =
    judged-by (λ (r : Step). Kept s r.state) (in_range s) s.halted s (ticking s) (λ _. kept_refl s)
    (λ e _. ticking-kept s (in_range-ranged s e).names_task)

pub complete_kept : (s : State) (w : ℕ) → Kept s (complete_of s w).state
complete_kept s w =
    judged-by (λ (r : Step). Kept s r.state) (in_range s) s.halted s (completing s w) (λ _. kept_refl s)
    (λ e _. completing-kept s w (in_range-ranged s e).names_task)

-- ---------------------------------------------------------------------------------------------------------------------------
-- A state in range stays one.

-- the cycle of z and those recorded for its first n tasks are below u
record Below (n u : ℕ) (z : State) : Type 0 where
  cycle : z.cycle < u
  dispatches : (i : ℕ) → i < n → dispatch z i < u

abbrev OwnBelow : State → State → Type 0
OwnBelow s z = Below s.count s.multiple z

ranged_plan : (s z : State) → SamePlan s z → Ranged s → OwnBelow s z → Ranged z
ranged_plan s z p r b =
    let w = r.sizes in
    rw (← p)
    (record {
      sizes = record {
        some = w.some;
        few = w.few;
        few_rows = w.few_rows;
        multiple_low = w.multiple_low;
        multiple_high = w.multiple_high;
        cycle_below = b.cycle;
      };
      times = λ i h.
          let t = r.times i h in
          record {
            compute_low = t.compute_low;
            compute_high = t.compute_high;
            deadline_high = t.deadline_high;
            period_high = t.period_high;
          };
      dispatches = b.dispatches;
      joins = λ c h.
          let j = r.joins c h in
          record { sender_task = j.sender_task; receiver_task = j.receiver_task };
      names_task = r.names_task;
      has_place = r.has_place;
    })

ranged_below : (s : State) → Ranged s → OwnBelow s s
ranged_below s r = record { cycle = r.sizes.cycle_below; dispatches = r.dispatches }

module _ (n u : ℕ) where
  -- step 3 records the cycle
  exchanged_below : (s : State) → Below n u s → Below n u (dispatched (delivered s))
  unfolding delivered dispatched
  exchanged_below s b = record {
    cycle = b.cycle;
    dispatches = λ i h.
        map_below-keeps (λ (x : ℕ). x < u) (records s)
        (λ k x l. cond_by (λ (y : ℕ). y < u) (released s k) s.cycle x (λ _. b.cycle) (λ _. l))
        s.count s.dispatches i 0 (b.dispatches i h);
  }

  chosen-below : (s : State) → Below n u s → Below n u (chosen s).state
  chosen-below s b = record {
    cycle = rw (chosen-cycle s) b.cycle;
    dispatches = λ i h. rw (chosen-dispatch s i) (b.dispatches i h);
  }

  -- step 5 goes to the next cycle, or to 0
  advanced-below : (s : State) → s.multiple ≡ u → Below n u s → Below n u (advanced s)
  unfolding advanced
  advanced-below s e b = record {
    cycle =
        cond_by (λ (x : ℕ). x < u) (eqb (s.cycle + 1) s.multiple) 0 (s.cycle + 1) (λ _. omega (arith, b.cycle))
        (λ q. let ne = eqb-false (s.cycle + 1) s.multiple q in ⊎_elim (λ z. absurd (ne z)) (λ z. omega (arith, b.cycle)) (eq_or (s.cycle + 1) s.multiple));
    dispatches = b.dispatches;
  }

  ended_at-below : (s : State) (i w : ℕ) → Below n u s → Below n u (ended_at s i w)
  unfolding ended_at
  ended_at-below s i w b = record { cycle = b.cycle; dispatches = b.dispatches }

ticking-below : (s : State) → Ranged s → OwnBelow s (ticking s).state
unfolding ticking
ticking-below s r =
    let n = s.count in
    let u = s.multiple in
    let z = dispatched (delivered s) in
    let y = (chosen z).state in
    let b : Below n u s = ranged_below s r in
    let k : SamePlan s y = (moved-on_kept s r.names_task).plan in
    cond_by (λ (x : Step). OwnBelow s x.state) (ltb (missing s) s.count)
    (step (answer.Missed (missing s)) (set_halted s true)) (step (chosen z).answer (advanced y))
    (λ _. record { cycle = b.cycle; dispatches = b.dispatches })
    (λ _. advanced-below n u y (sym (ap (λ (x : State). x.multiple) k)) (chosen-below n u z (exchanged_below n u s b)))

completing-below : (s : State) (w : ℕ) → Ranged s → OwnBelow s (completing s w).state
unfolding completing
completing-below s w r =
    let b = ranged_below s r in
    cond_by (λ (x : Step). OwnBelow s x.state) (some_runs s) (chosen (ended_at s (running s) w)) (step (answer.Refused NothingRuns) s)
    (λ _. chosen-below s.count s.multiple (ended_at s (running s) w) (ended_at-below s.count s.multiple s (running s) w b))
    (λ _. b)

-- a carried out call keeps the range, so a judged one does
kept_range : (s : State) (r : Step) → Kept s r.state → OwnBelow s r.state → in_range s ≡ true → in_range r.state ≡ true
kept_range s r k b e = ranged_in_range r.state (ranged_plan s r.state k.plan (in_range-ranged s e) b)

pub tick_keeps_range : (s : State) → in_range s ≡ true → in_range (tick_of s).state ≡ true
tick_keeps_range s e =
    let r = in_range-ranged s e in
    judged-by (λ (x : Step). in_range x.state ≡ true) (in_range s) s.halted s (ticking s) (λ _. e)
    (λ _ _. kept_range s (ticking s) (ticking-kept s r.names_task) (ticking-below s r) e)

pub complete_keeps_range : (s : State) (w : ℕ) → in_range s ≡ true → in_range (complete_of s w).state ≡ true
complete_keeps_range s w e =
    let r = in_range-ranged s e in
    judged-by (λ (x : Step). in_range x.state ≡ true) (in_range s) s.halted s (completing s w) (λ _. e)
    (λ _ _. kept_range s (completing s w) (completing-kept s w r.names_task) (completing-below s w r) e)

-- What a run keeps of a whole state, T ticks in, where W are the words that each task delivered: what its plan gives, and the facts of each
-- task and of each row. It speaks of the state's own views; that the plan stays the one of the start is `SamePlan` of Steps.
use mathlib.Core.Path.{◌≡◌, subst}
use mathlib.Core.Bool.{Bool, true, false}
use mathlib.Core.List.{List}
use mathlib.Core.Logic.{◌⊎◌}
use Prim.Native.Nat.{ℕ, ◌≤◌, ◌<◌, ◌∣◌}
use native.Mathlib.Omega.{arith}
use lib.ListN.{length}
use Rattle.rules.specs.declared.Phase.{Phase}
use Rattle.rules.specs.declared.Task.{Task}
use Rattle.rules.specs.declared.State.{State}
use Rattle.rules.specs.Views.{period, deadline, sender, receiver, undelayed, ordered, phase_of, output, dispatch, buffer, input, moved}
use Rattle.rules.specs.Range.{place_of}
use Rattle.rules.proofs.Steps.{SamePlan}
use Rattle.rules.proofs.Kept.{Kept, plan_count, plan_rows}
use Rattle.rules.proofs.Runs.OneTask.{Paced, TaskFact, Clock}
use Rattle.rules.proofs.Runs.OneRow.{DelayedFact, UndelayedFact, Ends}

-- the plan: the values of its tasks, its rows and its order
pub record Laid (s : State) : Type 0 where
  pub paced : (i : ℕ) → i < s.count → Paced (period s i) (deadline s i) s.multiple
  pub multiple_pos : 0 < s.multiple
  pub names_task : (k : ℕ) → k < s.count → ordered s k < s.count
  pub has_place : (i : ℕ) → i < s.count → place_of s i < s.count
  pub sender_in : (c : ℕ) → c < s.rows → sender s c < s.count
  pub receiver_in : (c : ℕ) → c < s.rows → receiver s c < s.count
  pub sender_first : (c : ℕ) → c < s.rows → undelayed s c ≡ true → place_of s (sender s c) < place_of s (receiver s c)
  pub harmonic : (c : ℕ) → c < s.rows → undelayed s c ≡ true →
      (period s (sender s c) ∣ period s (receiver s c)) ⊎ (period s (receiver s c) ∣ period s (sender s c))

laid_moved : (s : State) (ts : List Task) (os ds bs is : List ℕ) (t : ℕ) (k h : Bool) → Laid s → Laid (moved s ts os ds bs is t k h)
laid_moved s ts os ds bs is t k h l = record {
  paced = l.paced;
  multiple_pos = l.multiple_pos;
  names_task = l.names_task;
  has_place = l.has_place;
  sender_in = l.sender_in;
  receiver_in = l.receiver_in;
  sender_first = l.sender_first;
  harmonic = l.harmonic;
}

pub laid_same : (s z : State) → SamePlan s z → Laid s → Laid z
laid_same s z e l =
    subst Laid e (laid_moved s z.tasks z.outputs z.dispatches z.buffers z.inputs z.cycle z.ticked z.halted l)

-- the columns that calls change are long enough
pub record Fits (s : State) : Type 0 where
  pub tasks_fit : s.count ≤ length s.tasks
  pub outputs_fit : s.count ≤ length s.outputs
  pub dispatches_fit : s.count ≤ length s.dispatches
  pub buffers_fit : s.rows ≤ length s.buffers
  pub inputs_fit : s.rows ≤ length s.inputs

pub fits_kept : (s z : State) → Kept s z → Fits s → Fits z
fits_kept s z k f =
    let n : z.count ≡ s.count = plan_count s z k.plan in
    let m : z.rows ≡ s.rows = plan_rows s z k.plan in
    record {
      tasks_fit = omega (arith, k.tasks.size, f.tasks_fit);
      outputs_fit = omega (arith, k.outputs.size, f.outputs_fit);
      dispatches_fit = omega (arith, k.dispatches.size, f.dispatches_fit);
      buffers_fit = omega (arith, k.buffers.size, f.buffers_fit);
      inputs_fit = omega (arith, k.inputs.size, f.inputs_fit);
    }

-- what a run keeps of row c of the plan of s, with its receiver in phase x, b in its buffer and v in its input
abbrev pub DelayedRow : ℕ → (ℕ → List ℕ) → State → ℕ → Phase → ℕ → ℕ → Type 0
DelayedRow T W s c x b v =
    DelayedFact (period s (sender s c)) (deadline s (sender s c)) (period s (receiver s c)) T (W (sender s c)) x b v

abbrev pub UndelayedRow : ℕ → (ℕ → List ℕ) → State → ℕ → Phase → ℕ → ℕ → Type 0
UndelayedRow T W s c x b v = UndelayedFact (period s (sender s c)) (period s (receiver s c)) T (W (sender s c)) x b v

pub record Parts (T : ℕ) (W : ℕ → List ℕ) (s : State) : Type 0 where
  pub laid : Laid s
  pub fits : Fits s
  pub task_kept : (i : ℕ) → i < s.count →
      TaskFact (period s i) (deadline s i) s.multiple T (W i) (phase_of s i) (output s i) (dispatch s i)
  pub delayed_kept : (c : ℕ) → c < s.rows → undelayed s c ≡ false →
      DelayedRow T W s c (phase_of s (receiver s c)) (buffer s c) (input s c)
  pub undelayed_kept : (c : ℕ) → c < s.rows → undelayed s c ≡ true →
      UndelayedRow T W s c (phase_of s (receiver s c)) (buffer s c) (input s c)

-- the two tasks of row c
module _ {T : ℕ} {W : ℕ → List ℕ} {s : State} (p : Parts T W s) (c : ℕ) (h : c < s.rows) where
  abbrev S : ℕ
  S = sender s c

  abbrev R : ℕ
  R = receiver s c

  pub ends : Ends (period s S) (deadline s S) (period s R) (deadline s R) s.multiple T (W S) (W R) (phase_of s S) (phase_of s R)
      (output s S) (output s R) (dispatch s S) (dispatch s R)
  ends = record {
    sender_paced = p.laid.paced S (p.laid.sender_in c h);
    receiver_paced = p.laid.paced R (p.laid.receiver_in c h);
    sender_fact = p.task_kept S (p.laid.sender_in c h);
    receiver_fact = p.task_kept R (p.laid.receiver_in c h);
  }

-- the clock of a state
abbrev pub ClockOf : ℕ → State → Type 0
ClockOf T s = Clock s.multiple T s.cycle s.ticked

-- facts of equal values
pub task_moved : {P D M T o o' d d' : ℕ} {ws ws' : List ℕ} {x x' : Phase} → ws' ≡ ws → x' ≡ x → o' ≡ o → d' ≡ d →
    TaskFact P D M T ws x o d → TaskFact P D M T ws' x' o' d'
task_moved a p q r f = rw (a, p, q, r) f

pub delayed_moved : {Ps Ds Pr T b b' i i' : ℕ} {ws ws' : List ℕ} {x x' : Phase} → ws' ≡ ws → x' ≡ x → b' ≡ b → i' ≡ i →
    DelayedFact Ps Ds Pr T ws x b i → DelayedFact Ps Ds Pr T ws' x' b' i'
delayed_moved a p q r f = rw (a, p, q, r) f

pub undelayed-moved : {Ps Pr T b b' i i' : ℕ} {ws ws' : List ℕ} {x x' : Phase} → ws' ≡ ws → x' ≡ x → b' ≡ b → i' ≡ i →
    UndelayedFact Ps Pr T ws x b i → UndelayedFact Ps Pr T ws' x' b' i'
undelayed-moved a p q r f = rw (a, p, q, r) f

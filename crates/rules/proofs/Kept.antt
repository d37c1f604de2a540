-- What the steps keep: the plan, the length of each column, and all that stands past the counts. "What a state holds past its counts
-- is not judged and never changes." A column is kept past n by a change below n and by a store below n.
use mathlib.Core.Path.{◌≡◌, refl, ap, sym, ◌∙◌}
use mathlib.Core.Bool.{Bool, true}
use mathlib.Core.List.{List}
use Prim.Native.Nat.{ℕ, ◌≤◌, ◌<◌}
use native.Mathlib.Omega.{arith}
use lib.ListN.{get_or, set, length, length-set}
use lib.Seq.{get_or-set_other}
use lib.Dec.{ltb}
use borrow.Author.Tests.{ltb-true}
use Rattle.rules.specs.Counting.{map_below}
use Rattle.rules.specs.Views.{task_in, ordered, moved, set_halted}
use Rattle.rules.specs.Steps.{step, delivers, delivered, samples, wakes, records, dispatched, missing, running_place, some_runs, running, takes, started_at, chosen, advanced, ticking, posts, ended_at, completing}
use Rattle.rules.specs.declared.Phase.TheVariants as phase
use Rattle.rules.specs.declared.State.{State}
use Rattle.rules.specs.declared.Step.{Step}
use Rattle.rules.specs.declared.Answer.TheVariants as answer
use Rattle.rules.specs.declared.Refusal.TheVariants.{NothingRuns}
use Rattle.rules.proofs.Tests.{cond_by, and_left}
use Rattle.rules.proofs.Counting.{map_below-length, map_below-past}
use Rattle.rules.proofs.Steps.{SamePlan, starts, chosen-state}

-- ys is as long as xs and has the same from place n on
pub record KeptPast {A : Type 0} (d : A) (n : ℕ) (xs ys : List A) : Type 0 where
  pub size : length ys ≡ length xs
  pub past : (k : ℕ) → n ≤ k → get_or ys k d ≡ get_or xs k d

module _ {A : Type 0} (d : A) (n : ℕ) where
  past_refl : (xs : List A) → KeptPast d n xs xs
  past_refl xs = record { size = refl; past = λ k h. refl }

  past_trans : {xs ys zs : List A} → KeptPast d n xs ys → KeptPast d n ys zs → KeptPast d n xs zs
  past_trans p q = record { size = q.size ∙ p.size; past = λ k h. q.past k h ∙ p.past k h }

  past_map : (f : ℕ → A → A) (xs : List A) → KeptPast d n xs (map_below f n xs)
  past_map f xs = record { size = map_below-length f n xs; past = λ k h. map_below-past f n xs k d h }

  past_set : (xs : List A) (i : ℕ) (v : A) → i < n → KeptPast d n xs (set xs i v)
  past_set xs i v l = record { size = length-set xs i v; past = λ k h. get_or-set_other xs i k v d (λ e. omega arith) }

pub record Kept (s z : State) : Type 0 where
  pub plan : SamePlan s z
  pub tasks : KeptPast (task_in phase.Idle) s.count s.tasks z.tasks
  pub outputs : KeptPast 0 s.count s.outputs z.outputs
  pub dispatches : KeptPast 0 s.count s.dispatches z.dispatches
  pub buffers : KeptPast 0 s.rows s.buffers z.buffers
  pub inputs : KeptPast 0 s.rows s.inputs z.inputs

-- the cycle and both marks are no columns
pub kept_marks : (s : State) (cycle : ℕ) (ticked halted : Bool) →
    Kept s (moved s s.tasks s.outputs s.dispatches s.buffers s.inputs cycle ticked halted)
kept_marks s cycle ticked halted = record {
  plan = refl;
  tasks = past_refl _ _ _;
  outputs = past_refl _ _ _;
  dispatches = past_refl _ _ _;
  buffers = past_refl _ _ _;
  inputs = past_refl _ _ _;
}

pub kept_refl : (s : State) → Kept s s
kept_refl s = kept_marks s s.cycle s.ticked s.halted

pub plan_trans : (s z y : State) → SamePlan s z → SamePlan z y → SamePlan s y
plan_trans s z y p q = ap (λ (w : State). moved w y.tasks y.outputs y.dispatches y.buffers y.inputs y.cycle y.ticked y.halted) p ∙ q

pub plan_count : (s z : State) → SamePlan s z → z.count ≡ s.count
plan_count s z p = sym (ap (λ (w : State). w.count) p)

pub plan_rows : (s z : State) → SamePlan s z → z.rows ≡ s.rows
plan_rows s z p = sym (ap (λ (w : State). w.rows) p)

pub kept_trans : (s z y : State) → Kept s z → Kept z y → Kept s y
kept_trans s z y p q =
    let n : z.count ≡ s.count = plan_count s z p.plan in
    let m : z.rows ≡ s.rows = plan_rows s z p.plan in
    record {
      plan = plan_trans s z y p.plan q.plan;
      tasks = past_trans _ _ p.tasks (rw n at q).tasks;
      outputs = past_trans _ _ p.outputs (rw n at q).outputs;
      dispatches = past_trans _ _ p.dispatches (rw n at q).dispatches;
      buffers = past_trans _ _ p.buffers (rw m at q).buffers;
      inputs = past_trans _ _ p.inputs (rw m at q).inputs;
    }

-- ---------------------------------------------------------------------------------------------------------------------------
-- Each step.

pub delivered-kept : (s : State) → Kept s (delivered s)
unfolding delivered
delivered-kept s = record {
  plan = refl;
  tasks = past_refl _ _ _;
  outputs = past_refl _ _ _;
  dispatches = past_refl _ _ _;
  buffers = past_map 0 s.rows (delivers s) s.buffers;
  inputs = past_refl _ _ _;
}

pub dispatched-kept : (s : State) → Kept s (dispatched s)
unfolding dispatched
dispatched-kept s = record {
  plan = refl;
  tasks = past_map (task_in phase.Idle) s.count (wakes s) s.tasks;
  outputs = past_refl _ _ _;
  dispatches = past_map 0 s.count (records s) s.dispatches;
  buffers = past_refl _ _ _;
  inputs = past_map 0 s.rows (samples s) s.inputs;
}

pub started_at-kept : (s : State) (i : ℕ) → i < s.count → Kept s (started_at s i)
unfolding started_at
started_at-kept s i h = record {
  plan = refl;
  tasks = past_set (task_in phase.Idle) s.count s.tasks i (task_in phase.Started) h;
  outputs = past_refl _ _ _;
  dispatches = past_refl _ _ _;
  buffers = past_refl _ _ _;
  inputs = past_map 0 s.rows (takes s i) s.inputs;
}

pub advanced-kept : (s : State) → Kept s (advanced s)
unfolding advanced
advanced-kept s = kept_marks s _ true s.halted

pub set_halted-kept : (s : State) (b : Bool) → Kept s (set_halted s b)
set_halted-kept s b = kept_marks s s.cycle s.ticked b

pub ended_at-kept : (s : State) (i w : ℕ) → i < s.count → Kept s (ended_at s i w)
unfolding ended_at
ended_at-kept s i w h = record {
  plan = refl;
  tasks = past_set (task_in phase.Idle) s.count s.tasks i (task_in phase.Idle) h;
  outputs = past_set 0 s.count s.outputs i w h;
  dispatches = past_refl _ _ _;
  buffers = past_map 0 s.rows (posts s i w) s.buffers;
  inputs = past_refl _ _ _;
}

-- ---------------------------------------------------------------------------------------------------------------------------
-- Where each place of the order names a task, the running task is one.

abbrev pub NamesTasks : State → Type 0
NamesTasks s = (k : ℕ) → k < s.count → ordered s k < s.count

pub names-plan : (s z : State) → SamePlan s z → NamesTasks s → NamesTasks z
names-plan s z p h = rw (← p) h

pub running-task : (s : State) → NamesTasks s → some_runs s ≡ true → running s < s.count
running-task s h e = h (running_place s) (ltb-true (running_place s) s.count e)

pub chosen-kept : (s : State) → NamesTasks s → Kept s (chosen s).state
chosen-kept s h =
    rw (chosen-state s)
    (cond_by (Kept s) (starts s) (started_at s (running s)) s
    (λ e. started_at-kept s (running s) (running-task s h (and_left (some_runs s) _ e)))
    (λ _. kept_refl s))

-- steps 2 and 3
pub exchanged_kept : (s : State) → Kept s (dispatched (delivered s))
exchanged_kept s = kept_trans s (delivered s) _ (delivered-kept s) (dispatched-kept (delivered s))

-- steps 2, 3 and 4
pub moved-on_kept : (s : State) → NamesTasks s → Kept s (chosen (dispatched (delivered s))).state
moved-on_kept s h =
    let z = dispatched (delivered s) in
    kept_trans s z (chosen z).state (exchanged_kept s) (chosen-kept z (names-plan s z (exchanged_kept s).plan h))

pub ticking-kept : (s : State) → NamesTasks s → Kept s (ticking s).state
unfolding ticking
ticking-kept s h =
    let z = dispatched (delivered s) in
    let y = (chosen z).state in
    cond_by (λ (r : Step). Kept s r.state) (ltb (missing s) s.count)
    (step (answer.Missed (missing s)) (set_halted s true)) (step (chosen z).answer (advanced y))
    (λ _. set_halted-kept s true)
    (λ _. kept_trans s y (advanced y) (moved-on_kept s h) (advanced-kept y))

pub completing-kept : (s : State) (w : ℕ) → NamesTasks s → Kept s (completing s w).state
unfolding completing
completing-kept s w h =
    let z = ended_at s (running s) w in
    cond_by (λ (r : Step). Kept s r.state) (some_runs s) (chosen z) (step (answer.Refused NothingRuns) s)
    (λ e.
    let k : Kept s z = ended_at-kept s (running s) w (running-task s h e) in
    kept_trans s z (chosen z).state k (chosen-kept z (names-plan s z k.plan h)))
    (λ _. kept_refl s)

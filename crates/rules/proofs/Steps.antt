-- What each step does to each view of the state, and that no step changes the plan. The long proofs about steps go by these laws
-- and look at no list. Step 4 looks at no cycle, so steps 4 and 5 may change places.
use mathlib.Core.Path.{◌≡◌, refl, ap, sym, ◌∙◌}
use mathlib.Core.Bool.{Bool, true, false, cond, ◌&&◌}
use Prim.Native.Nat.{ℕ, ◌≤◌, ◌<◌}
use lib.Dec.{ltb}
use borrow.Author.Tests.{lt-ltb, le-ltb}
use lib.ListN.{get_or, length}
use lib.Seq.{get_or-set_same, get_or-set_other}
use Rattle.rules.specs.Views.{waiting, task_in, phase_of, output, dispatch, buffer, input, moved, set_halted}
use Rattle.rules.specs.Steps.{step, delivers, delivered, samples, wakes, records, released, dispatched, some_runs, running, takes, started_at, chosen, advanced, posts, ended_at, missing, ticking, completing}
use Rattle.rules.specs.declared.Phase.{Phase}
use Rattle.rules.specs.declared.Phase.TheVariants as phase
use Rattle.rules.specs.declared.Task.{Task}
use Rattle.rules.specs.declared.State.{State}
use Rattle.rules.specs.declared.Step.{Step}
use Rattle.rules.specs.declared.Answer.{Answer}
use Rattle.rules.specs.declared.Answer.TheVariants as answer
use Rattle.rules.specs.declared.Refusal.TheVariants.{NothingRuns}
use Rattle.rules.proofs.Tests.{cond_map, cond_same, cond_by, cond_true, cond_false}
use Rattle.rules.proofs.Counting.{map_below-at}

abbrev phase_in : Task → Phase
phase_in k = k.phase

-- z has the plan of s: it is s with the fields that a call changes set anew
abbrev pub SamePlan : State → State → Type 0
SamePlan s z = moved s z.tasks z.outputs z.dispatches z.buffers z.inputs z.cycle z.ticked z.halted ≡ z

-- ---------------------------------------------------------------------------------------------------------------------------
-- Step 2 changes the buffers of rows alone.

pub delivered-plan : (s : State) → SamePlan s (delivered s)
unfolding delivered
delivered-plan s = refl

pub delivered-phase : (s : State) (i : ℕ) → phase_of (delivered s) i ≡ phase_of s i
unfolding delivered
delivered-phase s i = refl

pub delivered-output : (s : State) (i : ℕ) → output (delivered s) i ≡ output s i
unfolding delivered
delivered-output s i = refl

pub delivered-dispatch : (s : State) (i : ℕ) → dispatch (delivered s) i ≡ dispatch s i
unfolding delivered
delivered-dispatch s i = refl

pub delivered-buffer : (s : State) (c : ℕ) → c < s.rows → c < length s.buffers → buffer (delivered s) c ≡ delivers s c (buffer s c)
unfolding delivered
delivered-buffer s c h l = map_below-at (delivers s) s.rows s.buffers c 0 h l

pub delivered-input : (s : State) (c : ℕ) → input (delivered s) c ≡ input s c
unfolding delivered
delivered-input s c = refl

-- ---------------------------------------------------------------------------------------------------------------------------
-- Step 3 changes phases, recorded cycles and the inputs of rows.

pub dispatched-plan : (s : State) → SamePlan s (dispatched s)
unfolding dispatched
dispatched-plan s = refl

pub dispatched-phase : (s : State) (i : ℕ) → i < s.count → i < length s.tasks →
    phase_of (dispatched s) i ≡ cond (released s i) phase.Waiting (phase_of s i)
unfolding dispatched
dispatched-phase s i h l =
    ap phase_in (map_below-at (wakes s) s.count s.tasks i (task_in phase.Idle) h l)
    ∙ cond_map phase_in (released s i) (task_in phase.Waiting) (get_or s.tasks i (task_in phase.Idle))

pub dispatched-output : (s : State) (i : ℕ) → output (dispatched s) i ≡ output s i
unfolding dispatched
dispatched-output s i = refl

pub dispatched-dispatch : (s : State) (i : ℕ) → i < s.count → i < length s.dispatches →
    dispatch (dispatched s) i ≡ records s i (dispatch s i)
unfolding dispatched
dispatched-dispatch s i h l = map_below-at (records s) s.count s.dispatches i 0 h l

pub dispatched-buffer : (s : State) (c : ℕ) → buffer (dispatched s) c ≡ buffer s c
unfolding dispatched
dispatched-buffer s c = refl

pub dispatched-input : (s : State) (c : ℕ) → c < s.rows → c < length s.inputs → input (dispatched s) c ≡ samples s c (input s c)
unfolding dispatched
dispatched-input s c h l = map_below-at (samples s) s.rows s.inputs c 0 h l

-- ---------------------------------------------------------------------------------------------------------------------------
-- A start changes the phase of its task and the inputs of rows.

pub started_at-plan : (s : State) (i : ℕ) → SamePlan s (started_at s i)
unfolding started_at
started_at-plan s i = refl

pub started_at-phase : (s : State) (i : ℕ) → i < length s.tasks → phase_of (started_at s i) i ≡ phase.Started
unfolding started_at
started_at-phase s i l = ap phase_in (get_or-set_same s.tasks i (task_in phase.Started) (task_in phase.Idle) l)

pub started_at-phase_other : (s : State) (i j : ℕ) → (j ≡ i → ⊥) → phase_of (started_at s i) j ≡ phase_of s j
unfolding started_at
started_at-phase_other s i j n = ap phase_in (get_or-set_other s.tasks i j (task_in phase.Started) (task_in phase.Idle) n)

pub started_at-output : (s : State) (i j : ℕ) → output (started_at s i) j ≡ output s j
unfolding started_at
started_at-output s i j = refl

pub started_at-dispatch : (s : State) (i j : ℕ) → dispatch (started_at s i) j ≡ dispatch s j
unfolding started_at
started_at-dispatch s i j = refl

pub started_at-buffer : (s : State) (i c : ℕ) → buffer (started_at s i) c ≡ buffer s c
unfolding started_at
started_at-buffer s i c = refl

pub started_at-input : (s : State) (i c : ℕ) → c < s.rows → c < length s.inputs → input (started_at s i) c ≡ takes s i c (input s c)
unfolding started_at
started_at-input s i c h l = map_below-at (takes s i) s.rows s.inputs c 0 h l

-- ---------------------------------------------------------------------------------------------------------------------------
-- Step 4 answers who runs, and starts it if it waits.

abbrev pub starts : State → Bool
starts s = some_runs s && waiting (phase_of s (running s))

choice : (some waits : Bool) (a d : Answer) (x s : State) →
    cond some (step a (cond waits x s)) (step d s) ≡ step (cond some a d) (cond (some && waits) x s)
choice true waits a d x s = refl
choice false waits a d x s = refl

pub chosen_is : (s : State) →
    chosen s ≡ step (cond (some_runs s) (answer.Running (running s)) answer.Idle) (cond (starts s) (started_at s (running s)) s)
unfolding chosen
chosen_is s = choice (some_runs s) (waiting (phase_of s (running s))) (answer.Running (running s)) answer.Idle (started_at s (running s)) s

pub chosen-answer : (s : State) → (chosen s).answer ≡ cond (some_runs s) (answer.Running (running s)) answer.Idle
chosen-answer s = ap (λ (r : Step). r.answer) (chosen_is s)

pub chosen-state : (s : State) → (chosen s).state ≡ cond (starts s) (started_at s (running s)) s
chosen-state s = ap (λ (r : Step). r.state) (chosen_is s)

-- what a start keeps, step 4 keeps
chosen-keeps : {A : Type 0} (view : State → A) (s : State) → view (started_at s (running s)) ≡ view s → view (chosen s).state ≡ view s
chosen-keeps {A = A} view s e =
    ap view (chosen-state s)
    ∙ (cond_map view (starts s) (started_at s (running s)) s ∙ (ap (λ (x : A). cond (starts s) x (view s)) e ∙ cond_same (starts s) (view s)))

pub chosen-plan : (s : State) → SamePlan s (chosen s).state
chosen-plan s = rw (chosen-state s) (cond_by (SamePlan s) (starts s) (started_at s (running s)) s (λ _. started_at-plan s (running s)) (λ _. refl))

pub chosen-phase : (s : State) → running s < length s.tasks → phase_of (chosen s).state (running s) ≡ cond (starts s) phase.Started (phase_of s (running s))
chosen-phase s l =
    ap (λ (z : State). phase_of z (running s)) (chosen-state s)
    ∙ (cond_map (λ (z : State). phase_of z (running s)) (starts s) (started_at s (running s)) s
    ∙ ap (λ (p : Phase). cond (starts s) p (phase_of s (running s))) (started_at-phase s (running s) l))

pub chosen-phase_other : (s : State) (i : ℕ) → (i ≡ running s → ⊥) → phase_of (chosen s).state i ≡ phase_of s i
chosen-phase_other s i n = chosen-keeps (λ (z : State). phase_of z i) s (started_at-phase_other s (running s) i n)

pub chosen-output : (s : State) (i : ℕ) → output (chosen s).state i ≡ output s i
chosen-output s i = chosen-keeps (λ (z : State). output z i) s (started_at-output s (running s) i)

pub chosen-dispatch : (s : State) (i : ℕ) → dispatch (chosen s).state i ≡ dispatch s i
chosen-dispatch s i = chosen-keeps (λ (z : State). dispatch z i) s (started_at-dispatch s (running s) i)

pub chosen-buffer : (s : State) (c : ℕ) → buffer (chosen s).state c ≡ buffer s c
chosen-buffer s c = chosen-keeps (λ (z : State). buffer z c) s (started_at-buffer s (running s) c)

pub chosen-input : (s : State) (c : ℕ) → c < s.rows → c < length s.inputs →
    input (chosen s).state c ≡ cond (starts s) (takes s (running s) c (input s c)) (input s c)
chosen-input s c h l =
    ap (λ (z : State). input z c) (chosen-state s)
    ∙ (cond_map (λ (z : State). input z c) (starts s) (started_at s (running s)) s
    ∙ ap (λ (x : ℕ). cond (starts s) x (input s c)) (started_at-input s (running s) c h l))

pub chosen-cycle : (s : State) → (chosen s).state.cycle ≡ s.cycle
unfolding started_at
chosen-cycle s = chosen-keeps (λ (z : State). z.cycle) s refl

pub chosen-ticked : (s : State) → (chosen s).state.ticked ≡ s.ticked
unfolding started_at
chosen-ticked s = chosen-keeps (λ (z : State). z.ticked) s refl

pub chosen-halted : (s : State) → (chosen s).state.halted ≡ s.halted
unfolding started_at
chosen-halted s = chosen-keeps (λ (z : State). z.halted) s refl

-- ---------------------------------------------------------------------------------------------------------------------------
-- Step 5 changes the cycle and the mark of a tick alone.

pub advanced-plan : (s : State) → SamePlan s (advanced s)
unfolding advanced
advanced-plan s = refl

pub advanced-phase : (s : State) (i : ℕ) → phase_of (advanced s) i ≡ phase_of s i
unfolding advanced
advanced-phase s i = refl

pub advanced-output : (s : State) (i : ℕ) → output (advanced s) i ≡ output s i
unfolding advanced
advanced-output s i = refl

pub advanced-dispatch : (s : State) (i : ℕ) → dispatch (advanced s) i ≡ dispatch s i
unfolding advanced
advanced-dispatch s i = refl

pub advanced-buffer : (s : State) (c : ℕ) → buffer (advanced s) c ≡ buffer s c
unfolding advanced
advanced-buffer s c = refl

pub advanced-input : (s : State) (c : ℕ) → input (advanced s) c ≡ input s c
unfolding advanced
advanced-input s c = refl

-- steps 4 and 5 in either order
pub chosen-advanced : (s : State) → chosen (advanced s) ≡ step (chosen s).answer (advanced (chosen s).state)
unfolding advanced started_at
chosen-advanced s =
    chosen_is (advanced s)
    ∙ (ap (λ (a : Answer). step a (cond (starts s) (advanced (started_at s (running s))) (advanced s))) (sym (chosen-answer s))
    ∙ ap (step (chosen s).answer) (sym (cond_map advanced (starts s) (started_at s (running s)) s) ∙ ap advanced (sym (chosen-state s))))

-- ---------------------------------------------------------------------------------------------------------------------------
-- An end changes the phase and the output of its task and the buffers of rows.

pub ended_at-plan : (s : State) (i w : ℕ) → SamePlan s (ended_at s i w)
unfolding ended_at
ended_at-plan s i w = refl

pub ended_at-phase : (s : State) (i w : ℕ) → i < length s.tasks → phase_of (ended_at s i w) i ≡ phase.Idle
unfolding ended_at
ended_at-phase s i w l = ap phase_in (get_or-set_same s.tasks i (task_in phase.Idle) (task_in phase.Idle) l)

pub ended_at-phase_other : (s : State) (i w j : ℕ) → (j ≡ i → ⊥) → phase_of (ended_at s i w) j ≡ phase_of s j
unfolding ended_at
ended_at-phase_other s i w j n = ap phase_in (get_or-set_other s.tasks i j (task_in phase.Idle) (task_in phase.Idle) n)

pub ended_at-output : (s : State) (i w : ℕ) → i < length s.outputs → output (ended_at s i w) i ≡ w
unfolding ended_at
ended_at-output s i w l = get_or-set_same s.outputs i w 0 l

pub ended_at-output_other : (s : State) (i w j : ℕ) → (j ≡ i → ⊥) → output (ended_at s i w) j ≡ output s j
unfolding ended_at
ended_at-output_other s i w j n = get_or-set_other s.outputs i j w 0 n

pub ended_at-dispatch : (s : State) (i w j : ℕ) → dispatch (ended_at s i w) j ≡ dispatch s j
unfolding ended_at
ended_at-dispatch s i w j = refl

pub ended_at-buffer : (s : State) (i w c : ℕ) → c < s.rows → c < length s.buffers → buffer (ended_at s i w) c ≡ posts s i w c (buffer s c)
unfolding ended_at
ended_at-buffer s i w c h l = map_below-at (posts s i w) s.rows s.buffers c 0 h l

pub ended_at-input : (s : State) (i w c : ℕ) → input (ended_at s i w) c ≡ input s c
unfolding ended_at
ended_at-input s i w c = refl

-- ---------------------------------------------------------------------------------------------------------------------------
-- The two ways of a tick, and of a completion.

pub ticking-missed : (s : State) → missing s < s.count → ticking s ≡ step (answer.Missed (missing s)) (set_halted s true)
unfolding ticking
ticking-missed s h = cond_true (ltb (missing s) s.count) _ _ (lt-ltb _ _ h)

pub ticking-on : (s : State) → s.count ≤ missing s → ticking s ≡ chosen (advanced (dispatched (delivered s)))
unfolding ticking
ticking-on s h = cond_false (ltb (missing s) s.count) _ _ (le-ltb _ _ h) ∙ sym (chosen-advanced (dispatched (delivered s)))

pub completing-none : (s : State) (w : ℕ) → some_runs s ≡ false → completing s w ≡ step (answer.Refused NothingRuns) s
unfolding completing
completing-none s w e = cond_false (some_runs s) _ _ e

pub completing-on : (s : State) (w : ℕ) → some_runs s ≡ true → completing s w ≡ chosen (ended_at s (running s) w)
unfolding completing
completing-on s w e = cond_true (some_runs s) _ _ e

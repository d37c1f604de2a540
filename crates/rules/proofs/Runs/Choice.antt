-- Step 4, the choice. The running task is at work, and whoever sends to it undelayed is idle (01: the sender stands before the receiver
-- in the order), so the words that it takes when it starts are those of the jobs that are meant. Behind the choice whoever runs is started.
use mathlib.Core.Path.{◌≡◌, refl, sym, ◌∙◌, ap}
use mathlib.Core.Bool.{true, false, not}
use mathlib.Core.List.{List}
use Prim.Native.Nat.{ℕ, ◌≤◌, ◌<◌}
use native.Mathlib.Omega.{arith}
use lib.Dec.{eqb}
use borrow.Author.Tests.{eqb-true, eqb-false, eq-eqb, ne_eqb, ltb-true, not-true, not-false}
use Rattle.rules.specs.declared.Phase.{Phase}
use Rattle.rules.specs.declared.Phase.TheVariants as phase
use Rattle.rules.specs.declared.State.{State}
use Rattle.rules.specs.Views.{idle, waiting, started, sender, receiver, undelayed, ordered, phase_of, buffer, input}
use Rattle.rules.specs.Range.{names, place_of}
use Rattle.rules.specs.Steps.{busy, running_place, some_runs, running, takes, started_at, chosen}
use Rattle.rules.specs.Runs.{Runs}
use Rattle.rules.proofs.Tests.{by_test, cond_by, and_left, false_true}
use Rattle.rules.proofs.Counting.{first_of-hit, first_of-before, first_of-least, first_of-same}
use Rattle.rules.proofs.Steps.{started_at-phase, started_at-phase_other, started_at-input, starts, chosen-state, chosen-plan, chosen-cycle, chosen-ticked}
use Rattle.rules.proofs.Kept.{started_at-kept}
use Rattle.rules.proofs.Runs.OneTask.{task_starts}
use Rattle.rules.proofs.Runs.OneRow.{delayed_starts, undelayed-starts}
use Rattle.rules.proofs.Runs.Parts.{Laid, Parts, ClockOf, DelayedRow, UndelayedRow, ends, laid_same, fits_kept, task_moved, delayed_moved, undelayed-moved}

-- ---------------------------------------------------------------------------------------------------------------------------
-- The running task

module _ (s : State) (l : Laid s) where
  pub runner_in : (i : ℕ) → Runs s i → i < s.count
  runner_in i h = rw h.1 at (l.names_task (running_place s) (ltb-true _ _ h.0))

  pub runner_busy : (i : ℕ) → Runs s i → idle (phase_of s i) ≡ false
  runner_busy i h = not-true _ (rw h.1 at (first_of-hit (busy s) s.count (ltb-true _ _ h.0)))

  -- 3a, for a state: no task that sends to the running one undelayed has an unfinished job
  pub sender-idle : (c : ℕ) → c < s.rows → undelayed s c ≡ true → Runs s (receiver s c) → idle (phase_of s (sender s c)) ≡ true
  sender-idle c h e r =
      let pr : place_of s (receiver s c) ≤ running_place s = first_of-least (names s (receiver s c)) s.count (running_place s) (eq-eqb _ _ r.1) in
      let ps : ordered s (place_of s (sender s c)) ≡ sender s c =
      eqb-true _ _ (first_of-hit (names s (sender s c)) s.count (l.has_place (sender s c) (l.sender_in c h))) in
      not-false _ (rw ps at (first_of-before (busy s) s.count (place_of s (sender s c)) (omega (arith, l.sender_first c h e))))

-- ---------------------------------------------------------------------------------------------------------------------------
-- A start

takes-mine : (s : State) (i c x : ℕ) → undelayed s c ≡ true → receiver s c ≡ i → takes s i c x ≡ buffer s c
takes-mine s i c x e q = rw (e, eq-eqb (receiver s c) i q)

takes-other : (s : State) (i c x : ℕ) → (receiver s c ≡ i → ⊥) → takes s i c x ≡ x
takes-other s i c x n = by_test (undelayed s c) (λ e. rw (e, ne_eqb (receiver s c) i n)) (λ e. rw e)

takes-delayed : (s : State) (i c x : ℕ) → undelayed s c ≡ false → takes s i c x ≡ x
takes-delayed s i c x e = rw e

module _ (T : ℕ) (W : ℕ → List ℕ) (s : State) (p : Parts T W s) (i : ℕ) (run : Runs s i) where
  at-work : (j : ℕ) → j ≡ i → idle (phase_of s j) ≡ false
  at-work j e = rw e (runner_busy s p.laid i run)

  started-phase : (j : ℕ) → j ≡ i → phase_of (started_at s i) j ≡ phase.Started
  started-phase j e = rw e (started_at-phase s i (omega (arith, runner_in s p.laid i run, p.fits.tasks_fit)))

  module _ (c : ℕ) (h : c < s.rows) where
    input-is : input (started_at s i) c ≡ takes s i c (input s c)
    input-is = started_at-input s i c h (omega (arith, p.fits.inputs_fit))

    delayed_row : undelayed s c ≡ false →
        DelayedRow T W s c (phase_of (started_at s i) (receiver s c)) (buffer s c) (input (started_at s i) c)
    delayed_row e =
        by_test (eqb (receiver s c) i)
        (λ q. delayed_moved refl (started-phase (receiver s c) (eqb-true _ _ q)) refl untaken
        (delayed_starts (at-work (receiver s c) (eqb-true _ _ q)) (p.delayed_kept c h e)))
        (λ q. delayed_moved refl (started_at-phase_other s i (receiver s c) (eqb-false _ _ q)) refl untaken (p.delayed_kept c h e))
      where
        untaken : input (started_at s i) c ≡ input s c
        untaken = input-is ∙ takes-delayed s i c (input s c) e

    undelayed-row : undelayed s c ≡ true →
        UndelayedRow T W s c (phase_of (started_at s i) (receiver s c)) (buffer s c) (input (started_at s i) c)
    undelayed-row e =
        by_test (eqb (receiver s c) i)
        (λ q. let r : receiver s c ≡ i = eqb-true _ _ q in
        undelayed-moved refl (started-phase (receiver s c) r) refl (input-is ∙ takes-mine s i c (input s c) e r)
        (undelayed-starts (ends p c h) (sender-idle s p.laid c h e (run.0, run.1 ∙ sym r)) (at-work (receiver s c) r)
        (p.undelayed_kept c h e)))
        (λ q. undelayed-moved refl (started_at-phase_other s i (receiver s c) (eqb-false _ _ q)) refl
        (input-is ∙ takes-other s i c (input s c) (eqb-false _ _ q)) (p.undelayed_kept c h e))

  started-parts : Parts T W (started_at s i)
  unfolding started_at
  started-parts = record {
    laid = laid_same s (started_at s i) refl p.laid;
    fits = fits_kept s (started_at s i) (started_at-kept s i (runner_in s p.laid i run)) p.fits;
    task_kept = λ j h. by_test (eqb j i)
        (λ q. task_moved refl (started-phase j (eqb-true _ _ q)) refl refl (task_starts (p.task_kept j h) (at-work j (eqb-true _ _ q))))
        (λ q. task_moved refl (started_at-phase_other s i j (eqb-false _ _ q)) refl refl (p.task_kept j h));
    delayed_kept = delayed_row;
    undelayed_kept = undelayed-row;
  }

  -- the same task runs after it
  runs_on : (j : ℕ) → Runs (started_at s i) j → j ≡ i
  unfolding started_at
  runs_on j h = sym h.1 ∙ ap (ordered s) still ∙ run.1
    where
      still : running_place (started_at s i) ≡ running_place s
      still = first_of-same (busy (started_at s i)) (busy s) s.count
          (λ k _. by_test (eqb (ordered s k) i)
          (λ q. ap (λ (x : Phase). not (idle x)) (started-phase (ordered s k) (eqb-true _ _ q)) ∙ sym (ap not (at-work (ordered s k) (eqb-true _ _ q))))
          (λ q. ap (λ (x : Phase). not (idle x)) (started_at-phase_other s i (ordered s k) (eqb-false _ _ q))))

-- ---------------------------------------------------------------------------------------------------------------------------
-- The choice

-- whoever runs is started
abbrev pub Settled : State → Type 0
Settled s = (i : ℕ) → Runs s i → started (phase_of s i) ≡ true

neither : (x : Phase) → idle x ≡ false → waiting x ≡ false → started x ≡ true
neither phase.Idle a b = absurd (false_true (sym a))
neither phase.Waiting a b = absurd (false_true (sym b))
neither phase.Started a b = refl

module _ (T : ℕ) (W : ℕ → List ℕ) (s : State) (p : Parts T W s) where
  pub chosen-parts : Parts T W (chosen s).state
  chosen-parts = rw (chosen-state s) (cond_by (λ z. Parts T W z) (starts s) (started_at s (running s)) s
      (λ e. started-parts T W s p (running s) (and_left (some_runs s) (waiting (phase_of s (running s))) e, refl)) (λ _. p))

  pub chosen-settled : Settled (chosen s).state
  chosen-settled = rw (chosen-state s) (cond_by Settled (starts s) (started_at s (running s)) s behind before)
    where
      behind : starts s ≡ true → Settled (started_at s (running s))
      behind e i h =
          let run : Runs s (running s) = (and_left (some_runs s) (waiting (phase_of s (running s))) e, refl) in
          ap started (started-phase T W s p (running s) run i (runs_on T W s p (running s) run i h))

      before : starts s ≡ false → Settled s
      before e i h = neither (phase_of s i) (runner_busy s p.laid i h) (rw h.1 at (rw h.0 at e))

pub chosen-clock : (T : ℕ) (s : State) → ClockOf T s → ClockOf T (chosen s).state
chosen-clock T s k = rw (chosen-multiple, chosen-cycle s, chosen-ticked s) k
  where
    chosen-multiple : (chosen s).state.multiple ≡ s.multiple
    chosen-multiple = sym (ap (λ (z : State). z.multiple) (chosen-plan s))

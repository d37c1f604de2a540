-- Steps 1 to 3 and 5 of a tick keep what a run keeps: which task and which row each step hits, and then the laws of one task and one row.
use mathlib.Core.Path.{◌≡◌, refl, sym, ◌∙◌, ap}
use mathlib.Core.Bool.{Bool, true, false, cond}
use mathlib.Core.List.{List}
use mathlib.Core.Logic.{◌≢◌}
use Prim.Native.Nat.{ℕ, suc, ◌+◌, ◌%◌, ◌<◌}
use native.Mathlib.Nat.{suc-mod, mod_self, mod-eq_of_lt, mod-lt}
use native.Mathlib.Numerals.{add-one}
use native.Mathlib.Omega.{arith}
use lib.Dec.{ltb, eqb}
use borrow.Author.Tests.{eqb-true, eqb-false, ltb-false, lt-ltb, not-false}
use Rattle.rules.specs.declared.Phase.TheVariants as phase
use Rattle.rules.specs.declared.State.{State}
use Rattle.rules.specs.Views.{idle, period, deadline, sender, receiver, undelayed, phase_of, output, dispatch, buffer, input}
use Rattle.rules.specs.Steps.{falls, late, missing, delivers, delivered, released, samples, dispatched, advanced}
use Rattle.rules.proofs.Tests.{by_test}
use Rattle.rules.proofs.Counting.{first_of-before}
use Rattle.rules.proofs.Steps.{delivered-buffer, dispatched-phase, dispatched-dispatch, dispatched-input}
use Rattle.rules.proofs.Kept.{exchanged_kept, advanced-kept}
use Rattle.rules.proofs.Runs.OneTask.{Clock, due_true, due_false, task_ticks}
use Rattle.rules.proofs.Runs.OneRow.{delayed_ticks, undelayed-ticks}
use Rattle.rules.proofs.Runs.Parts.{Parts, ClockOf, DelayedRow, UndelayedRow, ends, laid_same, fits_kept, task_moved, delayed_moved, undelayed-moved}

-- step 2 and 3 on a row of either kind
delivers-delayed : (s : State) (c b : ℕ) → undelayed s c ≡ false → delivers s c b ≡ cond (falls s (sender s c)) (output s (sender s c)) b
delivers-delayed s c b e = rw e

delivers-undelayed : (s : State) (c b : ℕ) → undelayed s c ≡ true → delivers s c b ≡ b
delivers-undelayed s c b e = rw e

samples-delayed : (s : State) (c x : ℕ) → undelayed s c ≡ false → samples s c x ≡ cond (released s (receiver s c)) (buffer s c) x
samples-delayed s c x e = rw e

samples-undelayed : (s : State) (c x : ℕ) → undelayed s c ≡ true → samples s c x ≡ x
samples-undelayed s c x e = rw e

-- a deadline falls at tick T, counted from the start without end, where T and the deadline leave the same remainder, and not at the first
module _ (T : ℕ) (W : ℕ → List ℕ) (s : State) (p : Parts T W s) (k : ClockOf T s) (i : ℕ) (h : i < s.count) where
  pub falls-true : falls s i ≡ true → (0 < T) × (T % period s i ≡ deadline s i % period s i)
  falls-true = due_true (p.laid.paced i h) k

  pub falls-false : falls s i ≡ false → 0 < T → T % period s i ≡ deadline s i % period s i → ⊥
  falls-false = due_false (p.laid.paced i h) k

module _ (T : ℕ) (W : ℕ → List ℕ) (s : State) (p : Parts T W s) (k : ClockOf T s)
    (none : ltb (missing s) s.count ≡ false) where
  -- step 1: no task whose deadline falls is late
  not_late : (i : ℕ) → i < s.count → falls s i ≡ true → idle (phase_of s i) ≡ true
  not_late i h e = not-false _ (rw e at (first_of-before (late s) s.count i (omega (arith, ltb-false (missing s) s.count none))))

  -- steps 2 and 3, by view
  module _ (i : ℕ) (h : i < s.count) where
    phase_is : phase_of (dispatched (delivered s)) i ≡ cond (released s i) phase.Waiting (phase_of s i)
    unfolding delivered
    phase_is = dispatched-phase (delivered s) i h (omega (arith, p.fits.tasks_fit))

    dispatch-is : dispatch (dispatched (delivered s)) i ≡ cond (released s i) s.cycle (dispatch s i)
    unfolding delivered
    dispatch-is = dispatched-dispatch (delivered s) i h (omega (arith, p.fits.dispatches_fit))

  module _ (c : ℕ) (h : c < s.rows) where
    buffer-is : buffer (delivered s) c ≡ delivers s c (buffer s c)
    buffer-is = delivered-buffer s c h (omega (arith, p.fits.buffers_fit))

    input-is : input (dispatched (delivered s)) c ≡ samples (delivered s) c (input s c)
    unfolding delivered
    input-is = dispatched-input (delivered s) c h (omega (arith, p.fits.inputs_fit))

    delayed_buffer : undelayed s c ≡ false → buffer (delivered s) c ≡ cond (falls s (sender s c)) (output s (sender s c)) (buffer s c)
    delayed_buffer e = buffer-is ∙ delivers-delayed s c (buffer s c) e

    delayed_input : undelayed s c ≡ false → input (dispatched (delivered s)) c ≡
        cond (released s (receiver s c)) (cond (falls s (sender s c)) (output s (sender s c)) (buffer s c)) (input s c)
    unfolding delivered
    delayed_input e =
        input-is ∙ samples-delayed (delivered s) c (input s c) e
        ∙ ap (λ (b : ℕ). cond (released s (receiver s c)) b (input s c)) (delayed_buffer e)

    undelayed-input : undelayed s c ≡ true → input (dispatched (delivered s)) c ≡ input s c
    unfolding delivered
    undelayed-input e = input-is ∙ samples-undelayed (delivered s) c (input s c) e

    -- its two tasks
    si : sender s c < s.count
    si = p.laid.sender_in c h

    ri : receiver s c < s.count
    ri = p.laid.receiver_in c h

    delayed_row : undelayed s c ≡ false →
        DelayedRow (suc T) W s c (phase_of (dispatched (delivered s)) (receiver s c)) (buffer (delivered s) c) (input (dispatched (delivered s)) c)
    delayed_row e =
        delayed_moved refl (phase_is (receiver s c) ri) (delayed_buffer e) (delayed_input e)
        (delayed_ticks (ends p c h) k (not_late (sender s c) si) (not_late (receiver s c) ri) (p.delayed_kept c h e))

    undelayed-row : undelayed s c ≡ true →
        UndelayedRow (suc T) W s c (phase_of (dispatched (delivered s)) (receiver s c)) (buffer (delivered s) c) (input (dispatched (delivered s)) c)
    undelayed-row e =
        undelayed-moved refl (phase_is (receiver s c) ri) (buffer-is ∙ delivers-undelayed s c (buffer s c) e) (undelayed-input e)
        (undelayed-ticks (ends p c h) k (not_late (sender s c) si) (not_late (receiver s c) ri) (p.laid.harmonic c h e)
        (p.undelayed_kept c h e))

  pub exchanged_clock : ClockOf T (dispatched (delivered s))
  unfolding delivered dispatched
  exchanged_clock = k

  pub exchanged_parts : Parts (suc T) W (dispatched (delivered s))
  unfolding delivered dispatched
  exchanged_parts = record {
    laid = laid_same s (dispatched (delivered s)) refl p.laid;
    fits = fits_kept s (dispatched (delivered s)) (exchanged_kept s) p.fits;
    task_kept = λ i h. task_moved refl (phase_is i h) refl (dispatch-is i h) (task_ticks (p.laid.paced i h) k (p.task_kept i h) (not_late i h));
    delayed_kept = delayed_row;
    undelayed_kept = undelayed-row;
  }

-- step 5
pub advanced-parts : (T : ℕ) (W : ℕ → List ℕ) (s : State) → Parts T W s → Parts T W (advanced s)
unfolding advanced
advanced-parts T W s p = record {
  laid = laid_same s (advanced s) refl p.laid;
  fits = fits_kept s (advanced s) (advanced-kept s) p.fits;
  task_kept = p.task_kept;
  delayed_kept = p.delayed_kept;
  undelayed_kept = p.undelayed_kept;
}

clock_ticks : (M T t : ℕ) (ticked : Bool) → 0 < M → Clock M T t ticked → Clock M (suc T) (cond (eqb (t + 1) M) 0 (t + 1)) true
clock_ticks M T t ticked pos c =
    let h : suc T % M ≡ (t + 1) % M =
    suc-mod T M ∙ ap (λ (x : ℕ). suc x % M) (sym c.at_cycle) ∙ ap (λ (x : ℕ). x % M) (sym (add-one t)) in
    by_test (eqb (t + 1) M)
    (λ e. rw e record { at_cycle = sym (h ∙ ap (λ (x : ℕ). x % M) (eqb-true _ _ e) ∙ mod_self M); began = one })
    (λ e. rw e record { at_cycle = sym (h ∙ mod-eq_of_lt (less e)); began = one })
  where
    less : eqb (t + 1) M ≡ false → t + 1 < M
    less e = let n : t + 1 ≢ M = eqb-false _ _ e in omega (arith, c.at_cycle, mod-lt T pos)

    one : true ≡ ltb 0 (suc T)
    one = sym (lt-ltb 0 (suc T) (omega arith))

pub advanced-clock : (T : ℕ) (s : State) → 0 < s.multiple → ClockOf T s → ClockOf (suc T) (advanced s)
unfolding advanced
advanced-clock T s pos k = clock_ticks s.multiple T s.cycle s.ticked pos k

-- A completion ends the running task i with the word w. Its own rows: on an undelayed one the word is posted where the recorded cycles are
-- equal; on a delayed one nothing happens. As a receiver it was at work, so its undelayed senders are idle.
use mathlib.Core.Path.{◌≡◌, refl, sym, ◌∙◌}
use mathlib.Core.Bool.{true, false, cond}
use mathlib.Core.List.{List, [], ◌∷◌, ◌++◌}
use Prim.Native.Nat.{ℕ, ◌<◌}
use native.Mathlib.Omega.{arith}
use lib.Dec.{eqb}
use borrow.Author.Tests.{eqb-true, eqb-false, eq-eqb, ne_eqb}
use Rattle.rules.specs.declared.Phase.TheVariants as phase
use Rattle.rules.specs.declared.State.{State}
use Rattle.rules.specs.Views.{idle, sender, receiver, undelayed, phase_of, output, dispatch, buffer, input}
use Rattle.rules.specs.Steps.{posts, ended_at}
use Rattle.rules.specs.Runs.{Runs, spoken}
use Rattle.rules.proofs.Tests.{by_test, true_false}
use Rattle.rules.proofs.Steps.{ended_at-phase, ended_at-phase_other, ended_at-output, ended_at-output_other, ended_at-buffer}
use Rattle.rules.proofs.Kept.{ended_at-kept}
use Rattle.rules.proofs.Runs.OneTask.{task_ends}
use Rattle.rules.proofs.Runs.OneRow.{delayed_receiver_ends, undelayed-receiver_ends, delayed_sender_ends, undelayed-sender_ends}
use Rattle.rules.proofs.Runs.Parts.{Parts, ClockOf, DelayedRow, UndelayedRow, ends, laid_same, fits_kept, task_moved, delayed_moved, undelayed-moved}
use Rattle.rules.proofs.Runs.Choice.{runner_in, runner_busy, sender-idle}

posts-delayed : (s : State) (i w c b : ℕ) → undelayed s c ≡ false → posts s i w c b ≡ b
posts-delayed s i w c b e = rw e

posts-other : (s : State) (i w c b : ℕ) → (sender s c ≡ i → ⊥) → posts s i w c b ≡ b
posts-other s i w c b n = by_test (undelayed s c) (λ e. rw (e, ne_eqb (sender s c) i n)) (λ e. rw e)

posts-mine : (s : State) (i w c b : ℕ) → undelayed s c ≡ true → sender s c ≡ i →
    posts s i w c b ≡ cond (eqb (dispatch s (receiver s c)) (dispatch s (sender s c))) w b
posts-mine s i w c b e q = rw (e, ← q, eq-eqb (sender s c) (sender s c) refl)

spoken-same : (W : ℕ → List ℕ) (i w j : ℕ) → j ≡ i → spoken W i w j ≡ W j ++ (w ∷ [])
spoken-same W i w j e = rw (eq-eqb j i e)

spoken-other : (W : ℕ → List ℕ) (i w j : ℕ) → (j ≡ i → ⊥) → spoken W i w j ≡ W j
spoken-other W i w j n = rw (ne_eqb j i n)

module _ (T : ℕ) (W : ℕ → List ℕ) (s : State) (p : Parts T W s) (i : ℕ) (run : Runs s i) (w : ℕ) where
  in_table : i < s.count
  in_table = runner_in s p.laid i run

  at-work : (j : ℕ) → j ≡ i → idle (phase_of s j) ≡ false
  at-work j e = rw e (runner_busy s p.laid i run)

  ended_phase : (j : ℕ) → j ≡ i → phase_of (ended_at s i w) j ≡ phase.Idle
  ended_phase j e = rw e (ended_at-phase s i w (omega (arith, in_table, p.fits.tasks_fit)))

  ended_output : (j : ℕ) → j ≡ i → output (ended_at s i w) j ≡ w
  ended_output j e = rw e (ended_at-output s i w (omega (arith, in_table, p.fits.outputs_fit)))

  module _ (c : ℕ) (h : c < s.rows) where
    buffer-is : buffer (ended_at s i w) c ≡ posts s i w c (buffer s c)
    buffer-is = ended_at-buffer s i w c h (omega (arith, p.fits.buffers_fit))

    delayed_row : undelayed s c ≡ false →
        DelayedRow T (spoken W i w) s c (phase_of (ended_at s i w) (receiver s c)) (buffer (ended_at s i w) c) (input s c)
    delayed_row e =
        by_test (eqb (receiver s c) i)
        (λ q. delayed_moved refl (ended_phase (receiver s c) (eqb-true _ _ q)) unposted refl (delayed_receiver_ends grown))
        (λ q. delayed_moved refl (ended_at-phase_other s i w (receiver s c) (eqb-false _ _ q)) unposted refl grown)
      where
        unposted : buffer (ended_at s i w) c ≡ buffer s c
        unposted = buffer-is ∙ posts-delayed s i w c (buffer s c) e

        grown : DelayedRow T (spoken W i w) s c (phase_of s (receiver s c)) (buffer s c) (input s c)
        grown =
            by_test (eqb (sender s c) i)
            (λ q. delayed_moved (spoken-same W i w (sender s c) (eqb-true _ _ q)) refl refl refl
            (delayed_sender_ends (ends p c h) w (p.delayed_kept c h e)))
            (λ q. delayed_moved (spoken-other W i w (sender s c) (eqb-false _ _ q)) refl refl refl (p.delayed_kept c h e))

    undelayed-row : undelayed s c ≡ true →
        UndelayedRow T (spoken W i w) s c (phase_of (ended_at s i w) (receiver s c)) (buffer (ended_at s i w) c) (input s c)
    undelayed-row e =
        by_test (eqb (sender s c) i)
        (λ q. let m : sender s c ≡ i = eqb-true _ _ q in
        undelayed-moved (spoken-same W i w (sender s c) m)
        (ended_at-phase_other s i w (receiver s c) (λ r. true_false (sym (quiet r) ∙ at-work (sender s c) m)))
        (buffer-is ∙ posts-mine s i w c (buffer s c) e m) refl
        (undelayed-sender_ends (ends p c h) w (at-work (sender s c) m) (p.undelayed_kept c h e)))
        (λ q. let n : sender s c ≡ i → ⊥ = eqb-false _ _ q in
        let unposted : buffer (ended_at s i w) c ≡ buffer s c = buffer-is ∙ posts-other s i w c (buffer s c) n in
        by_test (eqb (receiver s c) i)
        (λ g. let r : receiver s c ≡ i = eqb-true _ _ g in
        undelayed-moved (spoken-other W i w (sender s c) n) (ended_phase (receiver s c) r) unposted refl
        (undelayed-receiver_ends (ends p c h) (quiet r) (at-work (receiver s c) r) (p.undelayed_kept c h e)))
        (λ g. undelayed-moved (spoken-other W i w (sender s c) n) (ended_at-phase_other s i w (receiver s c) (eqb-false _ _ g)) unposted refl
        (p.undelayed_kept c h e)))
      where
        quiet : receiver s c ≡ i → idle (phase_of s (sender s c)) ≡ true
        quiet r = sender-idle s p.laid c h e (run.0, run.1 ∙ sym r)

  pub ended_clock : ClockOf T s → ClockOf T (ended_at s i w)
  unfolding ended_at
  ended_clock k = k

  pub ended_parts : Parts T (spoken W i w) (ended_at s i w)
  unfolding ended_at
  ended_parts = record {
    laid = laid_same s (ended_at s i w) refl p.laid;
    fits = fits_kept s (ended_at s i w) (ended_at-kept s i w in_table) p.fits;
    task_kept = λ j h. by_test (eqb j i)
        (λ q. let m : j ≡ i = eqb-true _ _ q in
        task_moved (spoken-same W i w j m) (ended_phase j m) (ended_output j m) refl (task_ends (p.task_kept j h) (at-work j m) w))
        (λ q. let n : j ≡ i → ⊥ = eqb-false _ _ q in
        task_moved (spoken-other W i w j n) (ended_at-phase_other s i w j n) (ended_at-output_other s i w j n) refl (p.task_kept j h));
    delayed_kept = delayed_row;
    undelayed_kept = undelayed-row;
  }

-- Steps 2 and 3 by the marks: a turn of the loop that wakes the tasks, and that with no mark nothing changes.
use mathlib.Core.Path.{◌≡◌, refl, ap, sym, ◌∙◌}
use mathlib.Core.Bool.{Bool, true, false, not, cond, ◌&&◌}
use mathlib.Core.List.{List}
use mathlib.Core.Logic.{◌⊎◌, ⊎_elim}
use Prim.Native.Nat.{ℕ, ◌+◌, ◌<◌}
use lib.ListN.{set}
use Rattle.rules.specs.Counting.{map_below}
use Rattle.rules.specs.Views.{task_in, sender, receiver, undelayed, set_tasks, set_dispatches, set_buffers}
use Rattle.rules.specs.Steps.{falls, delivers, delivered, released, samples, wakes, records, dispatched}
use Rattle.rules.specs.declared.Phase.TheVariants as phase
use Rattle.rules.specs.declared.Task.{Task}
use Rattle.rules.specs.declared.State.{State}
use Rattle.rules.proofs.Tests.{cond_true, cond_false, and_not_right}
use Rattle.rules.proofs.Counting.{map_below-none, map_below-turn, map_below-skip}
use Rattle.executive.specs.Fits.{Fits}
use Rattle.executive.specs.Marks.{Tells}
use Rattle.executive.specs.declared.deadlines.Marks.{Marks}
use Rattle.executive.proofs.Marks.{any_below-none}

-- the state with these phases and recorded cycles
abbrev pub with_phases : State → List Task → List ℕ → State
with_phases s tasks dispatches = set_dispatches (set_tasks s tasks) dispatches

module _ (s : State) (i : ℕ) (b : Bool) (e : b ≡ released s i) where
  tasks : List Task
  tasks = map_below (wakes s) i s.tasks

  dispatches : List ℕ
  dispatches = map_below (records s) i s.dispatches

  woken-turn : b ≡ true → with_phases s (set tasks i (task_in phase.Waiting)) (set dispatches i s.cycle)
      ≡ with_phases s (map_below (wakes s) (i + 1) s.tasks) (map_below (records s) (i + 1) s.dispatches)
  unfolding tasks dispatches
  woken-turn t =
      let q : released s i ≡ true = sym e ∙ t in
      rw (
        map_below-turn (wakes s) i s.tasks (map_below (wakes s) i s.tasks) (task_in phase.Idle) (task_in phase.Waiting) refl (sym (cond_true _ _ _ q)),
        map_below-turn (records s) i s.dispatches (map_below (records s) i s.dispatches) 0 s.cycle refl (sym (cond_true _ _ _ q)),
      )

  woken-skip : b ≡ false → with_phases s tasks dispatches ≡ with_phases s (map_below (wakes s) (i + 1) s.tasks) (map_below (records s) (i + 1) s.dispatches)
  unfolding tasks dispatches
  woken-skip t =
      let q : released s i ≡ false = sym e ∙ t in
      rw (
        map_below-skip (wakes s) i s.tasks (map_below (wakes s) i s.tasks) (task_in phase.Idle) refl (cond_false _ _ _ q),
        map_below-skip (records s) i s.dispatches (map_below (records s) i s.dispatches) 0 refl (cond_false _ _ _ q),
      )

  -- a turn of the loop over the tasks
  pub wake-turn : (out new : State) → out ≡ with_phases s (map_below (wakes s) i s.tasks) (map_below (records s) i s.dispatches) →
      ((b ≡ true) × (new ≡ with_phases out (set out.tasks i (task_in phase.Waiting)) (set out.dispatches i out.cycle))) ⊎ ((b ≡ false) × (new ≡ out)) →
      new ≡ with_phases s (map_below (wakes s) (i + 1) s.tasks) (map_below (records s) (i + 1) s.dispatches)
  unfolding tasks dispatches
  wake-turn out new q w =
      ⊎_elim
      (λ t. t.1 ∙ (ap (λ (z : State). with_phases z (set z.tasks i (task_in phase.Waiting)) (set z.dispatches i z.cycle)) q ∙ woken-turn t.0))
      (λ l. l.1 ∙ (q ∙ woken-skip l.0)) w

-- no copy where the mark is not set
copy_off : (a b : Bool) (x y : ℕ) → b ≡ false → cond (a && b) x y ≡ y
copy_off a b x y e = cond_false (a && b) x y (and_not_right a b e)

-- where no mark is set nothing changes
module _ (s : State) (m : Marks) (fit : Fits s) where
  pub none-delivered : Tells s falls m → m.any ≡ false → delivered s ≡ s
  unfolding delivered
  none-delivered told e =
      let none = λ (i : ℕ) (h : i < s.count). any_below-none (falls s) s.count i (sym told.some ∙ e) h in
      ap (set_buffers s)
      (map_below-none (delivers s) s.rows s.buffers (λ c h w. copy_off (not (undelayed s c)) _ _ w (none (sender s c) (fit.sends c h))))

  pub none-dispatched : Tells s released m → m.any ≡ false → dispatched s ≡ s
  unfolding dispatched
  none-dispatched told e =
      let none = λ (i : ℕ) (h : i < s.count). any_below-none (released s) s.count i (sym told.some ∙ e) h in
      rw (
        map_below-none (samples s) s.rows s.inputs (λ c h w. copy_off (not (undelayed s c)) _ _ w (none (receiver s c) (fit.receives c h))),
        map_below-none (wakes s) s.count s.tasks (λ i h k. cond_false _ _ _ (none i h)),
        map_below-none (records s) s.count s.dispatches (λ i h t. cond_false _ _ _ (none i h)),
      ) refl

-- Step 4 by the task that is found to run.
use mathlib.Core.Path.{◌≡◌, refl, sym}
use mathlib.Core.Bool.{true, false}
use Prim.Native.Nat.{ℕ}
use Rattle.std.specs.Prelude.{Some, None}
use Rattle.std.proofs.lemmas.Option.{cond_some}
use Rattle.rules.specs.Views.{waiting, phase_of}
use Rattle.rules.specs.Steps.{step, some_runs, running, started_at, chosen}
use Rattle.rules.specs.declared.State.{State}
use Rattle.rules.specs.declared.Answer.TheVariants as answer
use Rattle.rules.proofs.Tests.{cond_false}
use Rattle.executive.specs.Found.{running_task}
use Rattle.executive.proofs.Found.{found-none}

pub chosen-idle : (s : State) → running_task s ≡ None → step answer.Idle s ≡ chosen s
unfolding chosen
chosen-idle s e = sym (cond_false (some_runs s) _ _ (found-none (some_runs s) (running s) e))

module _ (s : State) (i : ℕ) (e : running_task s ≡ Some i) where
  pub chosen-started : waiting (phase_of s i) ≡ true → step (answer.Running i) (started_at s i) ≡ chosen s
  unfolding chosen
  chosen-started w = let q = cond_some (some_runs s) (running s) i e in rw (q.0, q.1, w) refl

  pub chosen-resumed : waiting (phase_of s i) ≡ false → step (answer.Running i) s ≡ chosen s
  unfolding chosen
  chosen-resumed w = let q = cond_some (some_runs s) (running s) i e in rw (q.0, q.1, w) refl

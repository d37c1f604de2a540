-- The count of the sampling rule names the last job in view: it is one more than that job's number, and 0 where no job is in view.
use mathlib.Core.Path.{◌≡◌, ◌∙◌, ap}
use mathlib.Core.Bool.{cond}
use mathlib.Core.List.{List}
use Prim.Native.Nat.{ℕ, suc, ◌≤◌, ◌<◌}
use mathlib.Core.Logic.{⊎_elim}
use native.Mathlib.Omega.{arith}
use lib.ListN.{length}
use Rattle.rules.specs.declared.State.{State}
use Rattle.rules.specs.Views.{period, deadline, sender, undelayed}
use Rattle.rules.specs.Sampling.{said}
use Rattle.rules.specs.Runs.{counted}
use Rattle.rules.proofs.Tests.{lt_or}
use Rattle.rules.proofs.Sampling.{up_to-counts, up_to-counted, none_up_to}
use Rattle.demands.specs.Demands.{InView, Named}

module _ (s : State) (c r : ℕ) (pos : 0 < period s (sender s c)) where
  -- what is added to a dispatch
  abbrev d : ℕ
  d = cond (undelayed s c) 0 (deadline s (sender s c))

  counted-last : (j : ℕ) → InView s c r j → ((l : ℕ) → InView s c r l → l ≤ j) → counted s c r ≡ suc j
  counted-last j h most =
      ⊎_elim (λ more. absurd (omega (arith, most (suc j) (up_to-counted (period s (sender s c)) d r pos (suc j) more))))
      (λ le. omega (arith, up_to-counts (period s (sender s c)) d r pos j h))
      (lt_or (suc j) (counted s c r))

  pub counted-named : (ws : List ℕ) (v : ℕ) → counted s c r ≤ length ws → v ≡ said ws (counted s c r) → Named s c r ws v
  counted-named ws v le e = record {
    last = λ j h most. let n = counted-last j h most in (omega arith, e ∙ ap (said ws) n);
    none = λ no. e ∙ ap (said ws) (none_up_to (period s (sender s c)) d r pos no);
  }

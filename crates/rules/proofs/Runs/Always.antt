-- What holds beside the sampling rule, through a whole run from an accepted fresh start: the state stays in range, so that no call is
-- refused by 16, and before a miss whoever runs is started.
use mathlib.Core.Path.{◌≡◌}
use mathlib.Core.Bool.{true, false}
use mathlib.Core.List.{List, [], ◌∷◌}
use Rattle.rules.specs.declared.State.{State}
use Rattle.rules.specs.Range.{in_range}
use Rattle.rules.specs.Runs.{Call, tick, complete, Moment, start, next, after}
use Rattle.rules.proofs.Calls.{tick_keeps_range, complete_keeps_range}
use Rattle.rules.proofs.Runs.Choice.{Settled}
use Rattle.rules.proofs.Runs.Invariant.{Planned, run_invariant}

after-in_range : (cs : List Call) (m : Moment) → in_range m.state ≡ true → in_range (after m cs).state ≡ true
after-in_range [] m e = e
after-in_range (tick ∷ cs) m e = after-in_range cs (next m tick) (tick_keeps_range m.state e)
after-in_range (complete w ∷ cs) m e = after-in_range cs (next m (complete w)) (complete_keeps_range m.state w e)

module _ (s : State) (pl : Planned s) where
  pub always_in_range : (cs : List Call) → in_range (after (start s) cs).state ≡ true
  always_in_range cs = after-in_range cs (start s) pl.in_range

  pub always_settled : (cs : List Call) → (after (start s) cs).state.halted ≡ false → Settled (after (start s) cs).state
  always_settled cs h = (run_invariant s pl cs h).settled

-- A comparison of phases is the rules' test.
use mathlib.Core.Path.{◌≡◌, refl}
use denote.Enum.Bare.{sameb}
use Rattle.rules.specs.Views.{idle, waiting}
use Rattle.rules.specs.contracts.Phase.{the_type}
use Rattle.rules.specs.declared.Phase.{Phase}
use Rattle.rules.specs.declared.Phase.TheVariants as phase

pub same-idle : (p : Phase) → sameb the_type p phase.Idle ≡ idle p
same-idle phase.Idle = refl
same-idle phase.Waiting = refl
same-idle phase.Started = refl

pub same-waiting : (p : Phase) → sameb the_type p phase.Waiting ≡ waiting p
same-waiting phase.Idle = refl
same-waiting phase.Waiting = refl
same-waiting phase.Started = refl

-- Tick and completion on any state: "Tick and completion test 16, 15, 14 in that order"; "a refused tick or completion returns
-- the state it was given".
use Rattle.std.specs.Prelude.{Bool, cond, ℕ}
use Rattle.rules.specs.Range.{in_range}
use Rattle.rules.specs.Steps.{step, ticking, completing}
use Rattle.rules.specs.declared.State.{State}
use Rattle.rules.specs.declared.Step.{Step}
use Rattle.rules.specs.declared.Answer.TheVariants as answer
use Rattle.rules.specs.declared.Refusal.TheVariants.{Halted, OutOfRange}

unfoldable pub judged : Bool → Bool → State → Step → Step
judged ranged halted s r = cond ranged (cond halted (step (answer.Refused Halted) s) r) (step (answer.Refused OutOfRange) s)

abbrev pub tick_of : State → Step
tick_of s = judged (in_range s) s.halted s (ticking s)

abbrev pub complete_of : State → ℕ → Step
complete_of s w = judged (in_range s) s.halted s (completing s w)

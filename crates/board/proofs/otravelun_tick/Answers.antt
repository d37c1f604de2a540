-- A tick keeps the plan, and its answer fits its number.
use Rattle.std.proofs.Common.{rules}
use Rattle.rules.specs.Answers.{StepIs}
use Rattle.rules.specs.Calls.{tick_of}
use Rattle.rules.specs.Steps.{step}
use Rattle.rules.proofs.Answers.{step_is}
use Rattle.rules.proofs.Calls.{tick_kept}
use Rattle.board.proofs.Narrow.{tick_narrow}
use Rattle.board.proofs.CallLaws.{keeps, calls_to}
use Rattle.board.proofs.otravelun_tick.Goals as goal

pub called-requires-clause-keeps : goal.called-requires-clause-keeps
called-requires-clause-keeps c = λ s a z said.
    let w : StepIs (tick_of s) (step a z) = search rules in
    keeps tick_of s a z (tick_kept s) (tick_narrow s) (step_is (tick_of s) (step a z) w)

pub returns : goal.returns
returns c =
    calls_to tick_of _ _ _ _ (λ s a z said. let w : StepIs (tick_of s) (step a z) = search rules in step_is (tick_of s) (step a z) w) c.called.ensures

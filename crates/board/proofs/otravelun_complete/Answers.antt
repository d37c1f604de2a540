-- A completion keeps the plan, and its answer fits its number.
use Rattle.std.proofs.Common.{rules}
use Rattle.rules.specs.Answers.{StepIs}
use Rattle.rules.specs.Calls.{complete_of}
use Rattle.rules.specs.Steps.{step}
use Rattle.rules.proofs.Answers.{step_is}
use Rattle.rules.proofs.Calls.{complete_kept}
use Rattle.board.proofs.Narrow.{complete_narrow}
use Rattle.board.proofs.CallLaws.{keeps, calls_to}
use Rattle.board.proofs.otravelun_complete.Goals as goal

pub called-requires-clause-keeps : goal.called-requires-clause-keeps
called-requires-clause-keeps c = λ s a z said.
    let w : StepIs (complete_of s c.args.word) (step a z) = search rules in
    keeps (λ z. complete_of z c.args.word) s a z (complete_kept s c.args.word) (complete_narrow s c.args.word) (step_is (complete_of s c.args.word) (step a z) w)

pub returns : goal.returns
returns c =
    calls_to (λ z. complete_of z c.args.word) _ _ _ _ (λ s a z said. let w : StepIs (complete_of s c.args.word) (step a z) = search rules in step_is (complete_of s c.args.word) (step a z) w) c.called.ensures

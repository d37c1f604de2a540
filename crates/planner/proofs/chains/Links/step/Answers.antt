use Rattle.planner.proofs.Rounds.{step-none}
use Rattle.planner.proofs.chains.Links.step.Goals as goal

pub loop-c-init : goal.loop-c-init
loop-c-init c = step-none _ _

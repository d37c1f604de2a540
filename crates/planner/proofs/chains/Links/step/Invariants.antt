-- The marks made so far are the ends of the rows that were passed and begin at a marked task.
use Rattle.planner.proofs.Rounds.{StepSoFar}
use Rattle.planner.proofs.chains.Links.step.Given as goal

abbrev pub invariant-loop-c : goal.invariant-loop-c
invariant-loop-c l = StepSoFar l.self.connections.now l.marks l.c l.next

-- The multiple is the least of the periods that were passed.
use Rattle.planner.proofs.Multiples.{MultipleSoFar}
use Rattle.planner.proofs.multiple.multiple_of.Given as goal

abbrev pub invariant-loop-i : goal.invariant-loop-i
invariant-loop-i l = MultipleSoFar l.tasks l.i l.multiple

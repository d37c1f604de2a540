-- The number tried is a multiple of the larger, and the smaller divides none below it.
use Rattle.std.proofs.Common.{◌≡◌}
use Rattle.planner.proofs.Multiples.{Trying}
use Rattle.planner.proofs.multiple.multiple_of_two.Given as goal

abbrev pub invariant-loop-multiple : goal.invariant-loop-multiple
invariant-loop-multiple l = record { by : l.multiple-step ≡ l.larger; so_far : Trying l.larger l.smaller l.multiple }

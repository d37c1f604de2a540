-- The tasks below j are noted.
use Rattle.std.proofs.Common.{◌≡◌}
use Rattle.rules.specs.Counting.{map_below}
use Rattle.planner.specs.Rounds.{noted}
use Rattle.planner.proofs.chains.note.Given as goal

abbrev pub invariant-loop-j : goal.invariant-loop-j
invariant-loop-j l = l.best ≡ map_below (noted l.marks l.k) l.j l.initial.best

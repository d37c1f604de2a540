-- Both numbers are the least over the tasks that were passed.
use Rattle.std.proofs.Common.{◌≡◌}
use Rattle.planner.specs.Internal.{deadline_over, criticality_over}
use Rattle.planner.proofs.internal.Chained.numbers.Given as goal

abbrev pub invariant-loop-j : goal.invariant-loop-j
invariant-loop-j l = record {
  deadline_so_far : l.deadline ≡ deadline_over l.self.tasks.now l.self.chains.now l.i l.j;
  criticality_so_far : l.criticality ≡ criticality_over l.self.tasks.now l.self.chains.now l.i l.j;
}

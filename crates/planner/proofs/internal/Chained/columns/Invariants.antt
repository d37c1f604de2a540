-- The numbers of the tasks below i stand in their columns, and zeros past them.
use Rattle.std.proofs.Common.{◌≡◌}
use Rattle.rules.specs.Sizes.{most_tasks}
use Rattle.rules.specs.Tables.{count}
use Rattle.rules.specs.Counting.{column}
use Rattle.planner.specs.Internal.{deadline_over, criticality_over}
use Rattle.planner.proofs.internal.Chained.columns.Given as goal

abbrev pub invariant-loop-i : goal.invariant-loop-i
invariant-loop-i l = record {
  deadlines_so_far : l.deadlines ≡ column (λ q. deadline_over l.self.tasks.now l.self.chains.now q (count l.self.tasks.now)) l.i 0 most_tasks;
  criticalities_so_far : l.criticalities ≡ column (λ q. criticality_over l.self.tasks.now l.self.chains.now q (count l.self.tasks.now)) l.i 0 most_tasks;
}

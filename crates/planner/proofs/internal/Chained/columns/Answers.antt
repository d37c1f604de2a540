use Rattle.rules.specs.Sizes.{most_tasks}
use Rattle.rules.specs.Tables.{count}
use Rattle.planner.specs.Internal.{deadline_over, criticality_over}
use Rattle.planner.proofs.Stored.{column-turn}
use Rattle.planner.proofs.internal.Chained.columns.Goals as goal

pub loop-i-preserved : goal.loop-i-preserved
loop-i-preserved c =
    let l = c.loop-i in
    let tw = c.args.self.tasks.now in
    let sq = c.args.self.chains.now in
    record {
      deadlines_so_far =
          column-turn (λ q. deadline_over tw sq q (count tw)) l.i 0 most_tasks _ _ l.invariant.deadlines_so_far
          c.numbers-numbers.ensures.deadline_is;
      criticalities_so_far =
          column-turn (λ q. criticality_over tw sq q (count tw)) l.i 0 most_tasks _ _ l.invariant.criticalities_so_far
          c.numbers-numbers.ensures.criticality_is;
    }

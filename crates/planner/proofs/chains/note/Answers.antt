use Rattle.std.proofs.Common.{sym, ◌∙◌}
use Rattle.rules.proofs.Tests.{cond_true, cond_false}
use Rattle.rules.proofs.Counting.{map_below-turn, map_below-skip}
use Rattle.planner.specs.Rounds.{noted}
use Rattle.planner.proofs.chains.note.Goals as goal
use Rattle.planner.proofs.chains.note.Goals.{then-marked, else-marked}

pub loop-j-preserved : goal.loop-j-preserved
loop-j-preserved c =
    let f = noted c.args.marks.now c.args.k in
    let so = c.loop-j.invariant in
    elim c.if-marked.branch [
      | then-marked w ↦ w.best-is ∙ map_below-turn f c.loop-j.j _ _ 0 _ so (sym (cond_true _ _ _ w.if-marked.true))
      | else-marked w ↦ w.best-is ∙ map_below-skip f c.loop-j.j _ _ 0 so (cond_false _ _ _ w.if-marked.false)
    ]

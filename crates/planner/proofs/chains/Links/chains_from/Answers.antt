use Rattle.std.proofs.Common.{false, arith}
use Rattle.rules.specs.Chains.{Link}
use Rattle.rules.proofs.Tests.{true_false}
use Rattle.planner.proofs.Rounds.{rounds_none, rounds_more, rounds_over, link_ends}
use Rattle.planner.proofs.chains.Links.chains_from.Goals as goal

pub loop-k-init : goal.loop-k-init
loop-k-init c = rounds_none _ _ c.requires

pub loop-k-preserved : goal.loop-k-preserved
loop-k-preserved c = rounds_more _ _ _ _ _ _ _ c.loop-k.invariant c.step-marks.ensures c.note.ensures

pub returns-then-not-contains : goal.returns-then-not-contains
returns-then-not-contains c = λ j h.
    let a = c.args in
    let l = c.loop-k in
    rounds_over (Link a.self.connections.now) a.i l.k l.marks c.step-marks.result l.best l.invariant c.step-marks.ensures
    (link_ends a.self.connections.now a.self.named)
    (λ m g on. true_false (rw on at (c.if-not-contains.ensures.cases m false (omega arith) (omega arith))))
    a.n j (omega arith) h

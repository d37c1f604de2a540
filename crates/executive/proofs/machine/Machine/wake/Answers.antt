use Rattle.std.proofs.Common.{◌≡◌, arith}
use mathlib.Core.Logic.{inl, inr}
use Rattle.rules.specs.Counting.{map_below}
use Rattle.rules.specs.Steps.{wakes, records}
use Rattle.executive.proofs.Copies.{with_phases, wake-turn}
use Rattle.executive.proofs.machine.Machine.wake.Goals as goal
use Rattle.executive.proofs.machine.Machine.wake.Goals.{then-marks-i, else-marks-i}

pub loop-i-preserved : goal.loop-i-preserved
loop-i-preserved c =
    let s = c.args.self.now.state.now in
    let l = c.loop-i in
    let e : l.state ≡ with_phases s (map_below (wakes s) l.i s.tasks) (map_below (records s) l.i s.dispatches) = l.invariant in
    wake-turn s l.i _ (c.requires.each l.i (omega arith)) l.state c.if-marks-i.state e
    (elim c.if-marks-i.branch [ then-marks-i w ↦ inl (w.if-marks-i.true, w.state-is) | else-marks-i w ↦ inr (w.if-marks-i.false, w.state-is) ])

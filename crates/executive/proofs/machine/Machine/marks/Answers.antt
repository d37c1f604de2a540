-- One division serves both marks (`same-remainder`).
use Rattle.std.proofs.Common.{arith, ap, refl}
use mathlib.Core.Bool.{◌&&◌}
use Rattle.rules.specs.Views.{period, deadline}
use Rattle.rules.specs.Steps.{falls, released}
use Rattle.executive.proofs.Marks.{telling-none, telling-turn}
use Rattle.executive.proofs.Remainders.{same-remainder}
use Rattle.executive.proofs.machine.Machine.marks.Goals as goal

pub loop-i-init : goal.loop-i-init
loop-i-init c = rw (c.none.ensures, c.none-2.ensures) (telling-none (falls c.args.self.now.state.now), telling-none (released c.args.self.now.state.now))

pub loop-i-preserved : goal.loop-i-preserved
loop-i-preserved c =
    let l = c.loop-i in
    let s = c.args.self.now.state.now in
    let few = c.args.self.now.fits.few in
    let same = ap (◌&&◌ s.ticked) (same-remainder s.cycle (deadline s l.i) (period s l.i) (c.args.self.now.fits.low l.i (omega arith)) (c.args.self.now.fits.within l.i (omega arith))) in
    rw (c.put.ensures, c.put-in-loop-i.ensures)
    (telling-turn (falls s) l.i l.marked.due _ (omega arith) l.invariant.0 same, telling-turn (released s) l.i l.marked.released _ (omega arith) l.invariant.1 refl)

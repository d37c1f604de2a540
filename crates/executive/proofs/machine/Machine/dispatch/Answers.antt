use Rattle.std.proofs.Common.{rules, ap, sym}
use Rattle.rules.specs.Steps.{dispatched}
use Rattle.executive.specs.Machine.{holding}
use Rattle.executive.proofs.Copies.{none-dispatched}
use Rattle.executive.proofs.machine.Machine.dispatch.Goals as goal

pub returns-then-marks : goal.returns-then-marks
unfolding dispatched
returns-then-marks c = search rules

pub returns-else-marks : goal.returns-else-marks
returns-else-marks c =
    let m = c.args.self.now in
    ap (holding m.state) (sym (none-dispatched m.state.now c.args.marks.now m.fits c.requires c.if-marks.false))

use Rattle.std.proofs.Common.{arith}
use Rattle.rules.specs.Tables.{criticality}
use Rattle.planner.specs.Internal.{between}
use Rattle.planner.proofs.Internals.{least_low}
use Rattle.planner.proofs.internal.Chained.numbers.Goals as goal

pub overflow_cast-result : goal.overflow_cast-result
overflow_cast-result c =
    let i = c.args.i in
    let tw = c.args.self.tasks.now in
    omega (
      arith,
      c.loop-j.invariant.criticality_so_far,
      (c.args.self.workable.sized i c.requires).criticality_high,
      least_low (criticality tw i) (between c.args.self.chains.now i) (criticality tw) c.loop-j.j,
    )

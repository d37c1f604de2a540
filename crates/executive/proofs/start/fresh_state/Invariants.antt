-- The columns of the tasks before `i` are filled, then those of the rows before `c`.
use Rattle.std.proofs.Common.{◌≡◌}
use Rattle.rules.specs.Tables.{count}
use Rattle.executive.proofs.Filled.{filled}
use Rattle.executive.proofs.start.fresh_state.Given as goal

abbrev pub invariant-loop-i : goal.invariant-loop-i
invariant-loop-i l = l.state ≡ filled l.tasks l.connections l.fn.plan l.i 0

abbrev pub invariant-loop-c : goal.invariant-loop-c
invariant-loop-c l = l.state ≡ filled l.tasks l.connections l.fn.plan (count l.tasks) l.c

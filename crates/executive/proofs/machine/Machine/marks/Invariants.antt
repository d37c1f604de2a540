-- The tasks before `i` have their marks, and `any` says whether there is one.
use Rattle.rules.specs.Steps.{falls, released}
use Rattle.executive.proofs.Marks.{Telling}
use Rattle.executive.proofs.machine.Machine.marks.Given as goal

abbrev pub invariant-loop-i : goal.invariant-loop-i
invariant-loop-i l = Telling (falls l.state) l.i l.marked.due × Telling (released l.state) l.i l.marked.released

-- With no byte kept nothing is printed; else the line's answer.
use Rattle.std.proofs.Common.{sym}
use Rattle.step.proofs.Turns.{finish_none, finish_line}
use Rattle.step.proofs.serving.Desk.finish.Goals as goal

pub returns-then-is_empty-clause-finishes : goal.returns-then-is_empty-clause-finishes
returns-then-is_empty-clause-finishes c = finish_none _ _ _ (sym c.if-is_empty.ensures)

pub returns-clause-finishes : goal.returns-clause-finishes
returns-clause-finishes c =
    rw (finish_line c.args.self.now.state c.args.self.now.line (sym c.if-is_empty.ensures)) (rw c.asked.ensures at c.obey.ensures).line

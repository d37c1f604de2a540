-- Who is dispatched is the same once the outputs are delivered.
use Rattle.rules.specs.Steps.{released, delivered}
use Rattle.rules.specs.declared.State.{State}
use Rattle.executive.specs.Marks.{Tells}
use Rattle.executive.specs.declared.deadlines.Marks.{Marks}

pub freed-kept : (s : State) (m : Marks) → Tells s released m → Tells (delivered s) released m
unfolding delivered
freed-kept s m t = record { each = t.each; some = t.some }

-- What a step leaves of a lent state: the state behind the same reference is the one after it.
use Rattle.std.specs.Borrow.{MutBor}
use Rattle.rules.specs.declared.Answer.{Answer}
use Rattle.rules.specs.declared.Step.{Step}
use Rattle.rules.specs.declared.State.{State}

abbrev pub holding : MutBor State → State → MutBor State
holding lent s = record lent { now = s }

abbrev pub after : (State → State) → MutBor State → MutBor State
after f lent = holding lent (f lent.now)

-- with the answer, of a step that gives one
abbrev pub stepped : (State → Step) → MutBor State → Answer × MutBor State
stepped f lent = let r = f lent.now in (r.answer, holding lent r.state)

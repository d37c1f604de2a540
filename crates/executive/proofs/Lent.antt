-- A step on a lent state, and what it comes to once the state is given back.
use mathlib.Core.Path.{◌≡◌, ap, sym}
use Rattle.std.specs.Borrow.{MutBor}
use Rattle.rules.specs.Steps.{step}
use Rattle.rules.specs.declared.Answer.{Answer}
use Rattle.rules.specs.declared.Step.{Step}
use Rattle.rules.specs.declared.State.{State}
use Rattle.executive.specs.Machine.{holding, stepped}

pub stepping : (f : State → Step) (lent : MutBor State) (a : Answer) (z : State) → step a z ≡ f lent.now → (a, holding lent z) ≡ stepped f lent
stepping f lent a z e = ap (λ (r : Step). (r.answer, holding lent r.state)) e

module _ (f : State → Step) (lent new : MutBor State) (a : Answer) (e : (a, new) ≡ stepped f lent) where
  pub same_reference : lent.ghost_name ≡ new.ghost_name
  same_reference = sym (ap (λ (p : Answer × MutBor State). p.1.ghost_name) e)

  -- the lent state ends as the one behind the reference
  pub given_back : (z : State) → z ≡ new.now → step a z ≡ f lent.now
  given_back z q = rw q (ap (λ (p : Answer × MutBor State). step p.0 p.1.now) e)

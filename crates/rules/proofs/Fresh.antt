-- Fresh start's statement admits one answer only: the planner's answer is one (`plan_one`), and the step follows it.
use mathlib.Core.Path.{◌≡◌, ap, sym, ◌∙◌}
use mathlib.Core.List.{List}
use Prim.Native.Nat.{ℕ}
use Rattle.rules.specs.Fresh.{start_of, FreshIs}
use Rattle.rules.specs.declared.Plan.{Plan}
use Rattle.rules.specs.declared.Step.{Step}
use Rattle.rules.proofs.Answers.{step_is}
use Rattle.rules.proofs.Plans.{plan_one}

pub fresh_one : (tw cw : List ℕ) (r q : Step) → FreshIs tw cw r → FreshIs tw cw q → r ≡ q
fresh_one tw cw r q a b =
    step_is _ r a.starts
    ∙ (ap (λ (p : Plan). start_of tw cw p p.verdict) (plan_one tw cw a.plan b.plan a.planned b.planned)
    ∙ sym (step_is _ q b.starts))

use Rattle.std.proofs.Common.{◌<◌, ℕ, arith, ap, sym, not, Some}
use denote.Enum.Bare.{sameb}
use Rattle.rules.specs.contracts.Phase.{the_type}
use Rattle.rules.specs.declared.Phase.TheVariants as phase
use Rattle.std.proofs.lemmas.List.{get_or-take, length-take}
use mathlib.Core.Path.{◌∙◌}
use Rattle.rules.specs.Views.{ordered, phase_of}
use Rattle.rules.specs.Steps.{busy}
use Rattle.executive.proofs.Found.{first-found, none-found}
use Rattle.executive.proofs.Phases.{same-idle}
use Rattle.executive.proofs.machine.Machine.running_task.Goals as goal

pub returns-then-ne : goal.returns-then-ne
returns-then-ne c =
    let s = c.args.self.now.state.now in
    let k = c.loop-task.task-index in
    let few : k < s.count = omega (arith, length-take s.count s.order) in
    let named = get_or-take s.count s.order k 0 few in
    let runs = ap not (sym (same-idle (phase_of s (ordered s k)))) ∙ (ap (λ (i : ℕ). not (sameb the_type (phase_of s i) phase.Idle)) (sym named) ∙ (sym c.ne.ensures ∙ c.if-ne.true)) in
    ap (λ (i : ℕ). Some i) named ∙ first-found (busy s) (ordered s) s.count k few c.loop-task.invariant runs

pub returns : goal.returns
returns c =
    let s = c.args.self.now.state.now in
    none-found (busy s) (ordered s) s.count (λ j h. c.loop-task.invariant j (omega (arith, length-take s.count s.order)))

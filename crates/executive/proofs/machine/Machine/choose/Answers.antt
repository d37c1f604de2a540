use Rattle.std.proofs.Common.{sym}
use mathlib.Core.Path.{◌∙◌}
use Rattle.rules.specs.Views.{phase_of}
use Rattle.rules.specs.Steps.{chosen}
use Rattle.executive.proofs.Choices.{chosen-idle, chosen-started, chosen-resumed}
use Rattle.executive.proofs.Lent.{stepping}
use Rattle.executive.proofs.Phases.{same-waiting}
use Rattle.executive.proofs.machine.Machine.choose.Goals as goal

pub returns-in_default : goal.returns-in_default
returns-in_default c =
    let lent = c.args.self.now.state in
    stepping chosen lent _ _ (chosen-idle lent.now (sym c.running_task.ensures ∙ c.in_default.is))

pub returns-then-eq : goal.returns-then-eq
returns-then-eq c =
    let lent = c.args.self.now.state in
    let i = c.in-Some.task in
    let waits = sym (same-waiting (phase_of lent.now i)) ∙ (sym c.eq.ensures ∙ c.if-eq.true) in
    rw c.start.ensures (stepping chosen lent _ _ (chosen-started lent.now i (sym c.running_task.ensures ∙ c.in-Some.is) waits))

pub returns-else-eq : goal.returns-else-eq
returns-else-eq c =
    let lent = c.args.self.now.state in
    let i = c.in-Some.task in
    let waits = sym (same-waiting (phase_of lent.now i)) ∙ (sym c.eq.ensures ∙ c.if-eq.false) in
    stepping chosen lent _ _ (chosen-resumed lent.now i (sym c.running_task.ensures ∙ c.in-Some.is) waits)

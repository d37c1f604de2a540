-- The task that is found to run ends, and the choice is made on the state without it.
use Rattle.std.proofs.Common.{ap, sym, ℕ}
use mathlib.Core.Path.{◌∙◌}
use Rattle.std.proofs.lemmas.Option.{cond_some}
use Rattle.rules.specs.Steps.{some_runs, running, chosen, ended_at, completing}
use Rattle.rules.specs.declared.State.{State}
use Rattle.rules.proofs.Steps.{completing-none, completing-on}
use Rattle.executive.specs.Machine.{stepped}
use Rattle.executive.proofs.Found.{found-none}
use Rattle.executive.proofs.Lent.{stepping}
use Rattle.executive.proofs.machine.Machine.complete.Goals as goal

pub returns-in_default : goal.returns-in_default
returns-in_default c =
    let lent = c.args.self.now.state in
    let s = lent.now in
    stepping (λ (z : State). completing z c.args.word) lent _ _
    (sym (completing-none s c.args.word (found-none (some_runs s) (running s) (sym c.running_task.ensures ∙ c.in_default.is))))

pub returns : goal.returns
returns c =
    let lent = c.args.self.now.state in
    let s = lent.now in
    let q = cond_some (some_runs s) (running s) c.in-Some.task (sym c.running_task.ensures ∙ c.in-Some.is) in
    c.choose.ensures
    ∙ (ap (stepped chosen) c.end.ensures
    ∙ stepping (λ (z : State). completing z c.args.word) lent _ _
    (ap (λ (k : ℕ). chosen (ended_at s k c.args.word)) (sym q.1) ∙ sym (completing-on s c.args.word q.0)))

-- Steps 1 to 5 in their order, each the rules' own.
use Rattle.std.proofs.Common.{◌≡◌, true, false, ap, sym, ℕ, ltb-true}
use mathlib.Core.Path.{◌∙◌}
use Rattle.std.proofs.lemmas.Option.{cond_some}
use lib.Dec.{ltb}
use Rattle.std.specs.Borrow.{MutBor}
use Rattle.rules.specs.Views.{set_halted}
use Rattle.rules.specs.Steps.{step, missing, delivered, dispatched, chosen, advanced, ticking}
use Rattle.rules.specs.declared.Answer.{Answer}
use Rattle.rules.specs.declared.Answer.TheVariants as answer
use Rattle.rules.specs.declared.Step.{Step}
use Rattle.rules.specs.declared.State.{State}
use Rattle.rules.proofs.Steps.{ticking-missed}
use Rattle.rules.proofs.Tests.{cond_false}
use Rattle.executive.specs.Machine.{after, stepped}
use Rattle.executive.proofs.Found.{found-none}
use Rattle.executive.proofs.Kept.{freed-kept}
use Rattle.executive.proofs.Lent.{stepping}
use Rattle.executive.proofs.machine.Machine.tick.Goals as goal

-- the state once the words are copied
abbrev exchanged : State → State
exchanged s = dispatched (delivered s)

-- step 5 behind step 4
abbrev advancing : Step → Step
advancing r = step r.answer (advanced r.state)

on : (s : State) → ltb (missing s) s.count ≡ false → advancing (chosen (exchanged s)) ≡ ticking s
unfolding ticking
on s e = sym (cond_false (ltb (missing s) s.count) _ _ e)

-- steps 2 to 4 on the lent state
chosen-of : (lent copied sent new : MutBor State) (a : Answer) → copied ≡ after delivered lent → sent ≡ after dispatched copied →
    (a, new) ≡ stepped chosen sent → (a, new) ≡ stepped (λ s. chosen (exchanged s)) lent
chosen-of lent copied sent new a d e c = c ∙ ap (stepped chosen) (e ∙ ap (after dispatched) d)

pub returns-in-Some : goal.returns-in-Some
returns-in-Some c =
    let lent = c.args.self.now.state in
    let s = lent.now in
    let q = cond_some (ltb (missing s) s.count) (missing s) c.in-Some.task (sym c.missing_task.ensures ∙ c.in-Some.is) in
    stepping ticking lent _ _
    (ap (λ (i : ℕ). step (answer.Missed i) (set_halted s true)) (sym q.1) ∙ sym (ticking-missed s (ltb-true _ _ q.0)))

pub dispatch-requires : goal.dispatch-requires
dispatch-requires c = rw c.deliver.ensures (freed-kept c.args.self.now.state.now _ c.marks-marked.ensures.released)

pub returns : goal.returns
returns c =
    let lent = c.args.self.now.state in
    let s = lent.now in
    let none = found-none (ltb (missing s) s.count) (missing s) (sym c.missing_task.ensures ∙ c.in_default.is) in
    let took = chosen-of lent _ _ _ _ c.deliver.ensures c.dispatch.ensures c.choose-answer.ensures in
    ap (λ (z : MutBor State). (c.choose-answer.result, z)) c.advance.ensures
    ∙ (ap (λ (p : Answer × MutBor State). (p.0, after advanced p.1)) took ∙ stepping ticking lent _ _ (on s none))

use Rattle.std.proofs.Common.{rules, ◌≡◌, refl}
use mathlib.Core.Logic.{inl, inr}
use Rattle.rules.specs.Counting.{map_below}
use Rattle.rules.specs.Views.{set_inputs}
use Rattle.rules.specs.Steps.{takes, started_at}
use Rattle.rules.specs.declared.State.{State}
use Rattle.executive.proofs.Columns.{state-turn}
use Rattle.executive.proofs.machine.Machine.start.Goals as goal
use Rattle.executive.proofs.machine.Machine.start.Goals.{then-state-c, else-state-c}

pub loop-c-preserved : goal.loop-c-preserved
loop-c-preserved c =
    let s = c.args.self.now.state.now in
    let l = c.loop-c in
    let e : l.state ≡ set_inputs s (map_below (takes s c.args.task) l.c s.inputs) = l.invariant in
    state-turn (λ (z : State). z.inputs) set_inputs s (takes s c.args.task) l.c _ _ 0 (λ _. refl) (λ _ _. refl) l.state c.if-state-c.state e (rw e refl)
    (elim c.if-state-c.branch [ then-state-c w ↦ inl (w.if-state-c.true, w.state-is) | else-state-c w ↦ inr (w.if-state-c.false, w.state-is) ])

pub returns : goal.returns
unfolding started_at
returns c = search rules

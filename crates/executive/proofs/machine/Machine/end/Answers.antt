use Rattle.std.proofs.Common.{rules, ◌≡◌, refl}
use mathlib.Core.Logic.{inl, inr}
use Rattle.rules.specs.Counting.{map_below}
use Rattle.rules.specs.Views.{set_buffers}
use Rattle.rules.specs.Steps.{posts, ended_at}
use Rattle.rules.specs.declared.State.{State}
use Rattle.executive.proofs.Columns.{state-turn}
use Rattle.executive.proofs.machine.Machine.end.Goals as goal
use Rattle.executive.proofs.machine.Machine.end.Goals.{then-state-c, else-state-c}

pub loop-c-preserved : goal.loop-c-preserved
loop-c-preserved c =
    let s = c.args.self.now.state.now in
    let l = c.loop-c in
    let e : l.state ≡ set_buffers s (map_below (posts s c.args.task c.args.word) l.c s.buffers) = l.invariant in
    state-turn (λ (z : State). z.buffers) set_buffers s (posts s c.args.task c.args.word) l.c _ _ 0 (λ _. refl) (λ _ _. refl) l.state c.if-state-c.state e (rw e refl)
    (elim c.if-state-c.branch [ then-state-c w ↦ inl (w.if-state-c.true, w.state-is) | else-state-c w ↦ inr (w.if-state-c.false, w.state-is) ])

pub returns : goal.returns
unfolding ended_at
returns c = search rules

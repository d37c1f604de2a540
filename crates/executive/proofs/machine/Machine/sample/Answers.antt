-- A row is copied where the mark of its task is set.
use Rattle.std.proofs.Common.{◌≡◌, refl, ap, sym, Bool, not, cond, ◌&&◌, get_or, arith}
use mathlib.Core.Logic.{inl, inr}
use Rattle.rules.specs.Counting.{map_below}
use Rattle.rules.specs.Views.{receiver, buffer, undelayed, set_inputs}
use Rattle.rules.specs.Steps.{samples}
use Rattle.rules.specs.declared.State.{State}
use Rattle.executive.specs.Marks.{marked}
use Rattle.executive.proofs.Columns.{state-turn}
use Rattle.executive.proofs.machine.Machine.sample.Goals as goal
use Rattle.executive.proofs.machine.Machine.sample.Goals.{then-state-c, else-state-c}

pub loop-c-preserved : goal.loop-c-preserved
loop-c-preserved c =
    let s = c.args.self.now.state.now in
    let l = c.loop-c in
    let marks = c.args.marks.now in
    let told = c.requires.each (receiver s l.c) (c.args.self.now.fits.receives l.c (omega arith)) in
    let same : samples s l.c (get_or s.inputs l.c 0) ≡ cond (not (undelayed s l.c) && marked marks.tasks (receiver s l.c)) (buffer s l.c) (get_or s.inputs l.c 0) =
    ap (λ (b : Bool). cond (not (undelayed s l.c) && b) (buffer s l.c) (get_or s.inputs l.c 0)) (sym told) in
    let e : l.state ≡ set_inputs s (map_below (samples s) l.c s.inputs) = l.invariant in
    state-turn (λ (z : State). z.inputs) set_inputs s (samples s) l.c _ _ 0 (λ _. refl) (λ _ _. refl) l.state c.if-state-c.state e (rw e same)
    (elim c.if-state-c.branch [ then-state-c w ↦ inl (w.if-state-c.true, w.state-is) | else-state-c w ↦ inr (w.if-state-c.false, w.state-is) ])

-- A row is copied where the mark of its task is set.
use Rattle.std.proofs.Common.{◌≡◌, refl, ap, sym, Bool, not, cond, ◌&&◌, get_or, arith, rules}
use mathlib.Core.Logic.{inl, inr}
use Rattle.rules.specs.Counting.{map_below}
use Rattle.rules.specs.Views.{sender, output, undelayed, set_buffers}
use Rattle.rules.specs.Steps.{delivers, delivered}
use Rattle.rules.specs.declared.State.{State}
use Rattle.executive.specs.Machine.{holding}
use Rattle.executive.specs.Marks.{marked}
use Rattle.executive.proofs.Columns.{state-turn}
use Rattle.executive.proofs.Copies.{none-delivered}
use Rattle.executive.proofs.machine.Machine.deliver.Goals as goal
use Rattle.executive.proofs.machine.Machine.deliver.Goals.{then-state-c, else-state-c}

pub loop-c-preserved : goal.loop-c-preserved
loop-c-preserved c =
    let s = c.args.self.now.state.now in
    let l = c.loop-c in
    let marks = c.args.marks.now in
    let told = c.requires.each (sender s l.c) (c.args.self.now.fits.sends l.c (omega arith)) in
    let same : delivers s l.c (get_or s.buffers l.c 0) ≡ cond (not (undelayed s l.c) && marked marks.tasks (sender s l.c)) (output s (sender s l.c)) (get_or s.buffers l.c 0) =
    ap (λ (b : Bool). cond (not (undelayed s l.c) && b) (output s (sender s l.c)) (get_or s.buffers l.c 0)) (sym told) in
    let e : l.state ≡ set_buffers s (map_below (delivers s) l.c s.buffers) = l.invariant in
    state-turn (λ (z : State). z.buffers) set_buffers s (delivers s) l.c _ _ 0 (λ _. refl) (λ _ _. refl) l.state c.if-state-c.state e (rw e same)
    (elim c.if-state-c.branch [ then-state-c w ↦ inl (w.if-state-c.true, w.state-is) | else-state-c w ↦ inr (w.if-state-c.false, w.state-is) ])

pub returns : goal.returns
unfolding delivered
returns c = search rules

pub returns-then-not-marks : goal.returns-then-not-marks
returns-then-not-marks c =
    let m = c.args.self.now in
    ap (holding m.state) (sym (none-delivered m.state.now c.args.marks.now m.fits c.requires c.if-not-marks.true))

-- A task is seen exactly when some place names it, which is when it has a first place.
use Rattle.std.proofs.Common.{◌≡◌, refl, sym, ◌∙◌, ◌<◌, Bool, true, List, arith, rules, le-ltb, lt-ltb}
use Rattle.std.proofs.lemmas.List.{get_or-take, length-take, length-set}
use Rattle.rules.specs.Counting.{all_below}
use Rattle.rules.specs.Range.{place_fits, names, has_place, order_fits}
use Rattle.rules.specs.Views.{ordered}
use Rattle.rules.specs.declared.State.{State}
use Rattle.rules.proofs.Tests.{and_not_left, and_both}
use Rattle.rules.proofs.Counting.{all_below-same, all_below-fails, all_below-turn}
use Rattle.executive.specs.Marks.{marked}
use Rattle.executive.proofs.Marks.{MarkedBy, named_in, first_of-any, named_none, named_turn}
use Rattle.executive.proofs.range.order_fits.Goals as goal

fits : (s : State) (seen : List Bool) → all_below (place_fits s) s.count ≡ true → MarkedBy (named_in s s.count) seen →
    all_below (marked seen) s.count ≡ order_fits s
fits s seen e m =
    all_below-same (marked seen) (has_place s) s.count (λ i h. m i ∙ sym (first_of-any (names s i) s.count)) ∙ rw e

pub loop-task-init : goal.loop-task-init
loop-task-init c = (refl, refl, named_none c.args.state.now 32)

pub returns-then-state-task : goal.returns-then-state-task
returns-then-state-task c =
    let s = c.args.state.now in
    let k = c.loop-task.task-index in
    let few : k < s.count = omega (arith, length-take s.count s.order) in
    sym (and_not_left _ _ (all_below-fails (place_fits s) s.count k few (le-ltb (ordered s k) s.count (omega (arith, get_or-take s.count s.order k 0 few)))))

pub loop-task-preserved : goal.loop-task-preserved
loop-task-preserved c =
    let s = c.args.state.now in
    let l = c.loop-task in
    let k = l.task-index in
    let few : k < s.count = omega (arith, length-take s.count s.order) in
    let named = get_or-take s.count s.order k 0 few in
    let fits : ordered s k < s.count = omega (arith, named, c.if-state-task.false) in (
      length-set l.named _ true ∙ l.invariant.0,
      sym (sym (and_both _ _ l.invariant.1 (lt-ltb (ordered s k) s.count fits)) ∙ all_below-turn (place_fits s) k _ refl),
      rw named (named_turn s k l.named (omega (arith, l.invariant.0)) l.invariant.2),
    )

pub returns : goal.returns
returns c =
    let s = c.args.state.now in
    let l = c.loop-task in
    let e : l.task-index ≡ s.count = omega (arith, length-take s.count s.order) in
    c.all_fit.ensures (marked l.named) (λ i b h q. search rules) ∙ fits s l.named (rw e at l.invariant.1) (rw e at l.invariant.2)

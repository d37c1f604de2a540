-- Where no deadline falls none is missed; else the first mark of a task that is not idle tells.
use Rattle.std.proofs.Common.{◌≡◌, sym, ap, Bool, ℕ, true, false, not, rules, arith, tests}
use mathlib.Core.Bool.{◌&&◌}
use Rattle.std.proofs.lemmas.Iterator.{first_from_Range}
use Rattle.rules.specs.Views.{idle, phase_of}
use Rattle.executive.specs.Marks.{marked}
use mathlib.Core.Path.{◌∙◌}
use Rattle.rules.specs.Steps.{falls, late}
use Rattle.rules.proofs.Tests.{and_not_left}
use lib.Dec.{ltb}
use Rattle.executive.specs.Found.{found}
use Rattle.executive.proofs.Found.{none-found, first-matched}
use Rattle.executive.proofs.Phases.{same-idle}
use Rattle.rules.proofs.Counting.{first_of-same}
use Rattle.executive.proofs.Marks.{any_below-none}
use Rattle.executive.proofs.machine.Machine.missing_task.Goals as goal

pub returns-then-not-due : goal.returns-then-not-due
returns-then-not-due c =
    let s = c.args.self.now.state.now in
    let none = sym c.requires.some ∙ c.if-not-due.true in
    none-found (late s) (λ (i : ℕ). i) s.count (λ j h. and_not_left _ _ (any_below-none (falls s) s.count j none h))

pub returns : goal.returns
returns c =
    let s = c.args.self.now.state.now in
    let m = c.args.due.now in
    let marked_late = λ (i : ℕ). marked m.tasks i && not (idle (phase_of s i)) in
    let same = first_of-same marked_late (late s) s.count (λ i h. ap (λ (b : Bool). b && not (idle (phase_of s i))) (c.requires.each i h)) in
    first-matched marked_late s.count c.find.result
    (first_from_Range _ _ _ _ (λ i. marked_late i ≡ true) (λ i. marked_late i ≡ false) c.find.ensures.ran
    (λ x q k. grind (arith, tests, same-idle))
    (λ x q k. (search rules, grind (arith, tests, same-idle))))
    ∙ ap (λ (i : ℕ). found (ltb i s.count) i) same

-- Each statement of the boundary admits one answer only: the number and every lent word are determined by what was lent.
use mathlib.Core.Path.{◌≡◌, ap, sym, ◌∙◌}
use mathlib.Core.Bool.{Bool, true, false}
use mathlib.Core.List.{List}
use Prim.Native.Nat.{ℕ}
use lib.ListN.{length}
use lib.Dec.{leb}
use Rattle.rules.specs.Answers.{verdict_says, read_says}
use Rattle.rules.specs.declared.State.{State}
use Rattle.rules.specs.declared.Step.{Step}
use Rattle.rules.specs.declared.Plan.{Plan}
use Rattle.rules.proofs.Plans.{plan_one}
use Rattle.rules.proofs.Fresh.{fresh_one}
use Rattle.reader.proofs.ReadIs.{read_one}
use Rattle.board.specs.Codes.{coded}
use Rattle.board.specs.Layout.{plan_size, state_size}
use Rattle.board.specs.PlanWords.{planned_in}
use Rattle.board.specs.StateWords.{stored_in}
use Rattle.board.specs.Boundary.{ReadsTo, NoRoom, PlansTo, StartsTo, ByRoom, PlanTold, FreshTold, step_says, CallsTo}

pub reads_one : (file tasks connections : List ℕ) (r q : ℕ) (t u c d : List ℕ) → ReadsTo file tasks connections r t c →
    ReadsTo file tasks connections q u d → (r ≡ q) × (t ≡ u) × (c ≡ d)
reads_one file tasks connections r q t u c d a b =
    let w = read_one file tasks connections a.reading b.reading t u c d a.reads b.reads in
    (a.answer ∙ ap (λ x. coded (read_says x)) w.0 ∙ sym b.answer, w.1, w.2)

module _ (tw cw old : List ℕ) (r q : ℕ) (new next : List ℕ) where
  none_one : NoRoom old r new → NoRoom old q next → (r ≡ q) × (new ≡ next)
  none_one a b = (a.answer ∙ sym b.answer, a.words ∙ sym b.words)

  plans_one : PlansTo tw cw old r new → PlansTo tw cw old q next → (r ≡ q) × (new ≡ next)
  plans_one a b =
      let e = plan_one tw cw a.plan b.plan a.planned b.planned in
      (a.answer ∙ ap (λ (p : Plan). coded (verdict_says p.verdict)) e ∙ sym b.answer, a.words ∙ ap (planned_in old) e ∙ sym b.words)

  starts_one : StartsTo tw cw old r new → StartsTo tw cw old q next → (r ≡ q) × (new ≡ next)
  starts_one a b =
      let e = fresh_one tw cw a.step b.step a.started b.started in
      (a.answer ∙ ap (λ (x : Step). coded (step_says x)) e ∙ sym b.answer, a.words ∙ ap (λ (x : Step). stored_in old x.state) e ∙ sym b.words)

  -- with room and without
  room_one : (b : Bool) (X Y : ℕ → List ℕ → Type 0) → (X r new → X q next → (r ≡ q) × (new ≡ next)) →
      (Y r new → Y q next → (r ≡ q) × (new ≡ next)) → ByRoom b (X r new) (Y r new) → ByRoom b (X q next) (Y q next) → (r ≡ q) × (new ≡ next)
  room_one true X Y x y a b = x a b
  room_one false X Y x y a b = y a b

  pub plan_told_one : PlanTold tw cw old r new → PlanTold tw cw old q next → (r ≡ q) × (new ≡ next)
  plan_told_one = room_one (leb plan_size (length old)) (PlansTo tw cw old) (NoRoom old) plans_one none_one

  pub fresh_told_one : FreshTold tw cw old r new → FreshTold tw cw old q next → (r ≡ q) × (new ≡ next)
  fresh_told_one = room_one (leb state_size (length old)) (StartsTo tw cw old) (NoRoom old) starts_one none_one

pub calls_one : (call : State → Step) (old : List ℕ) (r q : ℕ) (new next : List ℕ) → CallsTo call old r new → CallsTo call old q next →
    (r ≡ q) × (new ≡ next)
calls_one call old r q new next a b = (a.answer ∙ sym b.answer, a.words ∙ sym b.words)

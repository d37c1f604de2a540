-- The planner's statement admits one answer only: `plan_one`. Accepted and refused shut each other out, a refusal is one number
-- and place, and the numbers of an accepted plan are one each.
use mathlib.Core.Path.{◌≡◌, refl, ap, sym, ◌∙◌, subst}
use mathlib.Core.Logic.{⊎_elim}
use mathlib.Core.List.{List}
use Prim.Native.Nat.{ℕ, ◌<◌}
use native.Mathlib.Omega.{arith}
use lib.ListN.{get_or}
use lib.Seq.{ext_get_or}
use Rattle.rules.specs.Tables.{count}
use Rattle.rules.specs.Order.{IsOrder}
use Rattle.rules.specs.Plan.{ZeroFrom, Accepts, Refuses, Judges, PlanIs, internal_deadline, internal_criticality}
use Rattle.rules.specs.declared.Plan.{Plan}
use Rattle.std.specs.Prelude.{Result, Ok, Err}
use Rattle.rules.specs.Answers.{number_of, place_of}
use Rattle.rules.specs.declared.Refusal.{Refusal}
use Rattle.rules.proofs.Tests.{lt_or}
use Rattle.rules.proofs.Answers.{refusal_one_of}
use Rattle.rules.proofs.Refusals.{refusal_one, refused-not_sound}
use Rattle.rules.proofs.Order.{deadline-one, criticality-one, multiple_one, order_one}

-- two columns that agree below n, with zeros from there on
pub zero_from_one : (n : ℕ) (a b : List ℕ) → ZeroFrom n a → ZeroFrom n b → ((p : ℕ) → p < n → get_or a p 0 ≡ get_or b p 0) → a ≡ b
zero_from_one n a b x y same =
    ext_get_or 0 a b (x.0 ∙ sym y.0) (λ p h. ⊎_elim (λ lt. same p lt) (λ ge. x.1 p ge ∙ sym (y.1 p ge)) (lt_or p n))

zeros_one : (a b : List ℕ) → ZeroFrom 0 a → ZeroFrom 0 b → a ≡ b
zeros_one a b x y = zero_from_one 0 a b x y (λ p h. absurd (omega arith))

module _ (tw cw : List ℕ) (r s : Plan) where
  accepts_one : r.verdict ≡ s.verdict → Accepts tw cw r → Accepts tw cw s → r ≡ s
  accepts_one same a b = λ i. record {
    verdict = same i;
    order = orders i;
    deadlines = deadlines i;
    criticalities = criticalities i;
    multiple = multiple_one tw r.multiple s.multiple a.multiple_is b.multiple_is i;
  }
    where
      deadlines : r.deadlines ≡ s.deadlines
      deadlines =
          zero_from_one (count tw) _ _ a.deadlines_past b.deadlines_past
          (λ p h. deadline-one tw cw p _ _ (a.deadlines_are p h) (b.deadlines_are p h))

      criticalities : r.criticalities ≡ s.criticalities
      criticalities =
          zero_from_one (count tw) _ _ a.criticalities_past b.criticalities_past
          (λ p h. criticality-one tw cw p _ _ (a.criticalities_are p h) (b.criticalities_are p h))

      OrderBy : List ℕ → List ℕ → Type 0
      OrderBy ds cs = IsOrder (count tw) (λ i. get_or ds i 0) (λ i. get_or cs i 0) r.order

      orders : r.order ≡ s.order
      orders =
          zero_from_one (count tw) _ _ a.order_past b.order_past
          (order_one (count tw) (internal_deadline s) (internal_criticality s) r.order s.order
          (subst (λ (x : List ℕ). OrderBy s.deadlines x) criticalities (subst (λ (x : List ℕ). OrderBy x r.criticalities) deadlines a.order_is))
          b.order_is)

  refuses_one : (f g : Refusal) → r.verdict ≡ Err f → s.verdict ≡ Err g → Refuses tw cw (number_of f) (place_of f) r → Refuses tw cw (number_of g) (place_of g) s → r ≡ s
  refuses_one f g er es a b = λ i. record {
    verdict = same i;
    order = zeros_one r.order s.order a.order_none b.order_none i;
    deadlines = zeros_one r.deadlines s.deadlines a.deadlines_none b.deadlines_none i;
    criticalities = zeros_one r.criticalities s.criticalities a.criticalities_none b.criticalities_none i;
    multiple = (a.multiple_none ∙ sym b.multiple_none) i;
  }
    where
      one : (number_of f ≡ number_of g) × (place_of f ≡ place_of g)
      one = refusal_one tw cw (number_of f) (place_of f) (number_of g) (place_of g) a.because b.because

      same : r.verdict ≡ s.verdict
      same = er ∙ ap Err (refusal_one_of f g one.0 one.1) ∙ sym es

  judges_one : (v w : Result (Unit {0}) Refusal) → r.verdict ≡ v → s.verdict ≡ w → Judges tw cw v r → Judges tw cw w s → r ≡ s
  judges_one (Ok x) (Ok y) er es a b = accepts_one (er ∙ sym es) a b
  judges_one (Ok x) (Err g) er es a b = absurd (refused-not_sound tw cw (number_of g) (place_of g) b.because a.sound)
  judges_one (Err f) (Ok y) er es a b = absurd (refused-not_sound tw cw (number_of f) (place_of f) a.because b.sound)
  judges_one (Err f) (Err g) er es a b = refuses_one f g er es a b

-- two answers that meet the planner's statement are the same answer
pub plan_one : (tw cw : List ℕ) (r s : Plan) → PlanIs tw cw r → PlanIs tw cw s → r ≡ s
plan_one tw cw r s a b = judges_one tw cw r s r.verdict s.verdict refl refl a b

-- It follows the planner's verdict, and tables that the planner accepts fit the columns.
use Rattle.std.proofs.Common.{◌≡◌, ap, ℕ, List, arith}
use Rattle.std.specs.Prelude.{Result, Ok, Err}
use Rattle.rules.specs.Answers.{StepIs}
use Rattle.rules.specs.Fresh.{fresh_state, halted_zeros, start_of}
use Rattle.rules.specs.Plan.{Accepts, Judges}
use Rattle.rules.specs.Steps.{step}
use Rattle.rules.specs.declared.Answer.TheVariants as answer
use Rattle.rules.specs.declared.Plan.{Plan}
use Rattle.rules.specs.declared.State.{State}
use Rattle.rules.specs.declared.Refusal.{Refusal}
use Rattle.rules.proofs.Answers.{step-refl}
use Rattle.rules.proofs.Refusals.{tables_of}
use Rattle.executive.specs.Start.{Tabled}
use Rattle.executive.proofs.fresh.Goals as goal

module _ (tw cw : List ℕ) (p : Plan) (v : Result (Unit {0}) Refusal) where
  accepted : (u : Unit {0}) → v ≡ Ok u → Judges tw cw v p → Accepts tw cw p
  accepted u e h = rw e at h

  starts-accepted : (u : Unit {0}) → v ≡ Ok u → (z : State) → z ≡ fresh_state tw cw p → StepIs (start_of tw cw p v) (step answer.Idle z)
  unfolding start_of
  starts-accepted u e z q = rw e (step-refl _ _ (ap (step answer.Idle) q))

  starts-refused : (f : Refusal) → v ≡ Err f → (z : State) → z ≡ halted_zeros → StepIs (start_of tw cw p v) (step (answer.Refused f) z)
  unfolding start_of
  starts-refused f e z q = rw e (step-refl _ _ (ap (step (answer.Refused f)) q))

-- what the planner accepts fits the columns
tabled : (tw cw : List ℕ) (p : Plan) → Accepts tw cw p → Tabled tw cw
tabled tw cw p a =
    let t = tables_of tw cw a.sound in
    let l = t.lengths in
    record {
      few = l.tasks_most;
      few_rows = l.rows_most;
      bytes = λ i h. (t.sizes i h).criticality_high;
      sends = λ c h. omega (arith, (t.joins c h).sender_task, l.tasks_most);
      receives = λ c h. omega (arith, (t.joins c h).receiver_task, l.tasks_most);
    }

pub fresh_state-requires : goal.fresh_state-requires
fresh_state-requires c =
    let p = c.plan-plan.result in
    let tw = c.args.tasks.now in
    let cw = c.args.connections.now in
    tabled tw cw p (accepted tw cw p p.verdict _ c.in-Ok.is c.plan-plan.ensures)

pub returns-in-Ok : goal.returns-in-Ok
returns-in-Ok c =
    let p = c.plan-plan.result in
    record {
      plan = p;
      planned = c.plan-plan.ensures;
      starts =
          starts-accepted c.args.tasks.now c.args.connections.now p p.verdict _ c.in-Ok.is c.fresh_state.result c.fresh_state.ensures;
    }

pub returns-in-Err : goal.returns-in-Err
returns-in-Err c =
    let p = c.plan-plan.result in
    record {
      plan = p;
      planned = c.plan-plan.ensures;
      starts =
          starts-refused c.args.tasks.now c.args.connections.now p p.verdict _ c.in-Err.is c.halted_zeros.result c.halted_zeros.ensures;
    }

-- 5 to 8 come in turn: 5 and 7 by the first place where each stands, 6 by the square of chains, 8 by the common multiple; and where
-- none stands, what is worked out is the plan.
use Rattle.std.proofs.Common.{◌≡◌, Some, None, arith}
use Rattle.std.proofs.lemmas.Option.{MatchOption-at_some, MatchOption-at_none}
use Rattle.std.proofs.lemmas.Result.{err_from_is_err_and}
use Rattle.rules.specs.declared.Refusal.TheVariants as refusal
use Rattle.planner.proofs.Stages.{all_joined, all_sized, all_workable, all_named, square_able, uneven_refused, circle_refused, raised_refused, over_refused, plan_accepted}
use Rattle.planner.proofs.plan_chains.Goals as goal

pub first_uneven-requires : goal.first_uneven-requires
first_uneven-requires c = all_joined c.args.tables c.requires

pub returns-in-Some : goal.returns-in-Some
returns-in-Some c = uneven_refused c.args.tables c.requires _ c.in-Some.ensures

pub invariant_of-links : goal.invariant_of-links
invariant_of-links c = record { named = all_named c.args.tables c.requires }

pub square-chains-requires : goal.square-chains-requires
square-chains-requires c = square_able c.args.tables c.requires _ c.count-count.ensures

pub returns-in-Some-first_circle : goal.returns-in-Some-first_circle
returns-in-Some-first_circle c =
    circle_refused c.args.tables c.requires _ c.count-count.ensures _ c.square-chains.ensures c.in_default.ensures _
    c.in-Some-first_circle.ensures

pub first_raised-requires : goal.first_raised-requires
first_raised-requires c = all_joined c.args.tables c.requires

pub returns-in-Some-first_raised : goal.returns-in-Some-first_raised
returns-in-Some-first_raised c =
    raised_refused c.args.tables c.requires _ c.count-count.ensures _ c.square-chains.ensures c.in_default.ensures
    c.in_default-first_circle.ensures _ c.in-Some-first_raised.ensures

pub multiple_of-requires : goal.multiple_of-requires
multiple_of-requires c = all_sized c.args.tables c.requires

pub returns-in_err-multiple : goal.returns-in_err-multiple
returns-in_err-multiple c =
    let none : c.multiple_of.result ≡ None = grind arith in
    let given : c.in_err-multiple.field-0.0 ≡ refusal.Multiple = grind arith in
    let p = err_from_is_err_and c.from_residual.result c.from_residual.ensures.1 in
    rw (p.1, p.2, given)
    (over_refused c.args.tables c.requires _ c.count-count.ensures _ c.square-chains.ensures c.in_default.ensures
    c.in_default-first_circle.ensures c.in_default-first_raised.ensures (MatchOption-at_none _ _ none c.multiple_of.ensures))

pub invariant_of-chained : goal.invariant_of-chained
invariant_of-chained c = record { workable = all_workable c.args.tables c.requires _ c.count-count.ensures _ c.square-chains.ensures }

pub returns : goal.returns
returns c =
    let found : c.multiple_of.result ≡ Some c.in_ok-multiple.multiple = grind arith in
    plan_accepted c.args.tables c.requires _ c.count-count.ensures _ c.square-chains.ensures c.in_default.ensures
    c.in_default-first_circle.ensures c.in_default-first_raised.ensures _ (MatchOption-at_some _ _ _ found c.multiple_of.ensures) _
    c.worked_out.ensures

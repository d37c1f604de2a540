-- Each column is that of its table, place by place.
use Rattle.std.proofs.Common.{◌≡◌, ap, arith}
use mathlib.Core.Path.{◌∙◌}
use Rattle.rules.specs.Tables.{count, rows}
use Rattle.rules.specs.Rows.{task_row_at, connection_row_at}
use Rattle.rules.specs.declared.State.{State}
use Rattle.executive.proofs.Filled.{filled, filled-none, filled-whole, begun, with_task, with_row, task-filled, row-filled}
use Rattle.executive.proofs.start.fresh_state.Goals as goal

pub loop-i-init : goal.loop-i-init
loop-i-init c =
    let tw = c.args.tasks.now in
    let cw = c.args.connections.now in
    ap (begun tw cw c.args.plan) c.at_rest-rest.ensures ∙ filled-none tw cw c.args.plan

pub loop-i-preserved : goal.loop-i-preserved
loop-i-preserved c =
    let tw = c.args.tasks.now in
    let cw = c.args.connections.now in
    let l = c.loop-i in
    let e : l.state ≡ filled tw cw c.args.plan l.i 0 = l.invariant in
    rw c.at-row.ensures
    (ap (λ (z : State). with_task tw cw c.args.plan z l.i (task_row_at tw l.i)) e ∙ task-filled tw cw c.args.plan l.i)

pub loop-c-preserved : goal.loop-c-preserved
loop-c-preserved c =
    let tw = c.args.tasks.now in
    let cw = c.args.connections.now in
    let l = c.loop-c in
    let e : l.state ≡ filled tw cw c.args.plan (count tw) l.c = l.invariant in
    rw c.at-row-in-loop-c.ensures
    (ap (λ (z : State). with_row tw cw c.args.plan z l.c (connection_row_at cw l.c)) e ∙ row-filled tw cw c.args.plan l.c)

pub returns : goal.returns
returns c =
    let tw = c.args.tasks.now in
    let cw = c.args.connections.now in
    let l = c.loop-c in
    let begun_rows : c.loop-i.state.rows ≡ rows cw = ap (λ (z : State). z.rows) c.loop-i.invariant in
    let whole : l.c ≡ rows cw = omega arith in
    let e : l.state ≡ filled tw cw c.args.plan (count tw) l.c = l.invariant in
    e ∙ (ap (filled tw cw c.args.plan (count tw)) whole ∙ filled-whole tw cw c.args.plan)

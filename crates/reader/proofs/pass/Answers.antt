-- The item that a turn finds, by the arm that it comes to, shows the room for its row, and that the invariant stands behind it.
use Rattle.std.proofs.Common.{sym, ap, ◌∙◌, arith, Ok}
use Rattle.std.proofs.lemmas.Result.{err_from_is_err_and}
use Rattle.rules.specs.File as file
use Rattle.rules.specs.Rows.{task_words_of, connection_words_of}
use Rattle.reader.specs.declared.Item as reader_item
use Rattle.reader.specs.Items.{item_is}
use Rattle.reader.proofs.Going.{shows, going_task, going_connection, pass_end, pass_refusal}
use Rattle.reader.proofs.pass.Goals as goal

pub put_row-requires : goal.put_row-requires
put_row-requires c =
    let e = sym (c.in_ok-row.ensures) ∙ ap (λ (x : reader_item.Item). item_is (Ok x)) c.in-Task.is in
    let s = shows c.loop-row.invariant (file.Item.task (task_words_of c.in-Task.row)) e in
    rw c.words.ensures (omega arith)

pub loop-row-preserved-in-Task : goal.loop-row-preserved-in-Task
loop-row-preserved-in-Task c =
    let e = sym (c.in_ok-row.ensures) ∙ ap (λ (x : reader_item.Item). item_is (Ok x)) c.in-Task.is in
    going_task c.loop-row.invariant (task_words_of c.in-Task.row) _ e (rw c.words.ensures at c.put_row.ensures) c.put_row.auto.table

pub put_row-requires-in-Connection : goal.put_row-requires-in-Connection
put_row-requires-in-Connection c =
    let e = sym (c.in_ok-row.ensures) ∙ ap (λ (x : reader_item.Item). item_is (Ok x)) c.in-Connection.is in
    let s = shows c.loop-row.invariant (file.Item.connection (connection_words_of c.in-Connection.row)) e in
    rw c.words-in-Connection.ensures (omega arith)

pub loop-row-preserved : goal.loop-row-preserved
loop-row-preserved c =
    let e = sym (c.in_ok-row.ensures) ∙ ap (λ (x : reader_item.Item). item_is (Ok x)) c.in-Connection.is in
    going_connection c.loop-row.invariant (connection_words_of c.in-Connection.row) _ e (rw c.words-in-Connection.ensures at c.put_row-in-Connection.ensures)
    c.put_row-in-Connection.auto.table

pub returns-in-End : goal.returns-in-End
returns-in-End c =
    pass_end c.loop-row.invariant (sym (c.in_ok-row.ensures) ∙ ap (λ (x : reader_item.Item). item_is (Ok x)) c.in-End.is)

pub returns-in_err-row : goal.returns-in_err-row
returns-in_err-row c =
    let p = err_from_is_err_and c.from_residual.result c.from_residual.ensures.1 in
    rw (p.1, p.2) (pass_refusal c.loop-row.invariant _ (sym (c.in_err-row.ensures)))

-- A turn puts the next row behind those that stand already.
use Rattle.std.proofs.Common.{ℕ, get_or, ◌≡◌, ◌+◌, ◌∙◌, refl, add-one, arith}
use Rattle.text.specs.Lines.{table_row}
use Rattle.text.proofs.Filling.{put_none, put_then, put_more}
use Rattle.text.proofs.Lengths.{most_row, row_length, line_put}
use Rattle.list.specs.Listing.{row_of, rows_of}
use Rattle.list.proofs.rows.Goals as goal

pub loop-k-init : goal.loop-k-init
unfolding rows_of
loop-k-init c = (omega arith, refl, put_none _ _)

pub loop-k-preserved : goal.loop-k-preserved
unfolding rows_of
loop-k-preserved c =
    let l = c.loop-k in
    let p = c.args.plan.now in
    let t = c.table_row-end in
    let deadline : ℕ = get_or p.deadlines c.from-task.result 0 in
    let row = line_put most_row (row_length (l.k + 1) c.from-task.result deadline c.from.result) (omega arith) t.ensures in
    let e : table_row (l.k + 1) c.from-task.result deadline c.from.result ≡ row_of p.order p.deadlines p.criticalities l.k = cc in
    (omega arith, t.auto.out ∙ l.invariant.1, rw add-one (put_more (omega arith) (put_then l.invariant.2 (rw e at row))))

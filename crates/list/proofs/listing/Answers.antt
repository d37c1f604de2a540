-- A refusal is one line; an accepted plan its head and its rows, whose tasks its order names.
use Rattle.std.proofs.Common.{◌≡◌, ◌∙◌, arith}
use Rattle.rules.specs.Answers.{number_of, place_of}
use Rattle.text.specs.Lines.{refused_line}
use Rattle.text.proofs.Filling.{put_front, put_then}
use Rattle.text.proofs.Lengths.{most_answer, refusal_length, line_put}
use Rattle.list.proofs.Listed.{list_refused, list_planned, plan_few, plan_names}
use Rattle.list.proofs.listing.Goals as goal

pub rows-requires-clause-n_bound : goal.rows-requires-clause-n_bound
rows-requires-clause-n_bound c = plan_few _ _ _ c.in-Ok.ensures

pub rows-requires-clause-by_index : goal.rows-requires-clause-by_index
rows-requires-clause-by_index c = plan_names _ _ _ c.in-Ok.ensures

pub returns-in-Ok-clause-list_is : goal.returns-in-Ok-clause-list_is
returns-in-Ok-clause-list_is c =
    let head = line_put 32 (omega arith) (omega arith) c.table_head-at.ensures in
    list_planned _ _ _ _ c.in-Ok.ensures (put_front (put_then head c.rows.ensures) c.requires)

pub returns-in-Err-clause-list_is : goal.returns-in-Err-clause-list_is
returns-in-Err-clause-list_is c =
    let p = line_put most_answer (refusal_length _ _) (omega arith) c.refusal_line.ensures in
    let e : refused_line c.number.result c.place.result ≡ refused_line (number_of c.in-Err.refusal) (place_of c.in-Err.refusal) = cc in
    list_refused _ _ _ c.in-Err.ensures (put_front p (omega arith) ∙ e)

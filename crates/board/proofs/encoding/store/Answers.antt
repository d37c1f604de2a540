-- The front of the words holds the tables as the words do, and what is stored there stands in the words.
use Rattle.std.proofs.Common.{arith}
use Rattle.board.proofs.Front.{stored_front, part_front}
use Rattle.board.proofs.encoding.store.Goals as goal

pub put_changes-requires : goal.put_changes-requires
put_changes-requires c =
    let first = c.in-Some.ensures.cases in
    (c.requires.1.0, part_front _ _ first.enough first.same _ c.requires.1.1)

pub returns-in-Some : goal.returns-in-Some
returns-in-Some c =
    let first = c.in-Some.ensures.cases in
    stored_front _ _ first.enough first.same _ _ c.put_changes.ensures

pub returns-in_default : goal.returns-in_default
returns-in_default c =
    let few = c.in_default.ensures.cases in
    absurd (omega (arith, c.requires.0, few))

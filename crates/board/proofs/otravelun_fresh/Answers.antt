-- The fresh start's counts are words, and its answer fits its number.
use borrow.Author.Tests.{le-leb}
use Rattle.board.proofs.Front.{stored_front}
use Rattle.board.proofs.Narrow.{fresh_narrow, fresh_counted}
use Rattle.board.proofs.otravelun_fresh.Goals as goal

pub put_state-requires : goal.put_state-requires
put_state-requires c = fresh_counted _ _ _ c.fresh-start.ensures

pub code-requires-2 : goal.code-requires-2
code-requires-2 c = fresh_narrow _ _ _ c.fresh-start.ensures

pub returns : goal.returns
returns c =
    let first = c.in-Some.ensures.cases in
    rw (le-leb _ _ first.enough)
    (record {
      step = c.fresh-start.result;
      started = c.fresh-start.ensures;
      answer = c.code-2.ensures;
      words = stored_front _ _ first.enough first.same _ _ c.put_state.ensures;
    })

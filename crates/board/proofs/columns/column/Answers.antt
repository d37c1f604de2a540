-- Before each turn the first k words are taken and tested.
use Rattle.std.proofs.Common.{Bool, ◌&&◌, ap}
use Rattle.board.proofs.Turns.{taking_turn, taking_end}
use Rattle.board.proofs.columns.column.Goals as goal

pub loop-k-preserved : goal.loop-k-preserved
loop-k-preserved g c =
    taking_turn _ _ _ _ _ _ _ _ _ _ _ _ _ _ c.loop-k.invariant c.loop-k-test.true c.from_word-element.ensures c.unwrap_or.ensures
    (ap (λ (b : Bool). c.loop-k.fit && b) c.is_some-fit.ensures)

pub returns : goal.returns
returns g c = rw c.then_some.ensures (taking_end _ _ _ _ _ _ _ _ _ _ c.loop-k.invariant c.loop-k-test.false)

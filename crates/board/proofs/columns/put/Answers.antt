-- Before each turn the words of the first k elements stand.
use Rattle.std.proofs.Common.{ap, sym, ◌∙◌}
use Rattle.std.proofs.Math.ListN.{length-map, get_or-map}
use Rattle.board.proofs.Turns.{writing_turn, writing_end}
use Rattle.board.proofs.columns.put.Goals as goal

pub loop-k-preserved : goal.loop-k-preserved
loop-k-preserved g c =
    let f = g.T.Element.word_of in
    writing_turn _ _ _ _ _ _ c.loop-k.invariant (rw length-map c.loop-k-test.true)
    (rw c.to_word.ensures (get_or-map f c.args.column.now c.loop-k.k c.index-column-k.result ∙ ap f (sym c.index-column-k.is)))

pub returns : goal.returns
returns g c = writing_end _ _ _ _ _ c.loop-k.invariant (rw length-map c.loop-k-test.false)

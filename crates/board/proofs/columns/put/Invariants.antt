-- The words of the first elements stand.
use Rattle.std.proofs.Common.{map}
use Rattle.board.proofs.Turns.{Writing}
use Rattle.board.proofs.columns.put.Given as goal

abbrev pub invariant-loop-k : goal.invariant-loop-k
invariant-loop-k g l = Writing l.start (map g.T.Element.word_of l.column) l.k l.fn.words l.words

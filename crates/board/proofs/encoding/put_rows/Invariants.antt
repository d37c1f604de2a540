-- The first c rows stand.
use Rattle.rules.specs.Sizes.{most_rows}
use Rattle.board.specs.Layout.{rows_at}
use Rattle.board.specs.StateWords.{connection_row}
use Rattle.board.proofs.Turns.{Laying}
use Rattle.board.proofs.encoding.put_rows.Given as goal

abbrev pub invariant-loop-c : goal.invariant-loop-c
invariant-loop-c l = Laying rows_at (connection_row l.state) most_rows l.c l.fn.words l.words

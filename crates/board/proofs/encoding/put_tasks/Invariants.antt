-- The first k rows stand.
use Rattle.rules.specs.Sizes.{most_tasks}
use Rattle.board.specs.Layout.{tasks_at}
use Rattle.board.specs.StateWords.{task_row}
use Rattle.board.proofs.Turns.{Laying}
use Rattle.board.proofs.encoding.put_tasks.Given as goal

abbrev pub invariant-loop-k : goal.invariant-loop-k
invariant-loop-k l = Laying tasks_at (task_row l.state) most_tasks l.k l.fn.words l.words

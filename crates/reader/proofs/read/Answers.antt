-- 9 is tested first. A pass that stores nothing gives the answer; only an accepted file has the pass that stores.
use Rattle.std.proofs.Common.{arith}
use Rattle.std.proofs.lemmas.Result.{err_from_is_err_and}
use Rattle.reader.proofs.ReadIs.{read_short, read_refused, read_accepted}
use Rattle.reader.proofs.read.Goals as goal

pub returns-then-tasks-lt-MOST_TASK_WORDS : goal.returns-then-tasks-lt-MOST_TASK_WORDS
returns-then-tasks-lt-MOST_TASK_WORDS c =
    let either = c.then-tasks-lt-MOST_TASK_WORDS.either in
    read_short _ _ _ (grind arith)

pub returns-in_err-pass : goal.returns-in_err-pass
returns-in_err-pass c =
    let p = err_from_is_err_and c.from_residual.result c.from_residual.ensures.1 in
    rw (p.1, p.2) (read_refused _ _ _ (c.if-tasks-lt-MOST_TASK_WORDS.false, c.if-connections-lt-MOST_ROW_WORDS.false) _ _ _ (c.in_err-pass.ensures))

pub returns : goal.returns
returns c =
    read_accepted _ _ _ (c.if-tasks-lt-MOST_TASK_WORDS.false, c.if-connections-lt-MOST_ROW_WORDS.false) _ _ _ _ _ _ (c.in_ok-pass.ensures) c.pass-2.ensures

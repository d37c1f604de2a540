-- What a caller of `read` learns of an accepted file: as many tasks and connections as there is room for, and their words in front.
use Rattle.reader.proofs.ReadIs.{read_answer, read_tables}
use Rattle.reader.proofs.tables.Tables.of.Goals as goal

pub invariant_of-result : goal.invariant_of-result
invariant_of-result c =
    let k = (read_tables c.read.ensures c.in_ok-filled.was).counts in
    (k.few_tasks, k.few_rows)

pub returns : goal.returns
returns c =
    let a = read_tables c.read.ensures c.in_ok-filled.was in
    record {
      counts = (c.in_ok-filled.filled.tasks, c.in_ok-filled.filled.connections);
      read = read_answer (c.in_ok-filled.ensures);
      task_table = a.task_front;
      row_table = a.row_front;
    }

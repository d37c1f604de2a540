-- What is copied stands in place of the table's part, with what is in front of it and behind.
use Rattle.std.proofs.Common.{arith}
use Rattle.rules.proofs.Parts.{copied_over}
use Rattle.reader.proofs.put_row.Goals as goal

pub returns-then-store : goal.returns-then-store
returns-then-store c = rw c.if-store.true (copied_over _ _ _ _ _ c.requires (omega arith) c.copy_from_slice.ensures.after)

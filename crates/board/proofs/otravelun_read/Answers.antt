-- The reader's answer fits its number.
use Rattle.board.proofs.Narrow.{read_narrow}
use Rattle.board.proofs.otravelun_read.Goals as goal

pub code-requires : goal.code-requires
code-requires c = read_narrow _ _ _ _ _ _ c.read.ensures

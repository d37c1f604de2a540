-- No byte, one byte, or a mark with the rest of the file behind it, which is what the record is handed.
use Rattle.std.proofs.Common.{sym, ap, ◌∙◌, ℕ, ◌+◌, drop, arith}
use Rattle.rules.specs.File.{marked}
use Rattle.rules.proofs.Parts.{part_from}
use Rattle.rules.proofs.File.{item_none, item_cut, item_marked}
use Rattle.reader.proofs.item_at.Goals as goal

pub returns-then-file-byte : goal.returns-then-file-byte
returns-then-file-byte c = sym (item_none _ _ _ _ c.if-file-byte.true)

pub returns-then-file-byte-eq1 : goal.returns-then-file-byte-eq1
returns-then-file-byte-eq1 c = sym (item_cut _ _ _ _ c.if-file-byte.false c.if-file-byte-eq1.true)

pub returns : goal.returns
returns c =
    let a = c.args in
    let p = a.at in
    c.record_at.ensures
    ∙ ap (marked c.word-mark.result p.byte p.read.tasks p.read.connections) (part_from a.file.now (p.byte + 2))
    ∙ ap (λ (m : ℕ). marked m p.byte p.read.tasks p.read.connections (drop (p.byte + 2) a.file.now)) c.word-mark.ensures
    ∙ sym (item_marked a.file.now p.byte p.read.tasks p.read.connections (omega arith))

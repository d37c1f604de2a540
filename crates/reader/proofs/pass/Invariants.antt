-- Invariant: what is left of the file, done from here, gives what the whole file gives (Going). Measure: the records that there is still
-- room for; each turn but the last reads one.
use Rattle.std.proofs.Common.{◌+◌, ◌-◌}
use Rattle.rules.specs.File.{most_records}
use Rattle.reader.proofs.Going.{Going}
use Rattle.reader.proofs.pass.Given as goal

abbrev pub invariant-loop-row : goal.invariant-loop-row
invariant-loop-row l = Going l.store l.file l.fn.tasks l.fn.connections l.tasks l.connections l.at.byte l.at.read.tasks l.at.read.connections

abbrev pub decreases-loop-row : goal.decreases-loop-row
decreases-loop-row l = most_records - (l.at.read.tasks + l.at.read.connections)

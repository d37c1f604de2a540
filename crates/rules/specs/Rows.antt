-- A task and a connection with their words by name, as code holds them: taken out of a table at a place, and as the table's words.
use Rattle.std.specs.Prelude.{List, [], ◌∷◌, ℕ}
use Rattle.rules.specs.Tables.{period, deadline, compute, criticality, flag, sender, receiver, kind}
use Rattle.rules.specs.declared.TaskRow.{TaskRow}
use Rattle.rules.specs.declared.ConnectionRow.{ConnectionRow}

-- task i, and row c
abbrev pub task_row_at : List ℕ → ℕ → TaskRow
task_row_at tw i = record { period = period tw i; deadline = deadline tw i; compute = compute tw i; criticality = criticality tw i; flag = flag tw i }

abbrev pub connection_row_at : List ℕ → ℕ → ConnectionRow
connection_row_at cw c = record { sender = sender cw c; receiver = receiver cw c; kind = kind cw c }

-- "period, deadline, compute, criticality, flag"; "sender, receiver, kind"
abbrev pub task_words_of : TaskRow → List ℕ
task_words_of r = r.period ∷ r.deadline ∷ r.compute ∷ r.criticality ∷ r.flag ∷ []

abbrev pub connection_words_of : ConnectionRow → List ℕ
connection_words_of r = r.sender ∷ r.receiver ∷ r.kind ∷ []

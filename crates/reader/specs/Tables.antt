-- What a file's own tables are: the words that the rules read in it.
use Rattle.std.specs.Prelude.{◌≡◌, List, ℕ, Result, Ok, Err}
use Rattle.rules.specs.Sizes.{most_task_words, most_row_words}
use Rattle.rules.specs.File.{Reading, contents_of, task_words, connection_words, read_of}
use Rattle.rules.specs.Answers.{number_of, place_of}
use Rattle.rules.specs.declared.Refusal.{Refusal}

-- the words of the tasks and of the connections
pub record Words : Type 0 where
  pub tasks : List ℕ
  pub connections : List ℕ

-- an accepted file has the words that the rules read in it
pub record AcceptedTables (file : List ℕ) (w : Words) : Type 0 where
  pub counts : ℕ × ℕ
  pub read : read_of file most_task_words most_row_words ≡ Reading.Read counts.0 counts.1
  pub task_table : w.tasks ≡ task_words (contents_of file)
  pub row_table : w.connections ≡ connection_words (contents_of file)

-- by the answer: the refusal is that of a reader lent tables of full size
abbrev pub TablesAre : List ℕ → Result Words Refusal → Type 0
TablesAre file (Ok w) = AcceptedTables file w
TablesAre file (Err f) = read_of file most_task_words most_row_words ≡ Reading.Refused (number_of f) (place_of f)

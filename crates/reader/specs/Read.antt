-- What `read` promises: its answer, and what stands in both tables afterwards.
use Rattle.std.specs.Prelude.{◌≡◌, Bool, true, false, List, ℕ, length, Result}
use Rattle.std.proofs.lemmas.List.Edits.{sets}
use Rattle.rules.specs.File.{Reading, contents_of, reading_of, task_words, connection_words, read_of, filled}
use Rattle.rules.specs.Answers.{reading_says, read_says}
use Rattle.rules.specs.declared.Counts.{Counts}
use Rattle.rules.specs.declared.Refusal.{Refusal}

-- the answer that the rules give to a file with tables of these lengths lent
abbrev pub asked : List ℕ → List ℕ → List ℕ → Reading
asked file tasks connections = read_of file (length tasks) (length connections)

-- the answer, and both tables before and after
pub record ReadIs (file tasks connections : List ℕ) (r : Result Counts Refusal) (tasks' connections' : List ℕ) : Type 0 where
  pub told : read_says r ≡ reading_says (asked file tasks connections)
  pub task_table : tasks' ≡ filled (asked file tasks connections) (task_words (contents_of file)) tasks
  pub row_table : connections' ≡ filled (asked file tasks connections) (connection_words (contents_of file)) connections

-- a table with words put at a place, or as it was
abbrev pub stored : Bool → List ℕ → ℕ → List ℕ → List ℕ
stored true table at words = sets table at words
stored false table at words = table

-- one pass over the records of a file, with or without storing: the answer, and both tables before and after
pub record PassIs (store : Bool) (file tasks connections : List ℕ) (r : Result Counts Refusal) (tasks' connections' : List ℕ) : Type 0 where
  pub told : read_says r ≡ reading_says (reading_of 0 0 (contents_of file))
  pub task_table : tasks' ≡ stored store tasks 0 (task_words (contents_of file))
  pub row_table : connections' ≡ stored store connections 0 (connection_words (contents_of file))

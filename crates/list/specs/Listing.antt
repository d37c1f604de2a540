-- 01: "The list program reads this machine file on standard input and prints the following (place from 1, task, internal deadline,
-- internal criticality); a refusal prints one line, `refused`, number, place".
use Rattle.std.specs.Prelude.{◌≡◌, ◌⊎◌, List, [], ◌++◌, ℕ, zero, suc, ◌+◌, get_or, Result, Ok, Err}
use Rattle.rules.specs.Sizes.{most_task_words, most_row_words}
use Rattle.rules.specs.Tables.{count}
use Rattle.rules.specs.File.{contents_of, task_words, connection_words, read_of, Reading}
use Rattle.rules.specs.Plan.{PlanIs}
use Rattle.rules.specs.declared.Plan.{Plan}
use Rattle.rules.specs.Answers.{number_of, place_of}
use Rattle.rules.specs.declared.Refusal.{Refusal}
use Rattle.text.specs.Lines.{refused_line, table_head, table_row}

-- the row at place k, counted from 0, of an order with its tasks' internal numbers
abbrev pub row_of : List ℕ → List ℕ → List ℕ → ℕ → List ℕ
row_of order deadlines criticalities k =
    table_row (k + 1) (get_or order k 0) (get_or deadlines (get_or order k 0) 0) (get_or criticalities (get_or order k 0) 0)

-- the first n rows
unfoldable pub rows_of : List ℕ → List ℕ → List ℕ → ℕ → List ℕ
rows_of order deadlines criticalities zero = []
rows_of order deadlines criticalities (suc n) = rows_of order deadlines criticalities n ++ row_of order deadlines criticalities n

-- a plan of n tasks, by its verdict
abbrev pub plan_text : Plan → ℕ → Result (Unit {0}) Refusal → List ℕ
plan_text p n (Ok _) = table_head ++ rows_of p.order p.deadlines p.criticalities n
plan_text p n (Err f) = refused_line (number_of f) (place_of f)

-- a file with these words, by what the reader answers: the plan is the planner's
abbrev pub Lists : List ℕ → List ℕ → Reading → List ℕ → Type 0
Lists tw cw (Reading.Read t c) text = (p : Plan) × PlanIs tw cw p × (text ≡ plan_text p (count tw) p.verdict)
Lists tw cw (Reading.Refused n q) text = text ≡ refused_line n q

-- what is printed for a file
abbrev pub ListIs : List ℕ → List ℕ → Type 0
ListIs file text = Lists (task_words (contents_of file)) (connection_words (contents_of file)) (read_of file most_task_words most_row_words) text

-- the plan of a file with these words that the reader accepts
pub record Planned (file : List ℕ) (p : Plan) : Type 0 where
  pub counts : ℕ × ℕ
  pub read : read_of file most_task_words most_row_words ≡ Reading.Read counts.0 counts.1
  pub plan : PlanIs (task_words (contents_of file)) (connection_words (contents_of file)) p

-- the plan of a file and how many tasks it has, where reader and planner accept; else the refusal of the one or the other
abbrev pub Plans : List ℕ → Result (Plan × ℕ) Refusal → Type 0
Plans file (Ok (p, n)) = Planned file p × (p.verdict ≡ Ok tt) × (n ≡ count (task_words (contents_of file)))
Plans file (Err f) =
    (read_of file most_task_words most_row_words ≡ Reading.Refused (number_of f) (place_of f))
    ⊎ ((p : Plan) × Planned file p × (p.verdict ≡ Err f))

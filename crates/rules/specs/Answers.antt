-- What each answer says: 01's refusal number and the values that stand beside it. An answer is told by its kind, the number of a
-- refusal (or of tasks read), and the value: a task, a place, or the connections read.
use Rattle.std.specs.Prelude.{◌≡◌, ℕ, Result, Ok, Err}
use Rattle.rules.specs.Refusals.{little_room, unknown_mark, cut_short, too_many, end_wanted, nothing_runs, is_halted, out_of_range}
use Rattle.rules.specs.File.{Reading}
use Rattle.rules.specs.declared.Refusal.{Refusal}
use Rattle.rules.specs.declared.Refusal.TheVariants.{TaskTable, ConnectionTable, TaskValue, ConnectionValue, Uneven, Circle, Raised, Multiple, LittleRoom, UnknownMark, CutShort, TooMany, EndWanted, NothingRuns, Halted, OutOfRange}
use Rattle.rules.specs.declared.Answer.{Answer}
use Rattle.rules.specs.declared.Answer.TheVariants as answer
use Rattle.rules.specs.declared.Counts.{Counts}
use Rattle.rules.specs.declared.Step.{Step}

pub record Told : Type 0 where
  pub kind : ℕ
  pub number : ℕ
  pub value : ℕ

abbrev pub told : ℕ → ℕ → ℕ → Told
told k n v = record { kind = k; number = n; value = v }

-- "Refusals in order": the number of each, and its place
abbrev pub number_of : Refusal → ℕ
number_of TaskTable = 1
number_of ConnectionTable = 2
number_of (TaskValue i) = 3
number_of (ConnectionValue c) = 4
number_of (Uneven c) = 5
number_of (Circle i) = 6
number_of (Raised c) = 7
number_of Multiple = 8
number_of LittleRoom = little_room
number_of (UnknownMark b) = unknown_mark
number_of (CutShort b) = cut_short
number_of (TooMany b) = too_many
number_of (EndWanted b) = end_wanted
number_of NothingRuns = nothing_runs
number_of Halted = is_halted
number_of OutOfRange = out_of_range

-- the first task, row or byte that it names; 0 where the list gives it no other
abbrev pub place_of : Refusal → ℕ
place_of TaskTable = 0
place_of ConnectionTable = 0
place_of (TaskValue i) = i
place_of (ConnectionValue c) = c
place_of (Uneven c) = c
place_of (Circle i) = i
place_of (Raised c) = c
place_of Multiple = 0
place_of LittleRoom = 0
place_of (UnknownMark b) = b
place_of (CutShort b) = b
place_of (TooMany b) = b
place_of (EndWanted b) = b
place_of NothingRuns = 0
place_of Halted = 0
place_of OutOfRange = 0

abbrev pub refusal_says : Refusal → Told
refusal_says f = told 0 (number_of f) (place_of f)

-- "The answer is Running with a task number, Idle, Missed with a task number, or Refused with number and place."
abbrev pub answer_says : Answer → Told
answer_says (answer.Refused f) = refusal_says f
answer_says (answer.Running i) = told 1 0 i
answer_says answer.Idle = told 2 0 0
answer_says (answer.Missed i) = told 3 0 i

abbrev pub verdict_says : Result (Unit {0}) Refusal → Told
verdict_says (Err f) = refusal_says f
verdict_says (Ok _) = told 4 0 0

-- what the rules say of a file, and what the reader answers: "how many tasks and connections it read"
abbrev pub reading_says : Reading → Told
reading_says (Reading.Refused n p) = told 0 n p
reading_says (Reading.Read t c) = told 5 t c

abbrev pub read_says : Result Counts Refusal → Told
read_says (Err f) = refusal_says f
read_says (Ok n) = told 5 n.tasks n.connections

-- a step that says what another says, with the same state
pub record StepIs (want r : Step) : Type 0 where
  pub answer : answer_says r.answer ≡ answer_says want.answer
  pub state : r.state ≡ want.state

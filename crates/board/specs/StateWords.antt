-- A state in words, and the state that words encode. The laws `state_back` and `words_back` show that they are there and back.
use Rattle.std.specs.Prelude.{Bool, false, ◌&&◌, List, [], ◌∷◌, ◌++◌, map, ℕ, ◌+◌, ◌<◌, get_or, length, drop, replicate, leb}
use Rattle.rules.specs.Sizes.{most_tasks, most_rows, task_width, row_width}
use Rattle.rules.specs.Views.{period, deadline, compute, sender, receiver, undelayed}
use Rattle.rules.specs.declared.State.{State}
use Rattle.board.specs.Layout.{marks_at, tasks_at, rows_at, order_at, phases_at, outputs_at, dispatches_at, buffers_at, inputs_at, state_size}
use Rattle.board.specs.Columns.{word_at, taken, same, cut, below}
use Rattle.board.specs.Rows.{rows_of}
use Rattle.board.specs.Widths.{wholes, times, bytes, marks, phases}
use Rattle.board.specs.Marks.{mark_word, mark_from, task_word, task_from, idle_task}

abbrev pub criticality : State → ℕ → ℕ
criticality s i = get_or s.criticalities i 0

abbrev pub enforced : State → ℕ → Bool
enforced s i = get_or s.enforced i false

-- "period, deadline, compute, criticality, flag"
abbrev pub task_row : State → ℕ → List ℕ
task_row s i = period s i ∷ deadline s i ∷ compute s i ∷ criticality s i ∷ mark_word (enforced s i) ∷ []

-- "sender, receiver, kind (0 single sample delay, 1 undelayed)"
abbrev pub connection_row : State → ℕ → List ℕ
connection_row s c = sender s c ∷ receiver s c ∷ mark_word (undelayed s c) ∷ []

-- the task count, the connection count, the common multiple, the cycle, and the two marks
unfoldable pub head_words : State → List ℕ
head_words s = s.count ∷ s.rows ∷ s.multiple ∷ s.cycle ∷ mark_word s.ticked ∷ mark_word s.halted ∷ []

-- 32 tasks of five words, 64 connection rows of three, and the order
unfoldable pub table_words : State → List ℕ
table_words s = rows_of (task_row s) most_tasks ++ rows_of (connection_row s) most_rows ++ s.order

-- the phases, the outputs and the dispatch cycles of 32, the buffers and the inputs of 64
unfoldable pub moving_words : State → List ℕ
moving_words s = map task_word s.tasks ++ s.outputs ++ s.dispatches ++ s.buffers ++ s.inputs

abbrev pub state_words : State → List ℕ
state_words s = head_words s ++ table_words s ++ moving_words s

-- lent words with a state in them: the words past it stay
abbrev pub stored_in : List ℕ → State → List ℕ
stored_in ws s = state_words s ++ drop state_size ws

-- a column of 32 tasks or of 64 rows, from the words that begin at a place and stand so far apart
abbrev pub of_tasks : {A : Type 0} → (ℕ → A) → A → List ℕ → ℕ → ℕ → List A
of_tasks f z ws start apart = taken f ws start apart most_tasks (replicate most_tasks z)

abbrev pub of_rows : {A : Type 0} → (ℕ → A) → A → List ℕ → ℕ → ℕ → List A
of_rows f z ws start apart = taken f ws start apart most_rows (replicate most_rows z)

-- the state of any words: each is cut to what its place holds, and `encodes` says whether all fit as they are
unfoldable pub state_from : List ℕ → State
state_from ws = record {
  count = get_or ws 0 0;
  rows = get_or ws 1 0;
  periods = of_tasks (cut times) 0 ws tasks_at task_width;
  deadlines = of_tasks (cut times) 0 ws (tasks_at + 1) task_width;
  computes = of_tasks (cut times) 0 ws (tasks_at + 2) task_width;
  criticalities = of_tasks (cut bytes) 0 ws (tasks_at + 3) task_width;
  enforced = of_tasks mark_from false ws (tasks_at + 4) task_width;
  senders = of_rows (cut bytes) 0 ws rows_at row_width;
  receivers = of_rows (cut bytes) 0 ws (rows_at + 1) row_width;
  undelayed = of_rows mark_from false ws (rows_at + 2) row_width;
  order = of_tasks (cut bytes) 0 ws order_at 1;
  multiple = get_or ws 2 0;
  tasks = of_tasks task_from idle_task ws phases_at 1;
  outputs = of_tasks same 0 ws outputs_at 1;
  dispatches = of_tasks same 0 ws dispatches_at 1;
  buffers = of_rows same 0 ws buffers_at 1;
  inputs = of_rows same 0 ws inputs_at 1;
  cycle = get_or ws 3 0;
  ticked = mark_from (word_at ws marks_at 1 0);
  halted = mark_from (word_at ws marks_at 1 1);
}

-- each word fits its place: times are of 16 bits, criticalities and task numbers of 8, marks 0 or 1, phases 0 to 2
abbrev pub tasks_fit : List ℕ → Bool
tasks_fit ws =
    below ws tasks_at task_width times most_tasks && below ws (tasks_at + 1) task_width times most_tasks
    && below ws (tasks_at + 2) task_width times most_tasks && below ws (tasks_at + 3) task_width bytes most_tasks
    && below ws (tasks_at + 4) task_width marks most_tasks

abbrev pub rows_fit : List ℕ → Bool
rows_fit ws =
    below ws rows_at row_width bytes most_rows && below ws (rows_at + 1) row_width bytes most_rows
    && below ws (rows_at + 2) row_width marks most_rows

abbrev pub runs_fit : List ℕ → Bool
runs_fit ws = below ws order_at 1 bytes most_tasks && below ws phases_at 1 phases most_tasks

abbrev pub head_fits : List ℕ → Bool
head_fits ws = below ws marks_at 1 marks 2

abbrev pub words_fit : List ℕ → Bool
words_fit ws = head_fits ws && tasks_fit ws && rows_fit ws && runs_fit ws

-- the words encode a state: there are enough of them, and each fits its place, also past the counts
unfoldable pub encodes : List ℕ → Bool
encodes ws = leb state_size (length ws) && words_fit ws

-- the counts of a state are words
pub record Counted (s : State) : Type 0 where
  pub count_fits : s.count < wholes
  pub rows_fit : s.rows < wholes

-- The places of the words that a caller in C lends: where each column of a plan and of a state begins, and how many words there are.
use Rattle.std.specs.Prelude.{ℕ, ◌+◌}
use Rattle.rules.specs.Sizes.{most_tasks, most_rows, most_task_words, most_row_words}

-- a plan: the common multiple, the order, the internal deadlines and the internal criticalities
abbrev pub plan_order : ℕ
plan_order = 1

abbrev pub plan_deadlines : ℕ
plan_deadlines = plan_order + most_tasks

abbrev pub plan_criticalities : ℕ
plan_criticalities = plan_deadlines + most_tasks

abbrev pub plan_size : ℕ
plan_size = plan_criticalities + most_tasks

-- a state: task count, connection count, common multiple, cycle, whether there was a tick, whether it is halted; then five words a
-- task, three words a connection row, and a column each of the order, phases, outputs, dispatch cycles, buffers and inputs
abbrev pub marks_at : ℕ
marks_at = 4

abbrev pub tasks_at : ℕ
tasks_at = 6

abbrev pub rows_at : ℕ
rows_at = tasks_at + most_task_words

abbrev pub order_at : ℕ
order_at = rows_at + most_row_words

abbrev pub phases_at : ℕ
phases_at = order_at + most_tasks

abbrev pub outputs_at : ℕ
outputs_at = phases_at + most_tasks

abbrev pub dispatches_at : ℕ
dispatches_at = outputs_at + most_tasks

abbrev pub buffers_at : ℕ
buffers_at = dispatches_at + most_tasks

abbrev pub inputs_at : ℕ
inputs_at = buffers_at + most_rows

abbrev pub state_size : ℕ
state_size = inputs_at + most_rows

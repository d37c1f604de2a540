-- 01, "Sizes": 1 to 32 tasks, 0 to 64 connections, period 1 to 10,000 ticks, deadline 1 to the period, compute 1 to the
-- deadline, criticality 0 to 255, enforced flag 0 or 1, common multiple of all periods at most 720,720.
use Rattle.std.specs.Prelude.{ℕ, ◌*◌}

abbrev pub most_tasks : ℕ
most_tasks = 32

abbrev pub most_rows : ℕ
most_rows = 64

abbrev pub longest_period : ℕ
longest_period = 10000

abbrev pub least_critical : ℕ
least_critical = 255

abbrev pub most_multiple : ℕ
most_multiple = 720720

-- "a task table of 16-bit words, five to a task"; "the connection table has three words a row"
abbrev pub task_width : ℕ
task_width = 5

abbrev pub row_width : ℕ
row_width = 3

abbrev pub most_task_words : ℕ
most_task_words = most_tasks * task_width

abbrev pub most_row_words : ℕ
most_row_words = most_rows * row_width

-- "Internal deadline, in sixty-fourths of a tick"
abbrev pub parts : ℕ
parts = 64

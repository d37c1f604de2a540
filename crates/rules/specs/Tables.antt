-- 01, "The two tables": the values of a task and of a connection row by their place in the words.
use Rattle.std.specs.Prelude.{List, ℕ, ◌+◌, ◌*◌, ◌/◌, get_or, length}
use Rattle.rules.specs.Sizes.{task_width, row_width}

-- "Tasks and connections are numbered from 0 in table order."
abbrev pub count : List ℕ → ℕ
count tw = length tw / task_width

abbrev pub rows : List ℕ → ℕ
rows cw = length cw / row_width

-- "five to a task: period, deadline, compute, criticality, flag"
abbrev pub period : List ℕ → ℕ → ℕ
period tw i = get_or tw (i * task_width) 0

abbrev pub deadline : List ℕ → ℕ → ℕ
deadline tw i = get_or tw (i * task_width + 1) 0

abbrev pub compute : List ℕ → ℕ → ℕ
compute tw i = get_or tw (i * task_width + 2) 0

abbrev pub criticality : List ℕ → ℕ → ℕ
criticality tw i = get_or tw (i * task_width + 3) 0

abbrev pub flag : List ℕ → ℕ → ℕ
flag tw i = get_or tw (i * task_width + 4) 0

-- "three words a row: sender, receiver, kind (0 single sample delay, 1 undelayed)"
abbrev pub sender : List ℕ → ℕ → ℕ
sender cw c = get_or cw (c * row_width) 0

abbrev pub receiver : List ℕ → ℕ → ℕ
receiver cw c = get_or cw (c * row_width + 1) 0

abbrev pub kind : List ℕ → ℕ → ℕ
kind cw c = get_or cw (c * row_width + 2) 0

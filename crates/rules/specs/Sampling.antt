-- 01, "The sampling rule": numbers of jobs, from periods and deadlines alone. Job j of a task is dispatched at tick j * period.
use Rattle.std.specs.Prelude.{cond, List, ◌∷◌, ℕ, suc, ◌-◌, ◌/◌, get_or, ltb}

-- how many jobs j of a task have j * period + d at most r: the sampling rule's last job is the one before this number
unfoldable pub up_to : ℕ → ℕ → ℕ → ℕ
up_to period d r = cond (ltb r d) 0 (suc ((r - d) / period))

-- a task's output behind its first k jobs, where ws are the words that it delivered in job order: "0 if there is none", then job k - 1's
abbrev pub said : List ℕ → ℕ → ℕ
said ws k = get_or (0 ∷ ws) k 0

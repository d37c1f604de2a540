-- A plan in words: the common multiple, 32 of order, 32 internal deadlines, 32 internal criticalities.
use Rattle.std.specs.Prelude.{List, [], ◌∷◌, ◌++◌, ℕ, drop}
use Rattle.rules.specs.declared.Plan.{Plan}
use Rattle.board.specs.Layout.{plan_size}

unfoldable pub plan_words : Plan → List ℕ
plan_words p = (p.multiple ∷ []) ++ p.order ++ p.deadlines ++ p.criticalities

-- lent words with a plan in them: the words past it stay
abbrev pub planned_in : List ℕ → Plan → List ℕ
planned_in ws p = plan_words p ++ drop plan_size ws

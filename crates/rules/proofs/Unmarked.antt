-- 01, "Numbers from the bench": the numbers that stand there without an M, by computation on the rules.
use mathlib.Core.Path.{◌≡◌, refl}
use mathlib.Core.List.{List, [], ◌∷◌}
use Prim.Native.Nat.{ℕ}
use Rattle.rules.specs.Sizes.{most_task_words, most_row_words}
use Rattle.rules.specs.File.{Reading, Reading.Read, Reading.Refused, records, onward, item_at, marked, reading_of, read_of, task_words, connection_words, contents_of}
use Rattle.rules.specs.Plan.{PlanIs}
use Rattle.rules.proofs.DecidingPlans.{plan_is}
use Rattle.rules.proofs.Bench.{periodic, accepted, refused}

-- "Period 10,000 accepted, 10,001 refused 3."
pub longest_period_lem : PlanIs (periodic 10000) [] (accepted (0 ∷ []) (640000 ∷ []) (0 ∷ []) 10000)
longest_period_lem = (plan_is (periodic 10000) [] (accepted (0 ∷ []) (640000 ∷ []) (0 ∷ []) 10000)).if_true refl

pub longer_period : PlanIs (periodic 10001) [] (refused 3 0)
longer_period = (plan_is (periodic 10001) [] (refused 3 0)).if_true refl

-- the reader with tables of full size
abbrev read : List ℕ → Reading
read file = read_of file most_task_words most_row_words

-- "Empty file: 13 at 0."
pub empty_file : read [] ≡ Refused 13 0
unfolding read_of records onward item_at reading_of
empty_file = refl

-- "One byte: 11 at 0."
pub one_byte : (b : ℕ) → read (b ∷ []) ≡ Refused 11 0
unfolding read_of records onward item_at reading_of
one_byte b = refl

-- "EN alone reads 0 tasks; the planner then refuses 1."
abbrev end_alone : List ℕ
end_alone = 0x45 ∷ 0x4E ∷ []

pub end_alone_lem : read end_alone ≡ Read 0 0
unfolding read_of records onward item_at marked reading_of
end_alone_lem = refl

pub end_alone_planned : PlanIs (task_words (contents_of end_alone)) (connection_words (contents_of end_alone)) (refused 1 0)
unfolding records onward item_at marked task_words connection_words
end_alone_planned = (plan_is [] [] (refused 1 0)).if_true refl

-- 01, "Refusals in order": a line for each of 1 to 8, and the names of 9 to 16, which the reader and the steps give.
use Rattle.std.specs.Prelude.{◌≡◌, ◌⊎◌, List, [], ◌∷◌, ℕ, ◌%◌, ◌≤◌, ◌<◌, get_or, length}
use Rattle.std.specs.Int.{◌∣◌}
use Rattle.rules.specs.Sizes.{longest_period, least_critical, most_multiple, task_width, row_width, most_task_words, most_row_words}
use Rattle.rules.specs.Tables.{count, rows, period, deadline, compute, criticality, flag, sender, receiver, kind}
use Rattle.rules.specs.Chains.{Link, Reaches}
use Rattle.rules.specs.Order.{Common}

-- the values of task i are within their sizes
pub record InSize (tw : List ℕ) (i : ℕ) : Type 0 where
  pub period_low : 1 ≤ period tw i
  pub period_high : period tw i ≤ longest_period
  pub deadline_low : 1 ≤ deadline tw i
  pub deadline_high : deadline tw i ≤ period tw i
  pub compute_low : 1 ≤ compute tw i
  pub compute_high : compute tw i ≤ deadline tw i
  pub criticality_high : criticality tw i ≤ least_critical
  pub flag_high : flag tw i ≤ 1

-- the sender and the receiver of row c are tasks, and its kind is known
pub record Joins (tw cw : List ℕ) (c : ℕ) : Type 0 where
  pub sender_task : sender cw c < count tw
  pub receiver_task : receiver cw c < count tw
  pub kind_known : kind cw c ≤ 1

-- "undelayed, and neither period divides the other"
pub record Uneven (tw cw : List ℕ) (c : ℕ) : Type 0 where
  pub undelayed : kind cw c ≡ 1
  pub not_up : period tw (sender cw c) ∣ period tw (receiver cw c) → ⊥
  pub not_down : period tw (receiver cw c) ∣ period tw (sender cw c) → ⊥

-- "undelayed, sender less critical than receiver, sender's flag 0"; criticality 0 is the most critical
pub record Raised (tw cw : List ℕ) (c : ℕ) : Type 0 where
  pub undelayed : kind cw c ≡ 1
  pub less_critical : criticality tw (receiver cw c) < criticality tw (sender cw c)
  pub not_enforced : flag tw (sender cw c) ≡ 0

-- what each number of the list says of place p; there is no number 0
abbrev pub Never : ℕ → Type 0
Never p = ⊥

abbrev pub refusals : List ℕ → List ℕ → List (ℕ → Type 0)
refusals tw cw =
    Never
    -- 1: "task words not a multiple of five, none, or over 160", place 0
    ∷ (λ p. (p ≡ 0) × ((length tw % task_width ≡ 0 → ⊥) ⊎ (length tw ≡ 0) ⊎ (most_task_words < length tw)))
    -- 2: "connection words not a multiple of three, or over 192", place 0
    ∷ (λ p. (p ≡ 0) × ((length cw % row_width ≡ 0 → ⊥) ⊎ (most_row_words < length cw)))
    -- 3: "a task value outside its size", first task
    ∷ (λ p. (p < count tw) × (InSize tw p → ⊥))
    -- 4: "a sender or receiver that is no task, or kind over 1", first row
    ∷ (λ p. (p < rows cw) × (Joins tw cw p → ⊥))
    -- 5: "undelayed, and neither period divides the other", first row
    ∷ (λ p. (p < rows cw) × Uneven tw cw p)
    -- 6: "a chain of undelayed connections returns to its start", lowest task on such a chain
    ∷ (λ p. (p < count tw) × Reaches (Link cw) p p)
    -- 7: "undelayed, sender less critical than receiver, sender's flag 0", first row
    ∷ (λ p. (p < rows cw) × Raised tw cw p)
    -- 8: "common multiple over 720,720", place 0
    ∷ (λ p. (p ≡ 0) × ((c : ℕ) → 0 < c → c ≤ most_multiple → Common tw c → ⊥))
    ∷ []

-- number k stands at place p
abbrev pub Bad : List ℕ → List ℕ → ℕ → ℕ → Type 0
Bad tw cw k p = get_or (refusals tw cw) k Never p

-- "Lower numbers are checked first": k stands at p, at no smaller place, and no lower number stands anywhere
pub record Refusal (tw cw : List ℕ) (k p : ℕ) : Type 0 where
  pub stands : Bad tw cw k p
  pub first : (q : ℕ) → q < p → Bad tw cw k q → ⊥
  pub lowest : (l q : ℕ) → l < k → Bad tw cw l q → ⊥

-- none of the numbers stands
abbrev pub Sound : List ℕ → List ℕ → Type 0
Sound tw cw = (k p : ℕ) → Bad tw cw k p → ⊥

-- 9: "reader lent under 160 task words or under 192 connection words"
abbrev pub little_room : ℕ
little_room = 9

-- 10: "unknown mark"
abbrev pub unknown_mark : ℕ
unknown_mark = 10

-- 11: "one byte left where a mark should stand, or a body cut short"
abbrev pub cut_short : ℕ
cut_short = 11

-- 12: "a 33rd TK or a 65th CN"
abbrev pub too_many : ℕ
too_many = 12

-- 13: "no bytes left and no EN read, or bytes after EN"
abbrev pub end_wanted : ℕ
end_wanted = 13

-- 14: "completion while no task runs"
abbrev pub nothing_runs : ℕ
nothing_runs = 14

-- 15: "tick or completion on a halted state"
abbrev pub is_halted : ℕ
is_halted = 15

-- 16: "a state out of range"
abbrev pub out_of_range : ℕ
out_of_range = 16

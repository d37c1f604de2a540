-- 01, "Numbers from the bench": the lines of the two programs, in ASCII.
use Rattle.std.specs.Prelude.{cond, List, [], ◌∷◌, ◌++◌, ℕ, zero, suc, ◌+◌, ◌/◌, ◌%◌, ltb, codes}
use Rattle.rules.specs.Answers.{number_of, place_of}
use Rattle.rules.specs.declared.Answer.{Answer}
use Rattle.rules.specs.declared.Answer.TheVariants as answer
use Rattle.text.specs.declared.Spoken.{Spoken}
use Rattle.text.specs.declared.Spoken.TheVariants as spoken

-- a number in base ten with no zero in front, where so many digits are enough
unfoldable pub within : ℕ → ℕ → List ℕ
within zero n = []
within (suc k) n = cond (ltb n 10) ((48 + n) ∷ []) (within k (n / 10) ++ ((48 + n % 10) ∷ []))

-- 20 digits are enough for 64 bits
unfoldable pub decimal : ℕ → List ℕ
decimal n = within 20 n

-- a space and a number
abbrev pub spaced : ℕ → List ℕ
spaced n = 32 ∷ decimal n

abbrev pub newline : List ℕ
newline = 10 ∷ []

-- `running`, `idle`, `missed`, `refused`
abbrev pub running : List ℕ
running = codes "running"

abbrev pub idle : List ℕ
idle = codes "idle"

abbrev pub missed : List ℕ
missed = codes "missed"

abbrev pub refused : List ℕ
refused = codes "refused"

abbrev pub refused_line : ℕ → ℕ → List ℕ
refused_line number place = refused ++ spaced number ++ spaced place ++ newline

-- "`running` and a task, `idle`, `missed` and a task, or `refused`, number and place", be they of the list or not
unfoldable pub spoken_line : Spoken → List ℕ
spoken_line (spoken.Running i) = running ++ spaced i ++ newline
spoken_line spoken.Idle = idle ++ newline
spoken_line (spoken.Missed i) = missed ++ spaced i ++ newline
spoken_line (spoken.Refused number place) = refused_line number place

-- an answer as its line says it: a refusal by its number and place
abbrev pub spoken_of : Answer → Spoken
spoken_of (answer.Running i) = spoken.Running i
spoken_of answer.Idle = spoken.Idle
spoken_of (answer.Missed i) = spoken.Missed i
spoken_of (answer.Refused f) = spoken.Refused (number_of f) (place_of f)

abbrev pub answer_line : Answer → List ℕ
answer_line a = spoken_line (spoken_of a)

-- "any other line prints `bad line`"
abbrev pub bad_line : List ℕ
bad_line = codes "bad line" ++ newline

-- `place task deadline criticality`
abbrev pub table_head : List ℕ
table_head = codes "place task deadline criticality" ++ newline

-- "(place from 1, task, internal deadline, internal criticality)"
abbrev pub table_row : ℕ → ℕ → ℕ → ℕ → List ℕ
table_row place task deadline criticality = decimal place ++ spaced task ++ spaced deadline ++ spaced criticality ++ newline

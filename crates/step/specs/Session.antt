-- 01: "Standard input has one call a line .. For each it prints `running` and a task, `idle`, `missed` and a task, or `refused`, number
-- and place; any other line prints `bad line` and changes nothing."
use Rattle.std.specs.Prelude.{Bool, cond, List, [], ◌∷◌, ◌++◌, ℕ, length, take, ltb, eqb, Result, Ok, Err}
use Rattle.rules.specs.Calls.{tick_of, complete_of}
use Rattle.rules.specs.declared.State.{State}
use Rattle.rules.specs.declared.Step.{Step}
use Rattle.calls.specs.Line.{call_of}
use Rattle.calls.specs.declared.Call.{Call}
use Rattle.calls.specs.declared.Call.TheVariants.{Tick, Complete}
use Rattle.calls.specs.declared.BadLine.{BadLine}
use Rattle.text.specs.Lines.{answer_line, bad_line}

-- a call was answered: the state behind it, and the line that is printed
pub record Said : Type 0 where
  pub state : State
  pub line : List ℕ

abbrev pub said : State → List ℕ → Said
said s l = record { state = s; line = l }

abbrev pub step_of : State → Call → Step
step_of s Tick = tick_of s
step_of s (Complete w) = complete_of s w

unfoldable pub obeyed : State → Result Call BadLine → Said
obeyed s (Ok call) = said (step_of s call).state (answer_line (step_of s call).answer)
obeyed s (Err _) = said s bad_line

-- a line ends at byte 10; a last line without it counts if it has a byte
abbrev pub ends : ℕ → Bool
ends b = eqb b 10

-- the lines of an input, behind the bytes of one that has begun
unfoldable pub lines_from : List ℕ → List ℕ → List (List ℕ)
lines_from line [] = cond (ltb 0 (length line)) (line ∷ []) []
lines_from line (b ∷ input) = cond (ends b) (line ∷ lines_from [] input) (lines_from (line ++ (b ∷ [])) input)

-- "one call a line", each on the state that the last one gave
unfoldable pub answers_to : State → List (List ℕ) → List ℕ
answers_to s [] = []
answers_to s (l ∷ ls) = (obeyed s (call_of l)).line ++ answers_to (obeyed s (call_of l)).state ls

-- all that is printed for an input
abbrev pub session_text : State → List ℕ → List ℕ
session_text s input = answers_to s (lines_from [] input)

-- The same byte by byte, as the program goes: what is kept of a line that has begun are its first 13 bytes, which decide it.
abbrev pub most_kept : ℕ
most_kept = 13

abbrev pub keeping : List ℕ → ℕ → List ℕ
keeping line b = take most_kept (line ++ (b ∷ []))

-- between two bytes: the state, and what is kept of the line that has begun
pub record Moment : Type 0 where
  pub state : State
  pub line : List ℕ

abbrev pub moment : State → List ℕ → Moment
moment s l = record { state = s; line = l }

abbrev pub answered : Moment → Said
answered m = obeyed m.state (call_of m.line)

unfoldable pub next : Moment → ℕ → Moment
next m b = cond (ends b) (moment (answered m).state []) (moment m.state (keeping m.line b))

unfoldable pub printed : Moment → ℕ → List ℕ
printed m b = cond (ends b) (answered m).line []

-- behind a run of bytes, and what is printed for them
unfoldable pub after : Moment → List ℕ → Moment
after m [] = m
after m (b ∷ input) = after (next m b) input

unfoldable pub text : Moment → List ℕ → List ℕ
text m [] = []
text m (b ∷ input) = printed m b ++ text (next m b) input

-- at the input's end
unfoldable pub last : Moment → List ℕ
last m = cond (ltb 0 (length m.line)) (answered m).line []

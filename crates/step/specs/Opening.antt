-- What the step program makes of the machine file: "A refused file prints its refusal alone".
use Rattle.std.specs.Prelude.{◌≡◌, List, ℕ}
use Rattle.rules.specs.Sizes.{most_task_words, most_row_words}
use Rattle.rules.specs.File.{Reading, contents_of, task_words, connection_words, read_of}
use Rattle.rules.specs.Fresh.{FreshIs}
use Rattle.rules.specs.Answers.{told, answer_says}
use Rattle.rules.specs.declared.Step.{Step}
use Rattle.rules.specs.declared.Answer.{Answer}
use Rattle.rules.specs.declared.Answer.TheVariants as answer
use Rattle.text.specs.Lines.{answer_line}
use Rattle.step.specs.Session.{session_text}

-- a file with these words, by what the reader answers: an accepted one has a fresh start
abbrev pub Opens : List ℕ → List ℕ → Reading → Step → Type 0
Opens tw cw (Reading.Read t c) r = FreshIs tw cw r
Opens tw cw (Reading.Refused n p) r = answer_says r.answer ≡ told 0 n p

abbrev pub OpenIs : List ℕ → Step → Type 0
OpenIs file r = Opens (task_words (contents_of file)) (connection_words (contents_of file)) (read_of file most_task_words most_row_words) r

-- an accepted fresh start answers Idle, and then the calls are answered; any other answer is printed alone
unfoldable pub run_text : Step → Answer → List ℕ → List ℕ
run_text r answer.Idle input = session_text r.state input
run_text r (answer.Running i) input = answer_line (answer.Running i)
run_text r (answer.Missed i) input = answer_line (answer.Missed i)
run_text r (answer.Refused f) input = answer_line (answer.Refused f)

-- all that the program prints for a machine file and an input
abbrev pub RunIs : List ℕ → List ℕ → List ℕ → Type 0
RunIs file input printed = (r : Step) × OpenIs file r × (printed ≡ run_text r r.answer input)

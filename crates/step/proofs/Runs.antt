-- What a run prints is what 01 says of its file and its input, however the input comes in pieces. The text that a call puts in front of its
-- buffer is what is printed; the moments go on along the pieces, so the texts are that of the joined pieces, byte by byte, and then that of
-- their lines. The first 643 bytes decide the file.
use mathlib.Core.Path.{◌≡◌, refl, ap, ◌∙◌}
use mathlib.Core.List.{List, [], ◌++◌, append_assoc, flatten}
use Prim.Native.Nat.{ℕ, ◌≤◌}
use native.Mathlib.Omega.{arith}
use lib.ListN.{take}
use Rattle.rules.specs.Answers.{answer_says}
use Rattle.rules.specs.declared.Step.{Step}
use Rattle.rules.specs.declared.Answer.{Answer}
use Rattle.rules.specs.declared.Answer.TheVariants as answer
use Rattle.rules.proofs.FileFront.{decisive}
use Rattle.text.specs.Lines.{answer_line}
use Rattle.text.proofs.Filling.{put_front}
use Rattle.text.proofs.Lengths.{most_answer, answer_length, line_put}
use Rattle.step.specs.Session.{Moment, moment, after, text, last}
use Rattle.step.specs.Opening.{run_text, RunIs}
use Rattle.step.specs.Serving.{moment_of}
use Rattle.step.specs.Running.{Says, Says.line, AllServed, AllServed.ended, AllServed.piece, Ran}
use Rattle.step.specs.declared.serving.Desk.{Desk}
use Rattle.step.proofs.Sessions.{after-append, text-append, session_bytes}
use Rattle.step.proofs.Openings.{open_front}

-- all that an input prints from a moment on, its end included
abbrev whole : Moment → List ℕ → List ℕ
whole m input = text m input ++ last (after m input)

whole_append : (m : Moment) (a b : List ℕ) → whole m (a ++ b) ≡ text m a ++ whole (after m a) b
whole_append m a b = rw (text-append m a b, after-append m a b) (append_assoc (text m a) (text (after m a) b) (last (after (after m a) b)))

served_whole : {d : Desk} {pieces : List (List ℕ)} {printed : List ℕ} → AllServed d pieces printed → printed ≡ whole (moment_of d) (flatten pieces)
unfolding flatten text after
served_whole (ended room f) = put_front f room
served_whole {d} (piece {bytes = bytes} {pieces = pieces} room s more) =
    cc (put_front s.lines room, served_whole more, s.desk, whole_append (moment_of d) bytes (flatten pieces))

says_line : {a : Answer} {printed : List ℕ} → Says a printed → printed ≡ answer_line a
says_line {a} (line room l) = put_front (line_put most_answer (answer_length a) room l) room

-- an answer's kind tells it from Idle
abbrev pub kind : Answer → ℕ
kind a = (answer_says a).kind

-- by the answer of the start: its line alone, or all calls answered
module _ (r : Step) (input printed : List ℕ) where
  run_text_lem : (a : Answer) → ((a ≡ answer.Idle → ⊥) → printed ≡ answer_line a) → (a ≡ answer.Idle → printed ≡ whole (moment r.state []) input) → printed ≡ run_text r a input
  unfolding run_text
  run_text_lem answer.Idle alone answered = answered refl ∙ session_bytes r.state input
  run_text_lem (answer.Running i) alone answered = alone (λ e. omega (arith, ap kind e))
  run_text_lem (answer.Missed i) alone answered = alone (λ e. omega (arith, ap kind e))
  run_text_lem (answer.Refused f) alone answered = alone (λ e. omega (arith, ap kind e))

-- accepted or refused, with 643 bytes of the file read or more, and in whatever pieces the input came: a run prints what 01 says
pub run_served : (m : ℕ) (file : List ℕ) {pieces : List (List ℕ)} {printed : List ℕ} → decisive ≤ m → Ran (take m file) pieces printed → RunIs file (flatten pieces) printed
run_served m file {pieces} {printed} h r = (
  r.start,
  open_front m file r.start h r.opened,
  run_text_lem r.start (flatten pieces) printed r.start.answer (λ other. says_line (r.alone other))
      (λ idle. let a = r.answered idle in served_whole a.2 ∙ ap (λ (k : Moment). whole k (flatten pieces)) a.1),
)

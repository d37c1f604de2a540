-- Each start and each input in pieces has a run: what is asked of a run leaves no input out. No line is over 50 bytes, so what a piece
-- prints fits a buffer of 50 bytes for each of its own, and any moment is that of a desk.
use mathlib.Core.Path.{◌≡◌, refl, sym, ap, ◌∙◌}
use mathlib.Core.Bool.{Bool, true, false, cond}
use mathlib.Core.List.{List, [], ◌∷◌}
use Prim.Native.Nat.{ℕ, ◌*◌, ◌≤◌}
use native.Mathlib.Omega.{arith}
use lib.ListN.{length, replicate, length-append, length-replicate}
use lib.Seq.{sets}
use lib.Dec.{ltb}
use Rattle.rules.specs.declared.State.{State}
use Rattle.rules.specs.declared.Step.{Step}
use Rattle.rules.specs.declared.Answer.{Answer}
use Rattle.rules.specs.declared.Answer.TheVariants as answer
use Rattle.calls.specs.Line.{call_of}
use Rattle.calls.specs.declared.Call.{Call}
use Rattle.calls.specs.declared.BadLine.{BadLine}
use Rattle.std.specs.Prelude.{Result, Ok, Err}
use Rattle.text.specs.Lines.{answer_line}
use Rattle.text.specs.Buffers.{Put}
use Rattle.text.proofs.Filling.{line_fits}
use Rattle.text.proofs.Lengths.{most_answer, answer_length}
use Rattle.step.specs.Session.{step_of, obeyed, ends, Moment, moment, answered, next, printed, after, text, last}
use Rattle.step.specs.Opening.{OpenIs}
use Rattle.step.specs.Serving.{moment_of, Serves}
use Rattle.step.specs.Running.{Says, Says.line, AllServed, AllServed.ended, AllServed.piece, Ran}
use Rattle.step.specs.declared.serving.Desk.{Desk}
use Rattle.step.proofs.Runs.{kind}

obeyed-length : (s : State) (c : Result Call BadLine) → length (obeyed s c).line ≤ most_answer
unfolding obeyed
obeyed-length s (Ok call) = answer_length (step_of s call).answer
obeyed-length s (Err e) = omega arith

-- a line or nothing
line_if : (b : Bool) (m : Moment) → length (cond b (answered m).line []) ≤ most_answer
line_if true m = obeyed-length m.state (call_of m.line)
line_if false m = omega arith

text-length : (m : Moment) (input : List ℕ) → length (text m input) ≤ 50 * length input
unfolding text printed
text-length m [] = omega arith
text-length m (b ∷ input) =
    rw (length-append (printed m b) (text (next m b) input)) (omega (arith, line_if (ends b) m, text-length (next m b) input))

last-length : (m : Moment) → length (last m) ≤ most_answer
unfolding last
last-length m = line_if (ltb 0 (length m.line)) m

-- a text in a buffer of zeros
abbrev zeros : ℕ → List ℕ
zeros n = replicate n 0

room : (most : ℕ) → most ≤ length (zeros most)
room most = omega (arith, length-replicate {A = ℕ} most 0)

put_some : (most : ℕ) (s : List ℕ) → length s ≤ most → Put most (zeros most) 0 s (length s) (sets (zeros most) 0 s)
put_some most s h = record { place = omega arith; text = refl; short = omega arith }

-- a desk of each moment
abbrev desk_at : Moment → Desk
desk_at m = record { state = m.state; line = m.line }

served_some : (d : Desk) (pieces : List (List ℕ)) → (printed : List ℕ) × AllServed d pieces printed
served_some d [] = let m = moment_of d in (_, ended (room 50) (put_some 50 (last m) (last-length m)))
served_some d (bytes ∷ pieces) =
    let m = moment_of d in
    let s = text m bytes in
    let d' = desk_at (after m bytes) in
    let serves : Serves d bytes (zeros (50 * length bytes)) d' (length s) (sets (zeros (50 * length bytes)) 0 s) =
    record { desk = refl; lines = put_some (50 * length bytes) s (text-length m bytes) } in
    (_, piece (room (50 * length bytes)) serves (served_some d' pieces).1)

says_some : (a : Answer) → (printed : List ℕ) × Says a printed
says_some a =
    let h = answer_length a in
    let l = room most_answer in
    (_, line l (line_fits (omega arith) (put_some most_answer (answer_line a) h)))

module _ (seen : List ℕ) (pieces : List (List ℕ)) (r : Step) (o : OpenIs seen r) where
  said-run : (r.answer ≡ answer.Idle → ⊥) → (printed : List ℕ) × Ran seen pieces printed
  said-run other =
      let s = says_some r.answer in
      (s.0, record { start = r; opened = o; alone = λ _. s.1; answered = λ idle. absurd (other idle) })

  by_answer : (a : Answer) → r.answer ≡ a → (printed : List ℕ) × Ran seen pieces printed
  by_answer answer.Idle e =
      let d = desk_at (moment r.state []) in
      let s = served_some d pieces in
      (s.0, record { start = r; opened = o; alone = λ other. absurd (other e); answered = λ _. (d, refl, s.1) })
  by_answer (answer.Running i) e = said-run (λ idle. omega (arith, ap kind (sym e ∙ idle)))
  by_answer (answer.Missed i) e = said-run (λ idle. omega (arith, ap kind (sym e ∙ idle)))
  by_answer (answer.Refused f) e = said-run (λ idle. omega (arith, ap kind (sym e ∙ idle)))

  pub run_some : (printed : List ℕ) × Ran seen pieces printed
  run_some = by_answer r.answer refl

-- A run of the program as its `main` goes: the machine file is opened, then the input is served piece by piece, then it ends. Of each
-- step all that is known is the contract of the function that was called there: what it requires, and what it ensures.
use Rattle.std.specs.Prelude.{◌≡◌, List, [], ◌∷◌, ◌++◌, ℕ, ◌*◌, ◌≤◌, length, take}
use Rattle.rules.specs.declared.Step.{Step}
use Rattle.rules.specs.declared.Answer.{Answer}
use Rattle.rules.specs.declared.Answer.TheVariants as answer
use Rattle.text.specs.Buffers.{Line}
use Rattle.text.specs.Lines.{answer_line}
use Rattle.step.specs.Session.{moment}
use Rattle.step.specs.Opening.{OpenIs}
use Rattle.step.specs.Serving.{moment_of, Serves, Finishes}
use Rattle.step.specs.declared.serving.Desk.{Desk}

-- an answer's line was put in front of a buffer with room for it, and as many bytes of the buffer were printed
pub data Says (a : Answer) : List ℕ → Type 0 where
  line : {out out' : List ℕ} {n : ℕ} → 50 ≤ length out → Line (answer_line a) out 0 n out' → Says a (take n out')

-- from a desk, the pieces of an input and then its end, each with its own buffer, of which as many bytes were printed as `serve` or
-- `finish` said; a piece finds the moment that the one before it left
pub data AllServed : Desk → List (List ℕ) → List ℕ → Type 0 where
  ended : {d : Desk} {out out' : List ℕ} {n : ℕ} → 50 ≤ length out → Finishes d out n out' → AllServed d [] (take n out')
  piece : {d d' : Desk} {r : ℕ} {bytes out out' more : List ℕ} {pieces : List (List ℕ)} →
      50 * length bytes ≤ length out → Serves d bytes out d' r out' → AllServed d' pieces more → AllServed d (bytes ∷ pieces) (take r out' ++ more)

-- the whole run, where these bytes of the machine file were read, and the input came in these pieces
pub record Ran (seen : List ℕ) (pieces : List (List ℕ)) (printed : List ℕ) : Type 0 where
  pub start : Step
  pub opened : OpenIs seen start
  -- "A refused file prints its refusal alone"
  pub alone : (start.answer ≡ answer.Idle → ⊥) → Says start.answer printed
  -- an accepted one has its calls answered, from its fresh state and no byte of a line
  pub answered : start.answer ≡ answer.Idle → (d : Desk) × (moment_of d ≡ moment start.state []) × AllServed d pieces printed

-- The program's desk as a moment of the session, and what serving a piece of input leaves there and in the lent buffer.
use Rattle.std.specs.Prelude.{◌≡◌, List, ℕ, ◌*◌, length}
use Rattle.text.specs.Buffers.{Put}
use Rattle.step.specs.Session.{Said, Moment, moment, after, text, last}
use Rattle.rules.specs.declared.State.{State}
use Rattle.step.specs.declared.serving.Desk.{Desk}

abbrev pub moment_of : Desk → Moment
moment_of d = moment d.state d.line

-- a call was answered so, and its line printed at a place, up to r
pub record Prints (want : Said) (out : List ℕ) (at : ℕ) (state' : State) (r : ℕ) (out' : List ℕ) : Type 0 where
  pub state : state' ≡ want.state
  pub line : Put 50 out at want.line r out'

-- a piece of the input was served: the moment behind it, and all lines that it completed printed in front of the buffer
pub record Serves (d : Desk) (bytes out : List ℕ) (d' : Desk) (r : ℕ) (out' : List ℕ) : Type 0 where
  pub desk : moment_of d' ≡ after (moment_of d) bytes
  pub lines : Put (50 * length bytes) out 0 (text (moment_of d) bytes) r out'

-- the input ended
abbrev pub Finishes : Desk → List ℕ → ℕ → List ℕ → Type 0
Finishes d out r out' = Put 50 out 0 (last (moment_of d)) r out'

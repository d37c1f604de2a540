-- An answer as one number, for callers in C: its kind, 256 times its number and 65,536 times its value.
use Rattle.std.specs.Prelude.{ℕ, ◌+◌, ◌*◌, ◌<◌}
use Rattle.rules.specs.Answers.{Told, told}
use Rattle.rules.specs.Refusals.{little_room, out_of_range}
use Rattle.board.specs.declared.answers.Kind.{Kind}
use Rattle.board.specs.declared.answers.Kind.TheVariants as kind

abbrev pub coded : Told → ℕ
coded t = t.kind + 256 * t.number + 65536 * t.value

-- the refusals of the boundary itself: too few words lent, and words that encode no state
abbrev pub no_room : Told
no_room = told 0 little_room 0

abbrev pub no_state : Told
no_state = told 0 out_of_range 0

-- an answer whose parts do not run into each other in the number
pub record Narrow (t : Told) : Type 0 where
  pub kind_below : t.kind < 256
  pub number_below : t.number < 256
  pub value_below : t.value < 65536

-- the kinds, by number
abbrev pub kind_number : Kind → ℕ
kind_number kind.Refused = 0
kind_number kind.Running = 1
kind_number kind.Idle = 2
kind_number kind.Missed = 3
kind_number kind.Accepted = 4
kind_number kind.Read = 5

-- A statement by whether there is room: where there is, and where there is not.
use mathlib.Core.Path.{◌≡◌}
use mathlib.Core.Bool.{Bool, true, false}
use Prim.Native.Nat.{ℕ, ◌≤◌, ◌<◌}
use lib.Dec.{leb}
use borrow.Author.Tests.{le-leb, lt-leb}
use Rattle.board.specs.Boundary.{ByRoom}

by_true : (b : Bool) (room none : Type 0) → b ≡ true → room → ByRoom b room none
by_true b room none e x = rw e x

by_false : (b : Bool) (room none : Type 0) → b ≡ false → none → ByRoom b room none
by_false b room none e x = rw e x

module _ (room none : Type 0) (n words : ℕ) where
  pub with_room : n ≤ words → room → ByRoom (leb n words) room none
  with_room h = by_true (leb n words) room none (le-leb n words h)

  pub without_room : words < n → none → ByRoom (leb n words) room none
  without_room h = by_false (leb n words) room none (lt-leb n words h)

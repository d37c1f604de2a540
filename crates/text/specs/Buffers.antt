-- Text in a lent buffer: put at a place, and the place behind it.
use Rattle.std.specs.Prelude.{◌≡◌, Bool, cond, List, ℕ, ◌+◌, ◌≤◌, length, leb}
use Rattle.std.proofs.lemmas.List.Edits.{sets}

-- at most so many bytes were put at a place where there was room
pub record Put (most : ℕ) (out : List ℕ) (at : ℕ) (s : List ℕ) (r : ℕ) (out' : List ℕ) : Type 0 where
  pub place : r ≡ at + length s
  pub text : out' ≡ sets out at s
  pub short : r ≤ at + most

-- a line was put at a place, where it fits, and the answer is the place behind it; else nothing changed and the place is the same
abbrev pub fits : List ℕ → List ℕ → ℕ → Bool
fits line out at = leb (at + length line) (length out)

pub record Line (line out : List ℕ) (at r : ℕ) (out' : List ℕ) : Type 0 where
  pub place : r ≡ cond (fits line out at) (at + length line) at
  pub text : out' ≡ cond (fits line out at) (sets out at line) out

-- Rows of words, one after the other.
use Rattle.std.specs.Prelude.{◌≡◌, List, [], ◌++◌, ℕ, zero, suc, length, take, drop}
use Rattle.std.proofs.lemmas.List.Edits.{sets}

-- f 0, f 1 and so on, below n
abbrev pub rows_of : (ℕ → List ℕ) → ℕ → List ℕ
rows_of f zero = []
rows_of f (suc n) = rows_of f n ++ f n

-- a list of so many words written into others from a place on
pub record Lays (start : ℕ) (l : List ℕ) (n : ℕ) (old new : List ℕ) : Type 0 where
  pub sized : length l ≡ n
  pub holds : new ≡ sets old start l

-- a list that is the part of the words that begins at a place and has n of them
pub record Part (ws : List ℕ) (start n : ℕ) (l : List ℕ) : Type 0 where
  pub is : l ≡ take n (drop start ws)

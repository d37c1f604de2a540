-- A column of words that stand some places apart in words lent by a caller: word k of the column that begins at `start`.
use Rattle.std.specs.Prelude.{Bool, List, ℕ, ◌+◌, ◌*◌, ◌%◌, ◌<◌, get_or, ltb}
use Rattle.rules.specs.Counting.{all_below, map_below}

abbrev pub word_at : List ℕ → ℕ → ℕ → ℕ → ℕ
word_at ws start apart k = get_or ws (start + k * apart) 0

-- the first n words of the column stand within so many words
abbrev pub Within : ℕ → ℕ → ℕ → ℕ → Type 0
Within start apart n words = (k : ℕ) → k < n → start + k * apart < words

-- whether each of them is below a limit
abbrev pub fits_at : List ℕ → ℕ → ℕ → ℕ → ℕ → Bool
fits_at ws start apart limit k = ltb (word_at ws start apart k) limit

abbrev pub below : List ℕ → ℕ → ℕ → ℕ → ℕ → Bool
below ws start apart limit n = all_below (fits_at ws start apart limit) n

-- that each of them is
abbrev pub AllBelow : List ℕ → ℕ → ℕ → ℕ → ℕ → Type 0
AllBelow ws start apart limit n = (k : ℕ) → k < n → word_at ws start apart k < limit

-- f of each of them at the first n places of a list, whose others stay
abbrev pub taken : {A : Type 0} → (ℕ → A) → List ℕ → ℕ → ℕ → ℕ → List A → List A
taken f ws start apart n xs = map_below (λ k _. f (word_at ws start apart k)) n xs

-- a word as it is, and a word cut to a limit
abbrev pub same : ℕ → ℕ
same w = w

abbrev pub cut : ℕ → ℕ → ℕ
cut limit w = w % limit

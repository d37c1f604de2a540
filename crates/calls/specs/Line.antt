-- 01: "Standard input has one call a line: `t`, or `c`, a space and a decimal 32-bit word (one to ten digits, at most 4,294,967,295)."
use Rattle.std.specs.Prelude.{Bool, true, cond, not, ◌&&◌, ◌||◌, List, [], ◌∷◌, ℕ, ◌+◌, ◌*◌, ◌-◌, length, ltb, eqb, Result, Ok, Err}
use Rattle.calls.specs.declared.Call.{Call}
use Rattle.calls.specs.declared.Call.TheVariants.{Tick, Complete}
use Rattle.calls.specs.declared.BadLine.{BadLine}

-- the bytes of `t`, `c`, a space, `0` and `9`
abbrev pub tick_letter : ℕ
tick_letter = 116

abbrev pub complete_letter : ℕ
complete_letter = 99

abbrev pub space : ℕ
space = 32

abbrev pub digit0 : ℕ
digit0 = 48

abbrev pub digit9 : ℕ
digit9 = 57

-- a byte that is no digit
abbrev pub foreign : ℕ → Bool
foreign d = ltb d digit0 || ltb digit9 d

unfoldable pub all_digits : List ℕ → Bool
all_digits [] = true
all_digits (d ∷ ds) = not (foreign d) && all_digits ds

-- the number that the digits write, behind the number v
unfoldable pub value : ℕ → List ℕ → ℕ
value v [] = v
value v (d ∷ ds) = value (v * 10 + (d - digit0)) ds

-- what a line that is none of the calls is answered
abbrev pub bad : {A : Type 0} → Result A BadLine
bad = Err (record {})

-- "a decimal 32-bit word (one to ten digits, at most 4,294,967,295)"
unfoldable pub word_of : List ℕ → Result ℕ BadLine
word_of ds =
    cond (ltb (length ds) 1 || ltb 10 (length ds)) bad
    (cond (all_digits ds) (cond (ltb 4294967295 (value 0 ds)) bad (Ok (value 0 ds))) bad)

-- a call with this word, or a bad line with no word
abbrev pub completion : Result ℕ BadLine → Result Call BadLine
completion (Ok w) = Ok (Complete w)
completion (Err e) = Err e

-- "`t`, or `c`, a space and a .. word"; "any other line" is bad
unfoldable pub call_of : List ℕ → Result Call BadLine
call_of [] = bad
call_of (x ∷ []) = cond (eqb x tick_letter) (Ok Tick) bad
call_of (x ∷ y ∷ ds) = cond (not (eqb x complete_letter) || not (eqb y space)) bad (completion (word_of ds))

-- How long a line can be, so that a caller knows that its buffer has room: then the line is put whole.
use mathlib.Core.List.{List}
use Prim.Native.Nat.{ℕ, ◌+◌, ◌≤◌}
use native.Mathlib.Omega.{arith}
use lib.ListN.{length, length-append}
use borrow.Author.Tests.{le-leb}
use Rattle.rules.specs.declared.Answer.{Answer}
use Rattle.text.specs.declared.Spoken.{Spoken}
use Rattle.text.specs.declared.Spoken.TheVariants as spoken
use Rattle.text.specs.Lines.{spoken_line, spoken_of, answer_line, refused_line, table_row}
use Rattle.text.specs.Buffers.{Put, Line}
use Rattle.text.proofs.Digits.{decimal-length}

-- the longest line of an answer, and the longest row
abbrev pub most_answer : ℕ
most_answer = 50

abbrev pub most_row : ℕ
most_row = 84

pub refusal_length : (number place : ℕ) → length (refused_line number place) ≤ most_answer
refusal_length number place = simp length-append (omega (arith, decimal-length number, decimal-length place))

pub spoken_length : (a : Spoken) → length (spoken_line a) ≤ most_answer
unfolding spoken_line
spoken_length (spoken.Running i) = simp length-append (omega (arith, decimal-length i))
spoken_length spoken.Idle = omega arith
spoken_length (spoken.Missed i) = simp length-append (omega (arith, decimal-length i))
spoken_length (spoken.Refused number place) = refusal_length number place

pub answer_length : (a : Answer) → length (answer_line a) ≤ most_answer
answer_length a = spoken_length (spoken_of a)

pub row_length : (place task deadline criticality : ℕ) → length (table_row place task deadline criticality) ≤ most_row
row_length place task deadline criticality =
    simp length-append (omega (arith, decimal-length place, decimal-length task, decimal-length deadline, decimal-length criticality))

-- a line that is short enough was put
pub line_put : {line out out' : List ℕ} {at r : ℕ} (most : ℕ) → length line ≤ most → at + most ≤ length out → Line line out at r out' → Put most out at line r out'
line_put {line = line} {out = out} {at = at} most h l k =
    let f = le-leb (at + length line) (length out) (omega arith) in
    let e = rw f at k.place in
    record { place = e; text = rw f at k.text; short = omega arith }

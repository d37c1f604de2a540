-- How many values a word can have: any word is of 32 bits, a time of 16, a criticality and a task number of 8, a mark is 0 or 1, a
-- phase 0 to 2.
use Rattle.std.specs.Prelude.{ℕ}

abbrev pub wholes : ℕ
wholes = 4294967296

abbrev pub times : ℕ
times = 65536

abbrev pub bytes : ℕ
bytes = 256

abbrev pub marks : ℕ
marks = 2

abbrev pub phases : ℕ
phases = 3

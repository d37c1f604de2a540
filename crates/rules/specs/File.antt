-- 01, "the machine file": a run of records, each behind a two-byte mark in ASCII.
use Rattle.std.specs.Prelude.{cond, ◌||◌, List, [], ◌∷◌, ◌++◌, ℕ, zero, suc, ◌+◌, ◌*◌, length, get_or, drop, ltb, leb, eqb}
use Rattle.std.proofs.lemmas.List.Edits.{sets}
use Rattle.rules.specs.Sizes.{most_tasks, most_rows, most_task_words, most_row_words}
use Rattle.rules.specs.Refusals.{little_room, unknown_mark, cut_short, too_many, end_wanted}

-- "two bytes each, low byte first"
abbrev pub word : ℕ → ℕ → ℕ
word low high = low + high * 256

-- the marks in ASCII, as a number with the first letter in the high byte
abbrev pub TK : ℕ
TK = 0x544B

abbrev pub CN : ℕ
CN = 0x434E

abbrev pub EN : ℕ
EN = 0x454E

-- "TK has eight bytes (period, deadline, compute as two bytes each, low byte first; criticality; flag)": the task's five words
unfoldable pub task_row : List ℕ → List ℕ
task_row b =
    word (get_or b 0 0) (get_or b 1 0) ∷ word (get_or b 2 0) (get_or b 3 0) ∷ word (get_or b 4 0) (get_or b 5 0)
    ∷ get_or b 6 0 ∷ get_or b 7 0 ∷ []

-- "CN has three bytes (sender, receiver, kind)": the row's three words
unfoldable pub connection_row : List ℕ → List ℕ
connection_row b = get_or b 0 0 ∷ get_or b 1 0 ∷ get_or b 2 0 ∷ []

-- what stands at one place of the file
pub data Item : Type 0 where
  task : List ℕ → Item
  connection : List ℕ → Item
  end : Item
  refusal : ℕ → ℕ → Item

-- "The mark decides the record", at byte `at` behind t tasks and c connections, with `body` the file after the mark: room
-- (12), then body (11); EN has none and ends the file (13); any other mark is unknown (10)
unfoldable pub marked : ℕ → ℕ → ℕ → ℕ → List ℕ → Item
marked mark at t c body =
    cond (eqb mark TK)
    (cond (leb most_tasks t) (refusal too_many at) (cond (ltb (length body) 8) (refusal cut_short at) (task (task_row body))))
    (cond (eqb mark CN)
    (cond (leb most_rows c) (refusal too_many at) (cond (ltb (length body) 3) (refusal cut_short at) (connection (connection_row body))))
    (cond (eqb mark EN)
    (cond (ltb 0 (length body)) (refusal end_wanted (at + 2)) end)
    (refusal unknown_mark at)))

-- the record at byte `at`, where the list is the rest of the file: "no bytes left" (13), "one byte left" (11), else by its mark
unfoldable pub item_at : ℕ → ℕ → ℕ → List ℕ → Item
item_at at t c [] = refusal end_wanted at
item_at at t c (x ∷ []) = refusal cut_short at
item_at at t c (x ∷ y ∷ body) = marked (word y x) at t c body

-- the whole file, record by record, up to its end or its first refusal
pub data Contents : Type 0 where
  task : List ℕ → Contents → Contents
  connection : List ℕ → Contents → Contents
  end : Contents
  refusal : ℕ → ℕ → Contents

-- a TK record takes ten bytes with its mark, a CN record five
unfoldable pub onward : Item → (ℕ → ℕ → ℕ → List ℕ → Contents) → ℕ → ℕ → ℕ → List ℕ → Contents
onward (task ws) more at t c rest = task ws (more (at + 10) (t + 1) c (drop 10 rest))
onward (connection ws) more at t c rest = connection ws (more (at + 5) t (c + 1) (drop 5 rest))
onward end more at t c rest = end
onward (refusal n p) more at t c rest = refusal n p

-- 32 tasks, 64 connections and the end are the most records that are looked at: `contents_ends` shows that the zero line is never reached
abbrev pub most_records : ℕ
most_records = most_tasks + most_rows + 1

unfoldable pub records : ℕ → ℕ → ℕ → ℕ → List ℕ → Contents
records zero at t c rest = refusal 0 0
records (suc n) at t c rest = onward (item_at at t c rest) (records n) at t c rest

abbrev pub contents_of : List ℕ → Contents
contents_of file = records most_records 0 0 0 file

-- "It answers how many tasks and connections it read", or a refusal's number and place
pub data Reading : Type 0 where
  Read : ℕ → ℕ → Reading
  Refused : ℕ → ℕ → Reading

unfoldable pub reading_of : ℕ → ℕ → Contents → Reading
reading_of t c (task ws more) = reading_of (t + 1) c more
reading_of t c (connection ws more) = reading_of t (c + 1) more
reading_of t c end = Read t c
reading_of t c (refusal n p) = Refused n p

-- "The reader fills the tables in file order": the words of all tasks, and of all connections
unfoldable pub task_words : Contents → List ℕ
task_words (task ws more) = ws ++ task_words more
task_words (connection ws more) = task_words more
task_words end = []
task_words (refusal n p) = []

unfoldable pub connection_words : Contents → List ℕ
connection_words (task ws more) = connection_words more
connection_words (connection ws more) = ws ++ connection_words more
connection_words end = []
connection_words (refusal n p) = []

-- "The reader tests 9 first, then goes record by record"; it is lent tables of so many words
unfoldable pub read_of : List ℕ → ℕ → ℕ → Reading
read_of file taskRoom rowRoom =
    cond (ltb taskRoom most_task_words || ltb rowRoom most_row_words) (Refused little_room 0)
    (reading_of 0 0 (contents_of file))

-- "Words past the filled rows stay unchanged"; "a refused reader changes neither table"
unfoldable pub filled : Reading → List ℕ → List ℕ → List ℕ
filled (Read t c) words table = sets table 0 words
filled (Refused n p) words table = table

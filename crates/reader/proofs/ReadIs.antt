-- Laws of what `read` promises: how it follows from the answer that the rules give, and that it admits one outcome only.
use Rattle.std.proofs.lemmas.Bool.Decides.{nat_tests}
use mathlib.Core.Path.{◌≡◌, refl, ap, sym, ◌∙◌}
use mathlib.Core.Logic.{◌⊎◌}
use mathlib.Core.Bool.{Bool, true, false, ◌||◌}
use mathlib.Core.List.{List}
use Prim.Native.Nat.{ℕ, ◌+◌, ◌*◌, ◌≤◌, ◌<◌}
use native.Mathlib.Omega.{arith}
use lib.ListN.{length, take, drop}
use lib.Seq.{sets, sets-eq, length-sets, take_at}
use lib.Dec.{ltb}
use Rattle.rules.specs.File.{Reading, contents_of, reading_of, task_words, connection_words, read_of, filled}
use Rattle.rules.specs.declared.Counts.{Counts}
use Rattle.rules.specs.declared.Refusal.{Refusal}
use Rattle.rules.specs.declared.Refusal.TheVariants.{LittleRoom}
use Rattle.std.specs.Prelude.{Result, Ok, Err}
use borrow.Author.Tests.{ltb-false}
use Rattle.rules.proofs.Answers.{reading_says-injective, read_says-injective}
use Rattle.rules.specs.Refusals.{little_room}
use Rattle.rules.proofs.Tests.{by_test, or_false}
use Rattle.rules.proofs.File as file_laws
use Rattle.rules.proofs.File.{contents_counts}
use Rattle.rules.specs.Sizes.{most_task_words, most_row_words}
use Rattle.rules.specs.Answers.{number_of, place_of, reading_says, read_says}
use Rattle.reader.specs.Read.{asked, stored, ReadIs, PassIs}

-- the reader's answer as what the rules say
abbrev pub read_as : Result Counts Refusal → Reading
read_as (Ok n) = Reading.Read n.tasks n.connections
read_as (Err f) = Reading.Refused (number_of f) (place_of f)

as_says : (r : Result Counts Refusal) → reading_says (read_as r) ≡ read_says r
as_says (Ok n) = refl
as_says (Err f) = refl

pub told_as : (r : Result Counts Refusal) (a : Reading) → read_says r ≡ reading_says a → read_as r ≡ a
told_as r a told = reading_says-injective (read_as r) a (as_says r ∙ told)

-- both tables have room, or not
abbrev Short : List ℕ → List ℕ → Type 0
Short tasks connections = (length tasks < 160) ⊎ (160 ≤ length tasks × (length connections < 192))

abbrev Roomy : List ℕ → List ℕ → Type 0
Roomy tasks connections = (160 ≤ length tasks) × (192 ≤ length connections)

abbrev short : List ℕ → List ℕ → Bool
short tasks connections = ltb (length tasks) most_task_words || ltb (length connections) most_row_words

pub roomy : (tasks connections : List ℕ) → short tasks connections ≡ false → (most_task_words ≤ length tasks) × (most_row_words ≤ length connections)
roomy tasks connections e =
    let b = or_false (ltb (length tasks) most_task_words) (ltb (length connections) most_row_words) e in
    (ltb-false (length tasks) most_task_words b.0, ltb-false (length connections) most_row_words b.1)

-- from the answer that the rules give
read_refusal : (file tasks connections : List ℕ) (f : Refusal) → asked file tasks connections ≡ Reading.Refused (number_of f) (place_of f) → ReadIs file tasks connections (Err f) tasks connections
unfolding filled
read_refusal file tasks connections f e = record { told = rw e; task_table = rw e; row_table = rw e }

asked-short : (file tasks connections : List ℕ) → short tasks connections ≡ true → asked file tasks connections ≡ Reading.Refused little_room 0
unfolding read_of
asked-short file tasks connections h = rw h

refused-read : {n p t c : ℕ} → Reading.Refused n p ≡ Reading.Read t c → ⊥
refused-read e = let z : ◌≡◌ {A = ℕ} 0 1 = cc in omega arith

is_short : (tasks connections : List ℕ) → Short tasks connections → short tasks connections ≡ true
is_short tasks connections h = grind (arith, nat_tests)

is_roomy : (tasks connections : List ℕ) → Roomy tasks connections → short tasks connections ≡ false
is_roomy tasks connections h = grind (arith, nat_tests)

pub read_short : (file tasks connections : List ℕ) → Short tasks connections → ReadIs file tasks connections (Err LittleRoom) tasks connections
read_short file tasks connections h = read_refusal file tasks connections LittleRoom (asked-short file tasks connections (is_short tasks connections h))

module _ (file tasks connections : List ℕ) (room : Roomy tasks connections) where
  asked-contents : asked file tasks connections ≡ reading_of 0 0 (contents_of file)
  unfolding read_of
  asked-contents = rw (is_roomy tasks connections room)

  asked-pass : (r : Result Counts Refusal) → read_says r ≡ reading_says (reading_of 0 0 (contents_of file)) → asked file tasks connections ≡ read_as r
  asked-pass r told = asked-contents ∙ sym (told_as r (reading_of 0 0 (contents_of file)) told)

  -- a pass that stores nothing leaves both tables as they were
  pub read_refused : (f : Refusal) (tasks' connections' : List ℕ) → PassIs false file tasks connections (Err f) tasks' connections' → ReadIs file tasks connections (Err f) tasks' connections'
  read_refused f tasks' connections' h = rw (h.task_table, h.row_table) (read_refusal file tasks connections f (asked-pass (Err f) h.told))

  pub read_accepted : (n : Counts) (r : Result Counts Refusal) (tasks' connections' tasks'' connections'' : List ℕ) → PassIs false file tasks connections (Ok n) tasks' connections' → PassIs true file tasks' connections' r tasks'' connections'' → ReadIs file tasks connections r tasks'' connections''
  unfolding filled
  read_accepted n r tasks' connections' tasks'' connections'' h k =
      let e = asked-pass (Ok n) h.told in
      record {
        told = k.told ∙ ap reading_says (sym asked-contents);
        task_table = rw e (k.task_table ∙ ap (λ (l : List ℕ). stored true l 0 (task_words (contents_of file))) h.task_table);
        row_table = rw e (k.row_table ∙ ap (λ (l : List ℕ). stored true l 0 (connection_words (contents_of file))) h.row_table);
      }

-- two outcomes that meet the statement are equal
pub read_one : (file tasks connections : List ℕ) (r q : Result Counts Refusal) (t u c d : List ℕ) → ReadIs file tasks connections r t c → ReadIs file tasks connections q u d → (r ≡ q) × (t ≡ u) × (c ≡ d)
read_one file tasks connections r q t u c d a b =
    (read_says-injective r q (a.told ∙ sym b.told), a.task_table ∙ sym b.task_table, a.row_table ∙ sym b.row_table)

-- ---------------------------------------------------------------------------------------------------------------------------
-- what a caller learns

-- a file was accepted: the words of its tasks and connections, whole rows, stand in front of the tables
pub record Accepted (file : List ℕ) (t c : ℕ) (tasks connections : List ℕ) : Type 0 where
  pub counts : file_laws.Counts t c (task_words (contents_of file)) (connection_words (contents_of file))
  pub task_room : t * 5 ≤ length tasks
  pub row_room : c * 3 ≤ length connections
  pub task_front : take (t * 5) tasks ≡ task_words (contents_of file)
  pub row_front : take (c * 3) connections ≡ connection_words (contents_of file)

front : (ws table : List ℕ) (n : ℕ) → length ws ≡ n → n ≤ length table → take n (sets table 0 ws) ≡ ws
front ws table n e h = rw (sets-eq ws table 0 (omega arith)) (take_at ws (drop (0 + length ws) table) n e)

module _ {file tasks connections tasks' connections' : List ℕ} where
  -- the answer is the one that the rules give
  pub read_answer : {r : Result Counts Refusal} → ReadIs file tasks connections r tasks' connections' → asked file tasks connections ≡ read_as r
  read_answer {r} h = sym (told_as r (asked file tasks connections) h.told)

  pub read_tables : {r : Result Counts Refusal} {t c : ℕ} → ReadIs file tasks connections r tasks' connections' → r ≡ Ok (record { tasks = t; connections = c }) → Accepted file t c tasks' connections'
  unfolding filled
  read_tables {t = t} {c = c} h q =
      let e : asked file tasks connections ≡ Reading.Read t c = read_answer h ∙ ap read_as q in
      by_test (short tasks connections) (λ s. absurd (refused-read (sym (asked-short file tasks connections s) ∙ e)))
      (λ s.
      let room = roomy tasks connections s in
      let k = contents_counts file t c (sym (asked-contents file tasks connections room) ∙ e) in
      let f : tasks' ≡ sets tasks 0 (task_words (contents_of file)) = rw e at h.task_table in
      let g : connections' ≡ sets connections 0 (connection_words (contents_of file)) = rw e at h.row_table in
      let task-length : length tasks' ≡ length tasks = ap length f ∙ length-sets tasks 0 (task_words (contents_of file)) in
      let row_length : length connections' ≡ length connections = ap length g ∙ length-sets connections 0 (connection_words (contents_of file)) in
      record {
        counts = k;
        task_room = omega (arith, k.few_tasks);
        row_room = omega (arith, k.few_rows);
        task_front = rw f (front (task_words (contents_of file)) tasks (t * 5) k.task_words (omega (arith, k.few_tasks)));
        row_front = rw g (front (connection_words (contents_of file)) connections (c * 3) k.row_words (omega (arith, k.few_rows)));
      })

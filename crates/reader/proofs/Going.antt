-- A pass over the records, from byte `at` on, behind t tasks and c connections: what is left of the file, done from here, gives what
-- the whole file gives from its start. A record that is read keeps this, and at the file's end nothing is left.
use mathlib.Core.Path.{◌≡◌, refl, ap, sym, subst, ◌∙◌}
use mathlib.Core.Bool.{Bool, true, false}
use mathlib.Core.List.{List, [], ◌++◌}
use Prim.Native.Nat.{ℕ, ◌+◌, ◌*◌, ◌-◌, ◌≤◌}
use native.Mathlib.Omega.{arith}
use lib.ListN.{length, drop}
use Rattle.rules.specs.Sizes.{most_tasks, most_rows}
use Rattle.rules.specs.File.{Item, item_at, contents_of, reading_of, task_words, connection_words}
use Rattle.rules.specs.Answers.{number_of, place_of, reading_says}
use Rattle.std.specs.Prelude.{Ok, Err}
use Rattle.rules.specs.declared.Refusal.{Refusal}
use Rattle.rules.proofs.Parts.{sets_then}
use Rattle.rules.proofs.File.{Sound, left, left_task, left_connection, left_end, left_refusal, sound_here}
use Rattle.reader.specs.Read.{stored, PassIs}

-- words that are stored, or not, and then more behind them
stored-then : (b : Bool) (l : List ℕ) (i : ℕ) (ws vs : List ℕ) → stored b (stored b l i ws) (i + length ws) vs ≡ stored b l i (ws ++ vs)
stored-then true l i ws vs = sets_then ws vs l i
stored-then false l i ws vs = refl

stored-none : (b : Bool) (l : List ℕ) (i : ℕ) → stored b l i [] ≡ l
stored-none true l i = refl
stored-none false l i = refl

pub record Going (store : Bool) (file tasks₀ connections₀ tasks connections : List ℕ) (at t c : ℕ) : Type 0 where
  pub few_tasks : t ≤ most_tasks
  pub few_rows : c ≤ most_rows
  pub within : at ≤ length file
  pub task_room : length tasks ≡ length tasks₀
  pub row_room : length connections ≡ length connections₀
  pub answer : reading_of t c (left file at t c) ≡ reading_of 0 0 (contents_of file)
  pub task_table : stored store tasks (t * 5) (task_words (left file at t c)) ≡ stored store tasks₀ 0 (task_words (contents_of file))
  pub row_table : stored store connections (c * 3) (connection_words (left file at t c)) ≡ stored store connections₀ 0 (connection_words (contents_of file))

module _ {store : Bool} {file tasks₀ connections₀ tasks connections : List ℕ} {at t c : ℕ} (g : Going store file tasks₀ connections₀ tasks connections at t c) where
  abbrev here : Item
  here = item_at at t c (drop at file)

  -- what the item here shows
  pub shows : (i : Item) → here ≡ i → Sound at t c (length file - at) i
  shows i e = subst (Sound at t c (length file - at)) e (sound_here file at t c g.few_tasks g.few_rows)

  pub going_task : (ws tasks' : List ℕ) → here ≡ Item.task ws → tasks' ≡ stored store tasks (t * 5) ws → length tasks' ≡ length tasks → Going store file tasks₀ connections₀ tasks' connections (at + 10) (t + 1) c
  unfolding reading_of task_words connection_words
  going_task ws tasks' h e kept =
      let s = shows (Item.task ws) h in
      let l = left_task file at t c g.few_tasks g.few_rows ws h in
      let place : (t + 1) * 5 ≡ t * 5 + length ws = omega arith in
      record {
        few_tasks = omega arith;
        few_rows = g.few_rows;
        within = omega arith;
        task_room = kept ∙ g.task_room;
        row_room = g.row_room;
        answer = rw l at g.answer;
        task_table = rw (place, e) (stored-then store tasks (t * 5) ws (task_words (left file (at + 10) (t + 1) c)) ∙ (rw l at g.task_table));
        row_table = rw l at g.row_table;
      }

  pub going_connection : (ws connections' : List ℕ) → here ≡ Item.connection ws → connections' ≡ stored store connections (c * 3) ws → length connections' ≡ length connections → Going store file tasks₀ connections₀ tasks connections' (at + 5) t (c + 1)
  unfolding reading_of task_words connection_words
  going_connection ws connections' h e kept =
      let s = shows (Item.connection ws) h in
      let l = left_connection file at t c g.few_tasks g.few_rows ws h in
      let place : (c + 1) * 3 ≡ c * 3 + length ws = omega arith in
      record {
        few_tasks = g.few_tasks;
        few_rows = omega arith;
        within = omega arith;
        task_room = g.task_room;
        row_room = kept ∙ g.row_room;
        answer = rw l at g.answer;
        task_table = rw l at g.task_table;
        row_table = rw (place, e) (stored-then store connections (c * 3) ws (connection_words (left file (at + 5) t (c + 1))) ∙ (rw l at g.row_table));
      }

  pub pass_end : here ≡ Item.end → PassIs store file tasks₀ connections₀ (Ok (record { tasks = t; connections = c })) tasks connections
  unfolding reading_of task_words connection_words
  pass_end h =
      let l = left_end file at t c g.few_tasks g.few_rows h in
      record {
        told = ap reading_says (rw l at g.answer);
        task_table = sym (stored-none store tasks (t * 5)) ∙ (rw l at g.task_table);
        row_table = sym (stored-none store connections (c * 3)) ∙ (rw l at g.row_table);
      }

  pub pass_refusal : (f : Refusal) → here ≡ Item.refusal (number_of f) (place_of f) → PassIs store file tasks₀ connections₀ (Err f) tasks connections
  unfolding reading_of task_words connection_words
  pass_refusal f h =
      let l = left_refusal file at t c g.few_tasks g.few_rows (number_of f) (place_of f) h in
      record {
        told = ap reading_says (rw l at g.answer);
        task_table = sym (stored-none store tasks (t * 5)) ∙ (rw l at g.task_table);
        row_table = sym (stored-none store connections (c * 3)) ∙ (rw l at g.row_table);
      }

pub going_start : (store : Bool) (file tasks connections : List ℕ) → Going store file tasks connections tasks connections 0 0 0
going_start store file tasks connections = record {
  few_tasks = omega arith;
  few_rows = omega arith;
  within = omega arith;
  task_room = refl;
  row_room = refl;
  answer = refl;
  task_table = refl;
  row_table = refl;
}

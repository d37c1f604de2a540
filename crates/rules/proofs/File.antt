-- Laws of the machine file (01, "The two tables and the machine file"): what a record that is read shows, how the file goes on behind
-- it, that the count of records never runs out, and how many tasks and connections an accepted file has.
use mathlib.Core.Path.{◌≡◌, refl, subst, ◌∙◌}
use mathlib.Core.List.{List, [], ◌∷◌}
use Prim.Native.Nat.{ℕ, zero, suc, ◌+◌, ◌*◌, ◌-◌, ◌≤◌, ◌<◌}
use native.Mathlib.Omega.{arith}
use native.Mathlib.Numerals.{add-one, add-two}
use native.Mathlib.Nat.{zero-add}
use lib.ListN.{length, get_or, drop, length-drop, length-append, drop_of_length-le}
use lib.Seq.{drop-cons, drop-drop}
use lib.Dec.{ltb, leb, eqb}
use borrow.Author.Tests.{ltb-false, leb-false}
use Rattle.rules.specs.Sizes.{most_tasks, most_rows}
use Rattle.rules.specs.Tables.{count, rows}
use Rattle.rules.specs.Refusals.{cut_short, end_wanted}
use Rattle.rules.specs.File.{Reading, word, TK, CN, EN, task_row, connection_row, Item, marked, item_at, Contents, onward, records, most_records, contents_of, reading_of, task_words, connection_words}
use Rattle.rules.proofs.Tests.{cond_by}

-- ---------------------------------------------------------------------------------------------------------------------------
-- one record

-- what an item says of the room, of the n bytes left and of its words; a refusal is one of 10 to 13, at a place within the file
abbrev pub Sound : ℕ → ℕ → ℕ → ℕ → Item → Type 0
Sound at t c n (Item.task ws) = (t < most_tasks) × (10 ≤ n) × (length ws ≡ 5)
Sound at t c n (Item.connection ws) = (c < most_rows) × (5 ≤ n) × (length ws ≡ 3)
Sound at t c n Item.end = Unit {0}
Sound at t c n (Item.refusal k p) = (10 ≤ k) × (k ≤ 13) × (p ≤ at + n)

marked-sound : (m at t c : ℕ) (body : List ℕ) → Sound at t c (suc (suc (length body))) (marked m at t c body)
unfolding marked task_row connection_row
marked-sound m at t c body =
    let P = Sound at t c (suc (suc (length body))) in
    cond_by P (eqb m TK) _ _
    (λ _. cond_by P (leb most_tasks t) _ _ (λ _. (omega arith, omega arith, omega arith))
    (λ u. cond_by P (ltb (length body) 8) _ _ (λ _. (omega arith, omega arith, omega arith))
    (λ v. (leb-false most_tasks t u, omega (arith, ltb-false (length body) 8 v), refl))))
    (λ _. cond_by P (eqb m CN) _ _
    (λ _. cond_by P (leb most_rows c) _ _ (λ _. (omega arith, omega arith, omega arith))
    (λ u. cond_by P (ltb (length body) 3) _ _ (λ _. (omega arith, omega arith, omega arith))
    (λ v. (leb-false most_rows c u, omega (arith, ltb-false (length body) 3 v), refl))))
    (λ _. cond_by P (eqb m EN) _ _
    (λ _. cond_by P (ltb 0 (length body)) _ _ (λ _. (omega arith, omega arith, omega arith)) (λ _. tt))
    (λ _. (omega arith, omega arith, omega arith))))

pub item_sound : (at t c : ℕ) (rest : List ℕ) → Sound at t c (length rest) (item_at at t c rest)
unfolding item_at
item_sound at t c [] = (omega arith, omega arith, omega arith)
item_sound at t c (x ∷ []) = (omega arith, omega arith, omega arith)
item_sound at t c (x ∷ y ∷ body) = marked-sound (word y x) at t c body

-- the item at a byte of a file: past its end, at its last byte, and before
pub item_none : (file : List ℕ) (at t c : ℕ) → length file ≤ at → item_at at t c (drop at file) ≡ Item.refusal end_wanted at
unfolding item_at
item_none file at t c h = rw (drop_of_length-le file h)

pub item_cut : (file : List ℕ) (at t c : ℕ) → at < length file → length file - at ≡ 1 → item_at at t c (drop at file) ≡ Item.refusal cut_short at
unfolding item_at
item_cut file at t c h e = let l : length file ≤ suc at = omega arith in rw (drop-cons file at 0 h, drop_of_length-le file l)

pub item_marked : (file : List ℕ) (at t c : ℕ) → at + 2 ≤ length file → item_at at t c (drop at file) ≡ marked (word (get_or file (at + 1) 0) (get_or file at 0)) at t c (drop (at + 2) file)
unfolding item_at
item_marked file at t c h =
    let a : at < length file = omega arith in
    let b : suc at < length file = omega arith in
    rw (add-one, add-two, drop-cons file at 0 a, drop-cons file (suc at) 0 b)

-- ---------------------------------------------------------------------------------------------------------------------------
-- what is left of a file

-- from byte `at` on, behind t tasks and c connections
abbrev pub left : List ℕ → ℕ → ℕ → ℕ → Contents
left file at t c = records (most_records - (t + c)) at t c (drop at file)

module _ (file : List ℕ) (at t c : ℕ) (few_tasks : t ≤ most_tasks) (few_rows : c ≤ most_rows) where
  abbrev here : Item
  here = item_at at t c (drop at file)

  left_here : left file at t c ≡ onward here (records (96 - (t + c))) at t c (drop at file)
  unfolding records
  left_here = let e : most_records - (t + c) ≡ suc (96 - (t + c)) = omega arith in rw e

  pub left_task : (ws : List ℕ) → here ≡ Item.task ws → left file at t c ≡ Contents.task ws (left file (at + 10) (t + 1) c)
  unfolding onward
  left_task ws h = let e : 96 - (t + c) ≡ most_records - (t + 1 + c) = omega arith in left_here ∙ rw (h, drop-drop 10 at file, e)

  pub left_connection : (ws : List ℕ) → here ≡ Item.connection ws → left file at t c ≡ Contents.connection ws (left file (at + 5) t (c + 1))
  unfolding onward
  left_connection ws h = let e : 96 - (t + c) ≡ most_records - (t + (c + 1)) = omega arith in left_here ∙ rw (h, drop-drop 5 at file, e)

  pub left_end : here ≡ Item.end → left file at t c ≡ Contents.end
  unfolding onward
  left_end h = left_here ∙ rw h

  pub left_refusal : (n p : ℕ) → here ≡ Item.refusal n p → left file at t c ≡ Contents.refusal n p
  unfolding onward
  left_refusal n p h = left_here ∙ rw h

  pub sound_here : Sound at t c (length file - at) here
  sound_here = rw length-drop at (item_sound at t c (drop at file))

-- ---------------------------------------------------------------------------------------------------------------------------
-- the whole file

-- what an answer says of the contents behind t tasks and c connections, in a file of so many bytes
abbrev pub Tells : ℕ → ℕ → ℕ → Contents → Reading → Type 0
Tells size t c k (Reading.Read t' c') =
    (t' ≤ most_tasks) × (c' ≤ most_rows) × (length (task_words k) + t * 5 ≡ t' * 5) × (length (connection_words k) + c * 3 ≡ c' * 3)
Tells size t c k (Reading.Refused n p) = (10 ≤ n) × (n ≤ 13) × (p ≤ size)

tells_task : (size t c : ℕ) (ws : List ℕ) (k : Contents) (r : Reading) → length ws ≡ 5 → Tells size (t + 1) c k r → Tells size t c (Contents.task ws k) r
unfolding task_words connection_words
tells_task size t c ws k (Reading.Read t' c') e h = (h.0, h.1, omega (arith, length-append ws (task_words k)), h.3)
tells_task size t c ws k (Reading.Refused n p) e h = h

tells_connection : (size t c : ℕ) (ws : List ℕ) (k : Contents) (r : Reading) → length ws ≡ 3 → Tells size t (c + 1) k r → Tells size t c (Contents.connection ws k) r
unfolding task_words connection_words
tells_connection size t c ws k (Reading.Read t' c') e h = (h.0, h.1, h.2, omega (arith, length-append ws (connection_words k)))
tells_connection size t c ws k (Reading.Refused n p) e h = h

-- the count of records never runs out: each record but the last uses up room, and there is room for 32 tasks and 64 connections
module _ (n : ℕ) (more : (at t c : ℕ) (rest : List ℕ) → t ≤ most_tasks → c ≤ most_rows → most_records ≤ n + (t + c) → Tells (at + length rest) t c (records n at t c rest) (reading_of t c (records n at t c rest))) where
  onward-tells : (i : Item) (at t c : ℕ) (rest : List ℕ) → Sound at t c (length rest) i → t ≤ most_tasks → c ≤ most_rows → most_records ≤ suc n + (t + c) → Tells (at + length rest) t c (onward i (records n) at t c rest) (reading_of t c (onward i (records n) at t c rest))
  unfolding onward reading_of task_words connection_words
  onward-tells (Item.task ws) at t c rest s a b e =
      let k = records n (at + 10) (t + 1) c (drop 10 rest) in
      let size : at + 10 + length (drop 10 rest) ≡ at + length rest = omega (arith, length-drop 10 rest) in
      tells_task (at + length rest) t c ws k (reading_of (t + 1) c k) s.2
      (subst (λ (z : ℕ). Tells z (t + 1) c k (reading_of (t + 1) c k)) size (more (at + 10) (t + 1) c (drop 10 rest) (omega arith) b (omega arith)))
  onward-tells (Item.connection ws) at t c rest s a b e =
      let k = records n (at + 5) t (c + 1) (drop 5 rest) in
      let size : at + 5 + length (drop 5 rest) ≡ at + length rest = omega (arith, length-drop 5 rest) in
      tells_connection (at + length rest) t c ws k (reading_of t (c + 1) k) s.2
      (subst (λ (z : ℕ). Tells z t (c + 1) k (reading_of t (c + 1) k)) size (more (at + 5) t (c + 1) (drop 5 rest) a (omega arith) (omega arith)))
  onward-tells Item.end at t c rest s a b e = (a, b, omega arith, omega arith)
  onward-tells (Item.refusal k p) at t c rest s a b e = s

records-tell : (n at t c : ℕ) (rest : List ℕ) → t ≤ most_tasks → c ≤ most_rows → most_records ≤ n + (t + c) → Tells (at + length rest) t c (records n at t c rest) (reading_of t c (records n at t c rest))
unfolding records
records-tell zero at t c rest a b e = absurd (omega arith)
records-tell (suc n) at t c rest a b e = onward-tells n (records-tell n) (item_at at t c rest) at t c rest (item_sound at t c rest) a b e

contents_tell : (file : List ℕ) → Tells (length file) 0 0 (contents_of file) (reading_of 0 0 (contents_of file))
contents_tell file = subst (λ (z : ℕ). Tells z 0 0 (contents_of file) (reading_of 0 0 (contents_of file))) (zero-add (length file))
    (records-tell most_records 0 0 0 file (omega arith) (omega arith) (omega arith))

-- the zero line of `records` is never reached: a refusal is one of 10 to 13, at a place within the file
pub contents_ends : (file : List ℕ) (n p : ℕ) → reading_of 0 0 (contents_of file) ≡ Reading.Refused n p → (10 ≤ n) × (n ≤ 13) × (p ≤ length file)
contents_ends file n p e = subst (Tells (length file) 0 0 (contents_of file)) e (contents_tell file)

-- an accepted file has at most 32 tasks and 64 connections, with five and three words to each
pub record Counts (t c : ℕ) (tw cw : List ℕ) : Type 0 where
  pub few_tasks : t ≤ most_tasks
  pub few_rows : c ≤ most_rows
  pub task_words : length tw ≡ t * 5
  pub row_words : length cw ≡ c * 3
  pub tasks : t ≡ count tw
  pub rows : c ≡ Rattle.rules.specs.Tables.rows cw

pub contents_counts : (file : List ℕ) (t c : ℕ) → reading_of 0 0 (contents_of file) ≡ Reading.Read t c → Counts t c (task_words (contents_of file)) (connection_words (contents_of file))
contents_counts file t c e =
    let h = subst (Tells (length file) 0 0 (contents_of file)) e (contents_tell file) in
    record { few_tasks = h.0; few_rows = h.1; task_words = omega arith; row_words = omega arith; tasks = omega arith; rows = omega arith }

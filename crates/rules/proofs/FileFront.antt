-- The first 643 bytes of a machine file decide all of it: 32 records of ten bytes, 64 of five, the last mark, and one byte more. A
-- record looks at no more than what is needed from its place on, and what is needed behind it is less by the record's own bytes.
use mathlib.Core.Path.{◌≡◌, refl, ap, sym, subst, ◌∙◌}
use mathlib.Core.Bool.{Bool, true, false, cond}
use mathlib.Core.List.{List, [], ◌∷◌}
use mathlib.Core.Logic.{⊎_elim}
use Prim.Native.Nat.{ℕ, zero, suc, ◌+◌, ◌*◌, ◌-◌, ◌≤◌, ◌<◌}
use native.Mathlib.Omega.{arith}
use native.Mathlib.Nat.{zero-add, suc-add}
use lib.ListN.{length, drop, take}
use lib.Seq.{take_all, length-take-le, get_or-take, take-nil, drop-nil}
use lib.Dec.{ltb, leb, eqb}
use borrow.Author.Tests.{lt-ltb, le-ltb, leb-false}
use Rattle.rules.specs.Sizes.{most_tasks, most_rows}
use Rattle.rules.specs.File.{word, TK, CN, EN, task_row, connection_row, Item, marked, item_at, Contents, onward, records, most_records, contents_of, read_of}
use Rattle.rules.proofs.Tests.{lt_or}
use Rattle.rules.proofs.File.{Sound, item_sound}

-- the most bytes that matter behind t tasks and c connections
abbrev needed : ℕ → ℕ → ℕ
needed t c = (most_tasks - t) * 10 + (most_rows - c) * 5 + 3

abbrev pub decisive : ℕ
decisive = needed 0 0

-- a choice whose parts are equal where they are taken
cond_parts : {A : Type 0} (b : Bool) (x x' y y' : A) → x ≡ x' → (b ≡ false → y ≡ y') → cond b x y ≡ cond b x' y'
cond_parts true x x' y y' e f = e
cond_parts false x x' y y' e f = f refl

-- where the body goes on past k bytes, each record sees the same in its first k
module _ (k : ℕ) (body : List ℕ) (long : k < length body) where
  cut : length (take k body) ≡ k
  cut = length-take-le k body (omega arith)

  task_front : 8 ≤ k → task_row (take k body) ≡ task_row body
  unfolding task_row
  task_front h = simp (get_or-take k body 0 0 (omega arith), get_or-take k body 1 0 (omega arith), get_or-take k body 2 0 (omega arith), get_or-take k body 3 0 (omega arith), get_or-take k body 4 0 (omega arith), get_or-take k body 5 0 (omega arith), get_or-take k body 6 0 (omega arith), get_or-take k body 7 0 (omega arith))

  connection_front : 3 ≤ k → connection_row (take k body) ≡ connection_row body
  unfolding connection_row
  connection_front h = simp (get_or-take k body 0 0 (omega arith), get_or-take k body 1 0 (omega arith), get_or-take k body 2 0 (omega arith))

  -- a test of the length says the same of both
  long_enough : (n : ℕ) → n ≤ k → ltb (length (take k body)) n ≡ ltb (length body) n
  long_enough n h = le-ltb (length (take k body)) n (omega (arith, cut)) ∙ sym (le-ltb (length body) n (omega arith))

  some : 1 ≤ k → ltb 0 (length (take k body)) ≡ ltb 0 (length body)
  some h = lt-ltb 0 (length (take k body)) (omega (arith, cut)) ∙ sym (lt-ltb 0 (length body) (omega arith))

  marked-cut : (m at t c : ℕ) → needed t c ≤ k + 2 → marked m at t c (take k body) ≡ marked m at t c body
  unfolding marked
  marked-cut m at t c h =
      cond_parts (eqb m TK) _ _ _ _
      (cond_parts (leb most_tasks t) _ _ _ _ refl (λ u. let v : t < most_tasks = leb-false most_tasks t u in rw (long_enough 8 (omega arith), task_front (omega arith))))
      (λ _. cond_parts (eqb m CN) _ _ _ _
      (cond_parts (leb most_rows c) _ _ _ _ refl (λ u. let v : c < most_rows = leb-false most_rows c u in rw (long_enough 3 (omega arith), connection_front (omega arith))))
      (λ _. cond_parts (eqb m EN) _ _ _ _ (rw (some (omega arith))) (λ _. refl)))

marked-front : (m at t c k : ℕ) (body : List ℕ) → needed t c ≤ k + 2 → marked m at t c (take k body) ≡ marked m at t c body
marked-front m at t c k body h =
    ⊎_elim (λ l. marked-cut k body l m at t c h) (λ l. ap (marked m at t c) (take_all k body l)) (lt_or k (length body))

item_front : (at t c m : ℕ) (rest : List ℕ) → needed t c ≤ m → item_at at t c (take m rest) ≡ item_at at t c rest
unfolding item_at
item_front at t c zero rest h = absurd (omega arith)
item_front at t c (suc zero) rest h = absurd (omega arith)
item_front at t c (suc (suc k)) [] h = refl
item_front at t c (suc (suc k)) (x ∷ []) h = refl
item_front at t c (suc (suc k)) (x ∷ y ∷ body) h = marked-front (word y x) at t c k body (omega arith)

drop_take : (k m : ℕ) (l : List ℕ) → drop k (take (k + m) l) ≡ take m (drop k l)
drop_take zero m l = rw (zero-add m)
drop_take (suc k) m [] = simp (take-nil, drop-nil)
drop_take (suc k) m (x ∷ l) = rw (suc-add k m) (drop_take k m l)

drop_front : (k m : ℕ) (l : List ℕ) → k ≤ m → drop k (take m l) ≡ take (m - k) (drop k l)
drop_front k m l h = let e : m ≡ k + (m - k) = omega arith in subst (λ (i : ℕ). drop k (take i l) ≡ take (m - k) (drop k l)) (sym e) (drop_take k (m - k) l)

module _ (n : ℕ) (more : (at t c m : ℕ) (rest : List ℕ) → needed t c ≤ m → records n at t c (take m rest) ≡ records n at t c rest) where
  onward-front : (i : Item) (at t c m : ℕ) (rest : List ℕ) → Sound at t c (length rest) i → needed t c ≤ m → onward i (records n) at t c (take m rest) ≡ onward i (records n) at t c rest
  unfolding onward
  onward-front (Item.task ws) at t c m rest s h =
      ap (Contents.task ws) (ap (records n (at + 10) (t + 1) c) (drop_front 10 m rest (omega arith)) ∙ more (at + 10) (t + 1) c (m - 10) (drop 10 rest) (omega arith))
  onward-front (Item.connection ws) at t c m rest s h =
      ap (Contents.connection ws) (ap (records n (at + 5) t (c + 1)) (drop_front 5 m rest (omega arith)) ∙ more (at + 5) t (c + 1) (m - 5) (drop 5 rest) (omega arith))
  onward-front Item.end at t c m rest s h = refl
  onward-front (Item.refusal k p) at t c m rest s h = refl

records-front : (n at t c m : ℕ) (rest : List ℕ) → needed t c ≤ m → records n at t c (take m rest) ≡ records n at t c rest
unfolding records
records-front zero at t c m rest h = refl
records-front (suc n) at t c m rest h =
    ap (λ (i : Item). onward i (records n) at t c (take m rest)) (item_front at t c m rest h)
    ∙ onward-front n (records-front n) (item_at at t c rest) at t c m rest (item_sound at t c rest) h

-- the words and the answer depend on the first 643 bytes only
pub contents_front : (m : ℕ) (file : List ℕ) → decisive ≤ m → contents_of (take m file) ≡ contents_of file
contents_front m file h = records-front most_records 0 0 0 m file h

pub read_front : (m : ℕ) (file : List ℕ) (taskRoom rowRoom : ℕ) → decisive ≤ m → read_of (take m file) taskRoom rowRoom ≡ read_of file taskRoom rowRoom
unfolding read_of
read_front m file taskRoom rowRoom h = rw (contents_front m file h)

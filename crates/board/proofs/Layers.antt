-- Laws of lists written into words one after the other: two that meet are one, and a list that begins at place 0 stands before
-- the words past it.
use mathlib.Core.Path.{◌≡◌, refl, ap, sym, ◌∙◌}
use mathlib.Core.List.{List, [], ◌∷◌, ◌++◌, map, map-id}
use Prim.Native.Nat.{ℕ, suc, ◌+◌, ◌≤◌}
use native.Mathlib.Omega.{arith}
use native.Mathlib.Nat.{add-zero, add-suc, suc-add, zero-add}
use lib.ListN.{set, length, drop, length-append, length-drop, take-append-drop}
use lib.Seq.{sets, sets-eq, length-sets, length-take-le, take-add, drop_at}
use Rattle.board.specs.Columns.{same}
use Rattle.board.specs.Rows.{Lays, Part}

pub sets_append : {A : Type 0} (xs ys l : List A) (i : ℕ) → sets l i (xs ++ ys) ≡ sets (sets l i xs) (i + length xs) ys
sets_append [] ys l i = rw add-zero
sets_append (x ∷ xs) ys l i = rw (add-suc, ← suc-add) (sets_append xs ys (set l i x) (suc i))

-- a column of elements, and one whose elements are words
pub lays_column : (start n : ℕ) (l old new : List ℕ) → length l ≡ n → new ≡ sets old start l → Lays start l n old new
lays_column start n l old new h e = record { sized = h; holds = e }

pub lays_words : (start n : ℕ) (l old new : List ℕ) → length l ≡ n → new ≡ sets old start (map same l) → Lays start l n old new
lays_words start n l old new h e = lays_column start n l old new h (rw (map-id l) at e)

pub lays_more : (start n m : ℕ) (l k old mid new : List ℕ) → Lays start l n old mid → Lays (start + n) k m mid new →
    Lays start (l ++ k) (n + m) old new
lays_more start n m l k old mid new a b = record {
  sized = rw (length-append, a.sized, b.sized) refl;
  holds = rw (b.holds, a.holds, sets_append, a.sized) refl;
}

pub lays_front : (n : ℕ) (l old new : List ℕ) → Lays 0 l n old new → n ≤ length old → new ≡ l ++ drop n old
lays_front n l old new a h = a.holds ∙ sets-eq l old 0 (rw (a.sized, zero-add) h) ∙ rw (a.sized, zero-add) refl

-- what stands there already may be left out
pub part_lays : (start n : ℕ) (l old mid : List ℕ) → Part old start n l → length mid ≡ length old → drop start mid ≡ drop start old →
    start + n ≤ length old → Lays start l n mid mid
part_lays start n l old mid p m e h =
    let k : length l ≡ n = ap length p.is ∙ length-take-le n (drop start old) (omega (arith, length-drop start old)) in
    record {
      sized = k;
      holds = sym (sets-eq l mid start (rw k (omega arith)) ∙ rw (k, p.is, ← e, ← take-add) (take-append-drop (start + n) mid));
    }

-- a list in front and one behind, around a part that stands
pub lays_around : (a n m : ℕ) (h l k old mid new : List ℕ) → Lays 0 h a old mid → Part old a n l → Lays (a + n) k m mid new →
    a + n + m ≤ length old → new ≡ h ++ l ++ k ++ drop (a + n + m) old
lays_around a n m h l k old mid new x p y b =
    let e : drop a mid ≡ drop a old = rw (lays_front a h old mid x (omega arith)) (drop_at h (drop a old) a x.sized) in
    let w : length mid ≡ length old = ap length x.holds ∙ length-sets old 0 h in
    let v = part_lays a n l old mid p w e (omega arith) in
    lays_front (a + n + m) (h ++ l ++ k) old new
    (lays_more 0 (a + n) m (h ++ l) k old mid new (lays_more 0 a n h l old mid mid x (rw zero-add v)) (rw zero-add y)) b

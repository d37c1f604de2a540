-- Laws of the loops that read a column of words and that write rows of words. A loop that reads has `Taking` as its invariant, one
-- that writes `Laying`, at the place k that it has come to; its proof cites the law of a turn and the law of the end.
use mathlib.Core.Path.{◌≡◌, refl, ap, sym, ◌∙◌}
use mathlib.Core.Bool.{Bool, true, false, ◌&&◌}
use Rattle.std.specs.Prelude.{Option, Some, None, SomeIff, is_some}
use Rattle.std.specs.Option.{unwrap_or}
use Rattle.std.specs.Bool.{then_some}
use borrow.Author.Tests.{ltb-true, lt-ltb}
use mathlib.Core.List.{List}
use Prim.Native.Nat.{ℕ, zero, suc, ◌+◌, ◌*◌, ◌≤◌, ◌<◌}
use native.Mathlib.Omega.{arith}
use native.Mathlib.Numerals.{add-one}
use native.Mathlib.Nat.{zero-mul, suc-mul}
use lib.ListN.{get_or, set, take, length, length-set, length-append}
use lib.Seq.{sets, length-sets, take-suc, take_all, length-take-le}
use Rattle.rules.proofs.Tests.{by_test, and_left, and_right, false_true}
use Rattle.rules.proofs.Counting.{map_below-turn, all_below-turn, all_below-at, all_below-all}
use Rattle.board.specs.Columns.{word_at, fits_at, below, taken, AllBelow}
use Rattle.board.specs.Rows.{rows_of, Lays}
use Rattle.board.proofs.Layers.{sets_append}

-- beside it, a mark that says whether the words so far are below the limit: where one is not, nothing is said of the list but its length
pub record Taking {A : Type 0} (f : ℕ → A) (limit : ℕ) (ws : List ℕ) (start apart n k : ℕ) (old new : List A) (fit : Bool) : Type 0 where
  pub passed : k ≤ n
  pub sized : length new ≡ length old
  pub holds : fit ≡ true → new ≡ taken f ws start apart k old
  pub tells : fit ≡ below ws start apart limit k

module _ (ws : List ℕ) (start apart limit n : ℕ) where
  pub low_all : below ws start apart limit n ≡ true → AllBelow ws start apart limit n
  low_all e k h = ltb-true (word_at ws start apart k) limit (all_below-at (fits_at ws start apart limit) n k e h)

  pub all_low : AllBelow ws start apart limit n → below ws start apart limit n ≡ true
  all_low h = all_below-all (fits_at ws start apart limit) n (λ k b. lt-ltb (word_at ws start apart k) limit (h k b))

module _ {A : Type 0} (f : ℕ → A) (limit : ℕ) (ws : List ℕ) (start apart n : ℕ) (old : List A) where
  -- the element of word k, if it is below the limit
  taking_more : (d : A) (k : ℕ) (o : Option A) (new : List A) (fit : Bool) → Taking f limit ws start apart n k old new fit → k < n →
      SomeIff o (word_at ws start apart k < limit) (f (word_at ws start apart k)) →
      Taking f limit ws start apart n (k + 1) old (set new k (unwrap_or o d)) (fit && is_some o)
  taking_more d k (Some x) new fit t h o = record {
    passed = omega arith;
    sized = length-set new k x ∙ t.sized;
    holds = λ e. map_below-turn (λ j _. f (word_at ws start apart j)) k old new d x (t.holds (and_left fit true e)) o.1;
    tells = rw (← all_below-turn (fits_at ws start apart limit) k fit t.tells, lt-ltb (word_at ws start apart k) limit o.0) refl;
  }
  taking_more d k None new fit t h o = record {
    passed = omega arith;
    sized = length-set new k d ∙ t.sized;
    holds = λ e. absurd (false_true (and_right fit false e));
    tells =
        rw (
          ← all_below-turn (fits_at ws start apart limit) k fit t.tells,
          by_test (fits_at ws start apart limit k) (λ e. absurd (o (ltb-true (word_at ws start apart k) limit e))) (λ e. e),
        )
        refl;
  }

  pub taking_turn : (d : A) (k : ℕ) (o : Option A) (v : A) (new : List A) (fit next : Bool) → Taking f limit ws start apart n k old new fit → k < n →
      SomeIff o (word_at ws start apart k < limit) (f (word_at ws start apart k)) → v ≡ unwrap_or o d → next ≡ fit && is_some o →
      Taking f limit ws start apart n (k + 1) old (set new k v) next
  taking_turn d k o v new fit next t h s p q = rw (p, q) (taking_more d k o new fit t h s)

  pub taking_end : (k : ℕ) (new : List A) (fit : Bool) → Taking f limit ws start apart n k old new fit → n ≤ k →
      SomeIff (then_some fit new) (AllBelow ws start apart limit n) (taken f ws start apart n old)
  taking_end k new true t z =
      let q : k ≡ n = omega arith in
      (low_all ws start apart limit n (rw q at (sym t.tells)), rw q at (t.holds refl))
  taking_end k new false t z = λ all. let q : k ≡ n = omega arith in false_true (t.tells ∙ all_low ws start apart limit k (rw (← q) at all))

-- a loop that writes rows of words, each of the same width, one after the other
pub record Laying (start : ℕ) (f : ℕ → List ℕ) (n k : ℕ) (old new : List ℕ) : Type 0 where
  pub passed : k ≤ n
  pub sized : length new ≡ length old
  pub lays : new ≡ sets old start (rows_of f k)

pub rows_of-length : (f : ℕ → List ℕ) (w : ℕ) → ((k : ℕ) → length (f k) ≡ w) → (n : ℕ) → length (rows_of f n) ≡ n * w
rows_of-length f w h zero = rw zero-mul
rows_of-length f w h (suc n) = rw (length-append, rows_of-length f w h n, h n, suc-mul)

module _ (start : ℕ) (f : ℕ → List ℕ) (n : ℕ) (old : List ℕ) where
  pub laying_turn : (w k : ℕ) (new next : List ℕ) → ((j : ℕ) → length (f j) ≡ w) → Laying start f n k old new → k < n →
      next ≡ sets new (start + k * w) (f k) → Laying start f n (k + 1) old next
  laying_turn w k new next h s l q = record {
    passed = omega arith;
    sized = ap length q ∙ length-sets new (start + k * w) (f k) ∙ s.sized;
    lays = rw (q, s.lays, add-one, sets_append, rows_of-length f w h k) refl;
  }

  pub laying_end : (w k : ℕ) (new : List ℕ) → ((j : ℕ) → length (f j) ≡ w) → Laying start f n k old new → n ≤ k →
      Lays start (rows_of f n) (n * w) old new
  laying_end w k new h s z =
      let q : k ≡ n = omega arith in
      record { sized = rows_of-length f w h n; holds = rw q at s.lays }

-- a loop that writes a list word by word
pub record Writing (start : ℕ) (l : List ℕ) (k : ℕ) (old new : List ℕ) : Type 0 where
  pub passed : k ≤ length l
  pub sized : length new ≡ length old
  pub writes : new ≡ sets old start (take k l)

module _ (start : ℕ) (l old : List ℕ) where
  pub writing_turn : (k x : ℕ) (new : List ℕ) → Writing start l k old new → k < length l → get_or l k x ≡ x →
      Writing start l (k + 1) old (set new (start + k) x)
  writing_turn k x new t h e = record {
    passed = omega arith;
    sized = length-set new (start + k) x ∙ t.sized;
    writes = rw (t.writes, add-one, take-suc l k x h, e, sets_append, length-take-le k l t.passed) refl;
  }

  pub writing_end : (k : ℕ) (new : List ℕ) → Writing start l k old new → length l ≤ k → new ≡ sets old start l
  writing_end k new t z = t.writes ∙ ap (sets old start) (take_all k l z)

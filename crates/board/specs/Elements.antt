-- The elements of a column and the words that they stand in: a word below a limit is that of its value.
use Rattle.std.specs.Prelude.{◌≡◌, Bool, true, false, ℕ, zero, suc, ◌<◌}
use Rattle.std.proofs.Common.{refl, ap, arith}
use native.Mathlib.Nat.{mod-eq_of_lt}
use Rattle.rules.specs.Views.{task_in}
use Rattle.rules.specs.declared.Phase.{Phase}
use Rattle.rules.specs.declared.Phase.TheVariants as phase
use Rattle.board.specs.Widths.{wholes, times, bytes, marks, phases}
use Rattle.board.specs.Columns.{same, cut}
use Rattle.board.specs.Marks.{mark_word, mark_from, phase_word, phase_from, task_word, task_from}

-- there and back: an element whose word is below the limit is that word's value, and such a word is its value's word
pub record Encodes {A : Type 0} (limit : ℕ) (value : ℕ → A) (word : A → ℕ) : Type 0 where
  pub element_back : (x : A) → word x < limit → value (word x) ≡ x
  pub word_back : (w : ℕ) → w < limit → word (value w) ≡ w

pub wholes_encode : Encodes wholes same same
wholes_encode = record { element_back = λ x h. refl; word_back = λ w h. refl }

cut_encodes : (limit : ℕ) → Encodes limit (cut limit) same
cut_encodes limit = record { element_back = λ x h. mod-eq_of_lt h; word_back = λ w h. mod-eq_of_lt h }

pub times_encode : Encodes times (cut times) same
times_encode = cut_encodes times

pub bytes_encode : Encodes bytes (cut bytes) same
bytes_encode = cut_encodes bytes

mark_back : (b : Bool) → mark_from (mark_word b) ≡ b
mark_back true = refl
mark_back false = refl

mark_word_back : (w : ℕ) → w < marks → mark_word (mark_from w) ≡ w
mark_word_back zero h = refl
mark_word_back (suc zero) h = refl
mark_word_back (suc (suc w)) h = absurd (omega arith)

pub marks_encode : Encodes marks mark_from mark_word
marks_encode = record { element_back = λ b h. mark_back b; word_back = mark_word_back }

phase_back : (p : Phase) → phase_from (phase_word p) ≡ p
phase_back phase.Idle = refl
phase_back phase.Waiting = refl
phase_back phase.Started = refl

phase_word_back : (w : ℕ) → w < phases → phase_word (phase_from w) ≡ w
phase_word_back zero h = refl
phase_word_back (suc zero) h = refl
phase_word_back (suc (suc zero)) h = refl
phase_word_back (suc (suc (suc w))) h = absurd (omega arith)

pub phases_encode : Encodes phases task_from task_word
phases_encode = record { element_back = λ t h. ap task_in (phase_back t.phase); word_back = phase_word_back }

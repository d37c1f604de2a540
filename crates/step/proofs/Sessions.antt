-- Input that comes in pieces prints what it prints as a whole, and byte by byte, with 13 bytes kept of a line, the program prints what
-- 01 says of the lines: what is kept of a line asks for what the whole line asks for, and is empty only if the line is.
use mathlib.Core.Path.{◌≡◌, refl, sym, ap, ◌∙◌}
use mathlib.Core.Bool.{true, false}
use mathlib.Core.List.{List, [], ◌∷◌, ◌++◌, append_assoc, append-nil}
use mathlib.Core.Logic.{⊎_elim}
use Prim.Native.Nat.{ℕ, suc, ◌+◌, ◌<◌}
use native.Mathlib.Omega.{arith}
use native.Mathlib.Numerals.{add-one}
use lib.ListN.{length, take, get_or}
use lib.Seq.{take-suc, take_all, length-take-le, take-append-le, take-take}
use lib.Dec.{ltb}
use borrow.Author.Tests.{lt-ltb}
use Rattle.rules.specs.declared.State.{State}
use Rattle.rules.proofs.Tests.{by_test, lt_or}
use Rattle.calls.specs.Line.{call_of}
use Rattle.calls.proofs.Decode.{call_front}
use Rattle.step.specs.Session.{obeyed, ends, lines_from, answers_to, session_text, most_kept, keeping, Moment, moment, answered, next, printed, after, text, last}

-- ---------------------------------------------------------------------------------------------------------------------------
-- pieces

pub after-append : (m : Moment) (a b : List ℕ) → after m (a ++ b) ≡ after (after m a) b
unfolding after
after-append m [] b = refl
after-append m (x ∷ a) b = after-append (next m x) a b

pub text-append : (m : Moment) (a b : List ℕ) → text m (a ++ b) ≡ text m a ++ text (after m a) b
unfolding after text
text-append m [] b = refl
text-append m (x ∷ a) b =
    ap (λ (l : List ℕ). printed m x ++ l) (text-append (next m x) a b) ∙ sym (append_assoc (printed m x) (text (next m x) a) (text (after (next m x) a) b))

-- one byte more
pub after_more : (m : Moment) (s : List ℕ) (i : ℕ) → i < length s → after m (take (i + 1) s) ≡ next (after m (take i s)) (get_or s i 0)
unfolding after
after_more m s i h = rw (add-one, take-suc s i 0 h) (after-append m (take i s) (get_or s i 0 ∷ []))

pub text-more : (m : Moment) (s : List ℕ) (i : ℕ) → i < length s → text m (take (i + 1) s) ≡ text m (take i s) ++ printed (after m (take i s)) (get_or s i 0)
unfolding after text
text-more m s i h =
    rw (add-one, take-suc s i 0 h)
    (text-append m (take i s) (get_or s i 0 ∷ []) ∙ ap (λ (l : List ℕ). text m (take i s) ++ l) (append-nil (printed (after m (take i s)) (get_or s i 0))))

-- ---------------------------------------------------------------------------------------------------------------------------
-- 13 bytes kept

kept_more : (line : List ℕ) (b : ℕ) → keeping (take most_kept line) b ≡ take most_kept (line ++ (b ∷ []))
kept_more line b =
    ⊎_elim
    (λ l.
    let n = length-take-le most_kept line (omega arith) in
    take-append-le most_kept (take most_kept line) (b ∷ []) (omega arith) ∙ take-take most_kept most_kept line (omega arith)
    ∙ sym (take-append-le most_kept line (b ∷ []) (omega arith)))
    (λ l. ap (λ (k : List ℕ). keeping k b) (take_all most_kept line l)) (lt_or most_kept (length line))

kept_some : (line : List ℕ) → ltb 0 (length (take most_kept line)) ≡ ltb 0 (length line)
kept_some [] = refl
kept_some (b ∷ line) = lt-ltb 0 (suc (length (take 12 line))) (omega arith) ∙ sym (lt-ltb 0 (suc (length line)) (omega arith))

kept_answered : (s : State) (line : List ℕ) → answered (moment s (take most_kept line)) ≡ obeyed s (call_of line)
kept_answered s line = ap (obeyed s) (call_front most_kept line (omega arith))

-- from any state, behind the bytes of a line that has begun: by bytes, and by lines
abbrev by_bytes : State → List ℕ → List ℕ → List ℕ
by_bytes s line input = text (moment s (take most_kept line)) input ++ last (after (moment s (take most_kept line)) input)

abbrev by_lines : State → List ℕ → List ℕ → List ℕ
by_lines s line input = answers_to s (lines_from line input)

at-end : (s : State) (line : List ℕ) → by_bytes s line [] ≡ by_lines s line []
unfolding text after last answers_to lines_from
at-end s line =
    by_test (ltb 0 (length line))
    (λ e. rw (kept_some line, e, kept_answered s line) (sym (append-nil (obeyed s (call_of line)).line)))
    (λ e. rw (kept_some line, e))

module _ (s : State) (line : List ℕ) (b : ℕ) (input : List ℕ) where
  abbrev behind : State
  behind = (obeyed s (call_of line)).state

  line_ends : ends b ≡ true → by_bytes behind [] input ≡ by_lines behind [] input → by_bytes s line (b ∷ input) ≡ by_lines s line (b ∷ input)
  unfolding text after next printed answers_to lines_from
  line_ends e more =
      rw (e, kept_answered s line)
      (append_assoc (obeyed s (call_of line)).line (text (moment behind []) input) (last (after (moment behind []) input))
      ∙ ap (λ (l : List ℕ). (obeyed s (call_of line)).line ++ l) more)

  line_goes_on : ends b ≡ false → by_bytes s (line ++ (b ∷ [])) input ≡ by_lines s (line ++ (b ∷ [])) input → by_bytes s line (b ∷ input) ≡ by_lines s line (b ∷ input)
  unfolding text after next printed lines_from
  line_goes_on e more = rw (e, kept_more line b) more

bytes-lines : (input : List ℕ) (s : State) (line : List ℕ) → by_bytes s line input ≡ by_lines s line input
bytes-lines [] s line = at-end s line
bytes-lines (b ∷ input) s line =
    by_test (ends b) (λ e. line_ends s line b input e (bytes-lines input (obeyed s (call_of line)).state []))
    (λ e. line_goes_on s line b input e (bytes-lines input s (line ++ (b ∷ []))))

-- the bytes of an input, one by one, with the end's line, print what its lines print
pub session_bytes : (s : State) (input : List ℕ) → text (moment s []) input ++ last (after (moment s []) input) ≡ session_text s input
session_bytes s input = bytes-lines input s []

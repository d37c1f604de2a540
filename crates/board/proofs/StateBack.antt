-- The words of a state give the state back: `state_from (state_words s)` is s, and the words encode a state, whatever words follow. Each
-- column of the state is taken from the places where its words stand.
use mathlib.Core.Path.{◌≡◌, sym, ◌∙◌}
use mathlib.Core.Bool.{Bool, true, false}
use mathlib.Core.List.{List, ◌++◌}
use mathlib.Core.Logic.{⊎_elim}
use Prim.Native.Nat.{ℕ, ◌+◌, ◌<◌}
use native.Mathlib.Omega.{arith}
use lib.ListN.{get_or, length, length-append, length-map, length-replicate, replicate}
use lib.Seq.{ext_get_or}
use Rattle.rules.specs.Sizes.{most_tasks, most_rows, task_width, row_width}
use Rattle.rules.specs.Views.{period, deadline, compute, sender, receiver, undelayed, ordered, phase_of}
use Rattle.rules.specs.declared.Phase.{Phase}
use Rattle.rules.specs.declared.Phase.TheVariants as phase
use Rattle.rules.specs.declared.State.{State}
use Rattle.rules.proofs.Tests.{eq_or}
use Rattle.rules.proofs.Counting.{map_below-at, map_below-length}
use Rattle.board.specs.Layout.{marks_at, tasks_at, rows_at, order_at, phases_at, outputs_at, dispatches_at, buffers_at, inputs_at, state_size}
use Rattle.board.specs.Widths.{times, bytes, marks, phases}
use Rattle.board.specs.Columns.{word_at, taken, cut, same}
use Rattle.board.specs.Marks.{mark_word, mark_from, phase_word, task_word, task_from, idle_task}
use Rattle.board.specs.Elements.{Encodes, times_encode, bytes_encode, marks_encode, phases_encode}
use Rattle.board.specs.StateWords.{criticality, enforced, state_words, head_words, table_words, moving_words, state_from, encodes}
use Rattle.board.proofs.Encoded.{encoded_encodes}
use Rattle.board.proofs.Fields.{fields_are}
use Rattle.board.proofs.WordPlaces.{Sized, Placed, placed}

-- a state as its types have it: columns of their sizes, and narrow values below their widths
pub record Fitting (s : State) : Type 0 where
  pub sized : Sized s
  pub periods : (i : ℕ) → period s i < times
  pub deadlines : (i : ℕ) → deadline s i < times
  pub computes : (i : ℕ) → compute s i < times
  pub criticalities : (i : ℕ) → criticality s i < bytes
  pub senders : (c : ℕ) → sender s c < bytes
  pub receivers : (c : ℕ) → receiver s c < bytes
  pub order : (k : ℕ) → ordered s k < bytes

-- the word of a mark or a phase is below its limit
mark_low : (b : Bool) → mark_word b < marks
mark_low true = omega arith
mark_low false = omega arith

phase_low : (p : Phase) → phase_word p < phases
phase_low phase.Idle = omega arith
phase_low phase.Waiting = omega arith
phase_low phase.Started = omega arith

module _ {A : Type 0} (ws : List ℕ) (start apart n : ℕ) (z : A) (l : List A) (e : length l ≡ n) where
  -- a column is known from its words
  taken_is : (f : ℕ → A) → ((k : ℕ) → k < n → f (word_at ws start apart k) ≡ get_or l k z) → taken f ws start apart n (replicate n z) ≡ l
  taken_is f h =
      let m : length (taken f ws start apart n (replicate n z)) ≡ n =
      map_below-length (λ k _. f (word_at ws start apart k)) n (replicate n z) ∙ length-replicate n z in
      ext_get_or z (taken f ws start apart n (replicate n z)) l (m ∙ sym e)
      (λ k b.
      map_below-at (λ j _. f (word_at ws start apart j)) n (replicate n z) k z (omega arith) (omega (arith, length-replicate n z))
      ∙ h k (omega arith))

  -- where these are its elements' words, below the limit
  taken_back : (limit : ℕ) (value : ℕ → A) (word : A → ℕ) → Encodes limit value word → ((k : ℕ) → word (get_or l k z) < limit) →
      ((k : ℕ) → k < n → word_at ws start apart k ≡ word (get_or l k z)) → taken value ws start apart n (replicate n z) ≡ l
  taken_back limit value word c h p = taken_is value (λ k b. rw (p k b) (c.element_back (get_or l k z) (h k)))

-- the words of a state are 614
pub words_count : (s : State) → Sized s → length (state_words s) ≡ state_size
unfolding head_words table_words moving_words
words_count s z =
    simp (length-append, length-map) (omega (arith, z.order, z.tasks, z.outputs, z.dispatches, z.buffers, z.inputs))

module _ (s : State) (t : List ℕ) (f : Fitting s) where
  at : Placed s (state_words s ++ t)
  at = placed s t f.sized

  pub state_back : state_from (state_words s ++ t) ≡ s
  unfolding state_from
  state_back =
      let ws = state_words s ++ t in
      let z = f.sized in
      fields_are s _ _ _ _ _ _ _ _ _ _ _ _ _ _ _ _ _ _ _ _
      at.count
      at.rows
      (taken_back ws tasks_at task_width most_tasks 0 s.periods z.periods times (cut times) same times_encode f.periods at.periods)
      (taken_back ws (tasks_at + 1) task_width most_tasks 0 s.deadlines z.deadlines times (cut times) same times_encode f.deadlines at.deadlines)
      (taken_back ws (tasks_at + 2) task_width most_tasks 0 s.computes z.computes times (cut times) same times_encode f.computes at.computes)
      (taken_back ws (tasks_at + 3) task_width most_tasks 0 s.criticalities z.criticalities bytes (cut bytes) same bytes_encode f.criticalities at.criticalities)
      (taken_back ws (tasks_at + 4) task_width most_tasks false s.enforced z.enforced marks mark_from mark_word marks_encode (λ k. mark_low (get_or s.enforced k false)) at.enforced)
      (taken_back ws rows_at row_width most_rows 0 s.senders z.senders bytes (cut bytes) same bytes_encode f.senders at.senders)
      (taken_back ws (rows_at + 1) row_width most_rows 0 s.receivers z.receivers bytes (cut bytes) same bytes_encode f.receivers at.receivers)
      (taken_back ws (rows_at + 2) row_width most_rows false s.undelayed z.undelayed marks mark_from mark_word marks_encode (λ k. mark_low (get_or s.undelayed k false)) at.undelayed)
      (taken_back ws order_at 1 most_tasks 0 s.order z.order bytes (cut bytes) same bytes_encode f.order at.order)
      at.multiple
      (taken_back ws phases_at 1 most_tasks idle_task s.tasks z.tasks phases task_from task_word phases_encode (λ k. phase_low (get_or s.tasks k idle_task).phase) at.tasks)
      (taken_is ws outputs_at 1 most_tasks 0 s.outputs z.outputs same at.outputs)
      (taken_is ws dispatches_at 1 most_tasks 0 s.dispatches z.dispatches same at.dispatches)
      (taken_is ws buffers_at 1 most_rows 0 s.buffers z.buffers same at.buffers)
      (taken_is ws inputs_at 1 most_rows 0 s.inputs z.inputs same at.inputs)
      at.cycle
      (rw at.ticked (marks_encode.element_back s.ticked (mark_low s.ticked)))
      (rw at.halted (marks_encode.element_back s.halted (mark_low s.halted)))

  mark_words : (k : ℕ) → k < 2 → word_at (state_words s ++ t) marks_at 1 k < marks
  mark_words k h =
      ⊎_elim (λ e. rw e (rw at.ticked (mark_low s.ticked)))
      (λ n. let e : k ≡ 1 = omega arith in rw e (rw at.halted (mark_low s.halted))) (eq_or k 0)

  pub state_encodes : encodes (state_words s ++ t) ≡ true
  state_encodes =
      encoded_encodes (state_words s ++ t)
      (record {
        enough = rw (length-append (state_words s) t, words_count s f.sized) (omega arith);
        fitted = record {
          marked = mark_words;
          periods = λ k h. rw (at.periods k h) (f.periods k);
          deadlines = λ k h. rw (at.deadlines k h) (f.deadlines k);
          computes = λ k h. rw (at.computes k h) (f.computes k);
          criticalities = λ k h. rw (at.criticalities k h) (f.criticalities k);
          enforced = λ k h. rw (at.enforced k h) (mark_low (enforced s k));
          senders = λ c h. rw (at.senders c h) (f.senders c);
          receivers = λ c h. rw (at.receivers c h) (f.receivers c);
          undelayed = λ c h. rw (at.undelayed c h) (mark_low (undelayed s c));
          order = λ k h. rw (at.order k h) (f.order k);
          tasks = λ k h. rw (at.tasks k h) (phase_low (phase_of s k));
        };
      })

-- Where each column of a state stands in its words: the word at each place of a column is the state's value there. The words are
-- taken as a chain of lists, and each list begins where the ones before it end.
use mathlib.Core.Path.{◌≡◌, refl, ◌∙◌}
use mathlib.Core.List.{List, ◌++◌, map, append_assoc}
use mathlib.Core.Logic.{⊎_elim}
use Prim.Native.Nat.{ℕ, zero, suc, ◌+◌, ◌*◌, ◌<◌}
use native.Mathlib.Omega.{arith}
use native.Mathlib.Nat.{mul-one, zero-add, add_assoc}
use lib.ListN.{get_or, length, length-map, get_or-append, get_or-map}
use lib.Seq.{get_or-append-add}
use Rattle.rules.specs.Sizes.{most_tasks, most_rows, task_width, row_width, most_task_words, most_row_words}
use Rattle.rules.specs.Views.{period, deadline, compute, sender, receiver, undelayed, ordered, output, dispatch, buffer, input}
use Rattle.rules.specs.declared.State.{State}
use Rattle.rules.proofs.Tests.{lt_or}
use Rattle.board.specs.Layout.{marks_at, tasks_at, rows_at, order_at, phases_at, outputs_at, dispatches_at, buffers_at, inputs_at}
use Rattle.board.specs.Columns.{word_at}
use Rattle.board.specs.Rows.{rows_of}
use Rattle.board.specs.Marks.{mark_word, task_word, idle_task}
use Rattle.board.specs.StateWords.{criticality, enforced, task_row, connection_row, head_words, table_words, moving_words, state_words}
use Rattle.board.proofs.Turns.{rows_of-length}

-- the columns of a state have their sizes
pub record Sized (s : State) : Type 0 where
  pub periods : length s.periods ≡ most_tasks
  pub deadlines : length s.deadlines ≡ most_tasks
  pub computes : length s.computes ≡ most_tasks
  pub criticalities : length s.criticalities ≡ most_tasks
  pub enforced : length s.enforced ≡ most_tasks
  pub senders : length s.senders ≡ most_rows
  pub receivers : length s.receivers ≡ most_rows
  pub undelayed : length s.undelayed ≡ most_rows
  pub order : length s.order ≡ most_tasks
  pub tasks : length s.tasks ≡ most_tasks
  pub outputs : length s.outputs ≡ most_tasks
  pub dispatches : length s.dispatches ≡ most_tasks
  pub buffers : length s.buffers ≡ most_rows
  pub inputs : length s.inputs ≡ most_rows

-- from place a on the words are these
record Stands (ws : List ℕ) (a : ℕ) (rest : List ℕ) : Type 0 where
  holds : (j : ℕ) → get_or ws (a + j) 0 ≡ get_or rest j 0

stands-all : (ws l : List ℕ) → ws ≡ l → Stands ws 0 l
stands-all ws l e = record { holds = λ j. rw (e, zero-add) refl }

module _ (ws : List ℕ) (a : ℕ) where
  -- a list in front: its places, and what stands behind it
  list_at : (l rest : List ℕ) (n k : ℕ) → Stands ws a (l ++ rest) → length l ≡ n → k < n → word_at ws a 1 k ≡ get_or l k 0
  list_at l rest n k w e h = rw mul-one (w.holds k ∙ get_or-append l rest 0 k (omega arith))

  behind : (l rest : List ℕ) (n : ℕ) → Stands ws a (l ++ rest) → length l ≡ n → Stands ws (a + n) rest
  behind l rest n w e = record { holds = λ j. rw add_assoc (w.holds (n + j) ∙ rw (← e) (get_or-append-add l rest j 0)) }

  -- rows in front: place j of row k
  rows-at : (f : ℕ → List ℕ) (w : ℕ) → ((k : ℕ) → length (f k) ≡ w) → (n k j : ℕ) (rest : List ℕ) → Stands ws a (rows_of f n ++ rest) →
      k < n → j < w → word_at ws (a + j) w k ≡ get_or (f k) j 0
  rows-at f w h zero k j rest q a b = absurd (omega arith)
  rows-at f w h (suc n) k j rest q l b =
      let r : Stands ws a (rows_of f n ++ (f n ++ rest)) = rw append_assoc at q in
      ⊎_elim (λ g. rows-at f w h n k j (f n ++ rest) r g b)
      (λ g.
      let e : k ≡ n = omega arith in
      let p : a + j + n * w ≡ a + n * w + j = omega arith in
      rw (e, p)
      ((behind (rows_of f n) (f n ++ rest) (n * w) r (rows_of-length f w h n)).holds j ∙ get_or-append (f n) rest 0 j (omega (arith, h n))))
      (lt_or k n)

-- the word at each place of each column of a state
pub record Placed (s : State) (ws : List ℕ) : Type 0 where
  pub count : get_or ws 0 0 ≡ s.count
  pub rows : get_or ws 1 0 ≡ s.rows
  pub multiple : get_or ws 2 0 ≡ s.multiple
  pub cycle : get_or ws 3 0 ≡ s.cycle
  pub ticked : word_at ws marks_at 1 0 ≡ mark_word s.ticked
  pub halted : word_at ws marks_at 1 1 ≡ mark_word s.halted
  pub periods : (i : ℕ) → i < most_tasks → word_at ws tasks_at task_width i ≡ period s i
  pub deadlines : (i : ℕ) → i < most_tasks → word_at ws (tasks_at + 1) task_width i ≡ deadline s i
  pub computes : (i : ℕ) → i < most_tasks → word_at ws (tasks_at + 2) task_width i ≡ compute s i
  pub criticalities : (i : ℕ) → i < most_tasks → word_at ws (tasks_at + 3) task_width i ≡ criticality s i
  pub enforced : (i : ℕ) → i < most_tasks → word_at ws (tasks_at + 4) task_width i ≡ mark_word (Rattle.board.specs.StateWords.enforced s i)
  pub senders : (c : ℕ) → c < most_rows → word_at ws rows_at row_width c ≡ sender s c
  pub receivers : (c : ℕ) → c < most_rows → word_at ws (rows_at + 1) row_width c ≡ receiver s c
  pub undelayed : (c : ℕ) → c < most_rows → word_at ws (rows_at + 2) row_width c ≡ mark_word (Rattle.rules.specs.Views.undelayed s c)
  pub order : (i : ℕ) → i < most_tasks → word_at ws order_at 1 i ≡ ordered s i
  pub tasks : (i : ℕ) → i < most_tasks → word_at ws phases_at 1 i ≡ task_word (get_or s.tasks i idle_task)
  pub outputs : (i : ℕ) → i < most_tasks → word_at ws outputs_at 1 i ≡ output s i
  pub dispatches : (i : ℕ) → i < most_tasks → word_at ws dispatches_at 1 i ≡ dispatch s i
  pub buffers : (c : ℕ) → c < most_rows → word_at ws buffers_at 1 c ≡ buffer s c
  pub inputs : (c : ℕ) → c < most_rows → word_at ws inputs_at 1 c ≡ input s c

in_chain : (s : State) (t : List ℕ) →
    state_words s ++ t
    ≡ head_words s
    ++ (rows_of (task_row s) most_tasks
    ++ (rows_of (connection_row s) most_rows
    ++ (s.order ++ (map task_word s.tasks ++ (s.outputs ++ (s.dispatches ++ (s.buffers ++ (s.inputs ++ t))))))))
unfolding table_words moving_words
in_chain s t = simp append_assoc

pub placed : (s : State) (t : List ℕ) → Sized s → Placed s (state_words s ++ t)
unfolding head_words
placed s t z =
    let ws = state_words s ++ t in
    let h = stands-all ws _ (in_chain s t) in
    let a = behind ws 0 (head_words s) _ tasks_at h refl in
    let c = behind ws tasks_at (rows_of (task_row s) most_tasks) _ most_task_words a (rows_of-length (task_row s) task_width (λ _. refl) most_tasks) in
    let o = behind ws rows_at (rows_of (connection_row s) most_rows) _ most_row_words c (rows_of-length (connection_row s) row_width (λ _. refl) most_rows) in
    let p = behind ws order_at s.order _ most_tasks o z.order in
    let q : length (map task_word s.tasks) ≡ most_tasks = length-map s.tasks task_word ∙ z.tasks in
    let u = behind ws phases_at (map task_word s.tasks) _ most_tasks p q in
    let d = behind ws outputs_at s.outputs _ most_tasks u z.outputs in
    let b = behind ws dispatches_at s.dispatches _ most_tasks d z.dispatches in
    let i = behind ws buffers_at s.buffers _ most_rows b z.buffers in
    record {
      count = refl;
      rows = refl;
      multiple = refl;
      cycle = refl;
      ticked = refl;
      halted = refl;
      periods = λ k l. rows-at ws tasks_at (task_row s) task_width (λ _. refl) most_tasks k 0 _ a l (omega arith);
      deadlines = λ k l. rows-at ws tasks_at (task_row s) task_width (λ _. refl) most_tasks k 1 _ a l (omega arith);
      computes = λ k l. rows-at ws tasks_at (task_row s) task_width (λ _. refl) most_tasks k 2 _ a l (omega arith);
      criticalities = λ k l. rows-at ws tasks_at (task_row s) task_width (λ _. refl) most_tasks k 3 _ a l (omega arith);
      enforced = λ k l. rows-at ws tasks_at (task_row s) task_width (λ _. refl) most_tasks k 4 _ a l (omega arith);
      senders = λ k l. rows-at ws rows_at (connection_row s) row_width (λ _. refl) most_rows k 0 _ c l (omega arith);
      receivers = λ k l. rows-at ws rows_at (connection_row s) row_width (λ _. refl) most_rows k 1 _ c l (omega arith);
      undelayed = λ k l. rows-at ws rows_at (connection_row s) row_width (λ _. refl) most_rows k 2 _ c l (omega arith);
      order = λ k l. list_at ws order_at s.order _ most_tasks k o z.order l;
      tasks = λ k l. list_at ws phases_at (map task_word s.tasks) _ most_tasks k p q l ∙ get_or-map task_word s.tasks k idle_task;
      outputs = λ k l. list_at ws outputs_at s.outputs _ most_tasks k u z.outputs l;
      dispatches = λ k l. list_at ws dispatches_at s.dispatches _ most_tasks k d z.dispatches l;
      buffers = λ k l. list_at ws buffers_at s.buffers _ most_rows k b z.buffers l;
      inputs = λ k l. list_at ws inputs_at s.inputs _ most_rows k i z.inputs l;
    }

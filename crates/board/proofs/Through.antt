-- Through the boundary the executive is itself: words that hold a state are answered as the executive answers the state, and then hold
-- the state that it gives. A fresh start's state fits its words, and a call keeps that, so this goes on for all calls after a start.
use mathlib.Core.Path.{◌≡◌, refl, ap, sym, ◌∙◌}
use mathlib.Core.Bool.{true, false}
use mathlib.Core.List.{List, [], ◌++◌}
use mathlib.Core.Logic.{⊎_elim}
use Prim.Native.Nat.{ℕ, ◌≤◌, ◌<◌}
use native.Mathlib.Omega.{arith}
use lib.ListN.{get_or, length, drop}
use lib.Seq.{drop_at}
use lib.Dec.{eqb}
use Rattle.rules.specs.Counting.{column}
use Rattle.rules.specs.Sizes.{most_tasks, most_rows}
use Rattle.rules.specs.Tables.{count, rows, period, deadline, compute, criticality, flag, sender, receiver, kind}
use Rattle.rules.specs.Views.{set_halted}
use Rattle.rules.specs.Refusals.{InSize, Joins}
use Rattle.rules.specs.Plan.{Judges, Accepts}
use Rattle.rules.specs.Fresh.{fresh_state, no_plan, halted_zeros, start_of}
use Rattle.rules.specs.Calls.{tick_of, complete_of}
use Rattle.rules.specs.Runs.{refused}
use Rattle.rules.specs.declared.State.{State}
use Rattle.rules.specs.declared.Step.{Step}
use Rattle.rules.specs.declared.Plan.{Plan}
use Rattle.rules.specs.declared.Refusal as code
use Rattle.std.specs.Prelude.{Result, Ok, Err}
use Rattle.rules.proofs.Tests.{by_test, lt_or, cond_true, cond_false}
use Rattle.rules.proofs.Counting.{column-at, column-past, column-length}
use Rattle.rules.proofs.Refusals.{tables_of}
use Rattle.rules.proofs.Kept.{Kept, set_halted-kept}
use Rattle.rules.proofs.Calls.{tick_kept, tick_refused, complete_kept, complete_refused}
use Rattle.board.specs.Codes.{coded}
use Rattle.board.specs.Widths.{times, bytes}
use Rattle.board.specs.Layout.{state_size}
use Rattle.board.specs.StateWords.{state_words, state_from, stored_in}
use Rattle.board.specs.Boundary.{StartsTo, step_says, step_leaves, CallsTo}
use Rattle.board.proofs.WordPlaces.{Sized}
use Rattle.board.proofs.StateBack.{Fitting, state_back, state_encodes, words_count}

-- what a call keeps fits
pub kept_fitting : (s z : State) → Kept s z → Fitting s → Fitting z
kept_fitting s z k f =
    let w = f.sized in
    rw (← k.plan)
    (record {
      sized = record {
        periods = w.periods;
        deadlines = w.deadlines;
        computes = w.computes;
        criticalities = w.criticalities;
        enforced = w.enforced;
        senders = w.senders;
        receivers = w.receivers;
        undelayed = w.undelayed;
        order = w.order;
        tasks = k.tasks.size ∙ w.tasks;
        outputs = k.outputs.size ∙ w.outputs;
        dispatches = k.dispatches.size ∙ w.dispatches;
        buffers = k.buffers.size ∙ w.buffers;
        inputs = k.inputs.size ∙ w.inputs;
      };
      periods = f.periods;
      deadlines = f.deadlines;
      computes = f.computes;
      criticalities = f.criticalities;
      senders = f.senders;
      receivers = f.receivers;
      order = f.order;
    })

-- a step through the boundary: its answer as a number, its state in the words before what follows them, and a state that fits again
pub record Through (x : Step) (t : List ℕ) (r : ℕ) (new : List ℕ) : Type 0 where
  pub answer : r ≡ coded (step_says x)
  pub words : new ≡ state_words x.state ++ t
  pub fits : Fitting x.state

stored_on : (s z : State) (t : List ℕ) → Sized s → stored_in (state_words s ++ t) z ≡ state_words z ++ t
stored_on s z t w = ap (λ (l : List ℕ). state_words z ++ l) (drop_at (state_words s) t state_size (words_count s w))

-- a refused step returns the state it was given, so the words that stay are its words too
leaves_on : (s : State) (x : Step) (t : List ℕ) → Sized s → (refused x.answer ≡ true → x.state ≡ s) →
    step_leaves (state_words s ++ t) x ≡ state_words x.state ++ t
leaves_on s x t w same =
    by_test (refused x.answer)
    (λ e. cond_true (refused x.answer) (state_words s ++ t) (stored_in (state_words s ++ t) x.state) e ∙ ap (λ (z : State). state_words z ++ t) (sym (same e)))
    (λ e. cond_false (refused x.answer) (state_words s ++ t) (stored_in (state_words s ++ t) x.state) e ∙ stored_on s x.state t w)

module _ (s : State) (t : List ℕ) (r : ℕ) (new : List ℕ) (f : Fitting s) where
  call_through : (call : State → Step) → Kept s (call s).state → (refused (call s).answer ≡ true → (call s).state ≡ s) →
      CallsTo call (state_words s ++ t) r new → Through (call s) t r new
  call_through call k same w =
      let ws = state_words s ++ t in
      let e = state_encodes s t f in
      let b : call (state_from ws) ≡ call s = ap call (state_back s t f) in
      record {
        answer = w.answer ∙ rw (e, b) refl;
        words = w.words ∙ rw (e, b) (leaves_on s (call s) t f.sized same);
        fits = kept_fitting s (call s).state k f;
      }

  pub tick_through : CallsTo tick_of (state_words s ++ t) r new → Through (tick_of s) t r new
  tick_through = call_through tick_of (tick_kept s) (tick_refused s)

  pub complete_through : (w : ℕ) → CallsTo (λ z. complete_of z w) (state_words s ++ t) r new → Through (complete_of s w) t r new
  complete_through w = call_through (λ z. complete_of z w) (complete_kept s w) (complete_refused s w)

-- a column of values below a limit, with zeros past them
low_column : (f : ℕ → ℕ) (n places limit : ℕ) → n ≤ places → 0 < limit → ((k : ℕ) → k < n → f k < limit) → (k : ℕ) → get_or (column f n 0 places) k 0 < limit
low_column f n places limit a b h k =
    ⊎_elim (λ l. rw (column-at f n 0 places k l a) (h k l)) (λ g. rw (column-past f n 0 places k g) b) (lt_or k n)

-- the columns of a fresh state have their sizes
fresh_sized : (tw cw : List ℕ) (p : Plan) → length p.order ≡ most_tasks → Sized (fresh_state tw cw p)
unfolding fresh_state
fresh_sized tw cw p o = record {
  periods = column-length (period tw) (count tw) 0 most_tasks;
  deadlines = column-length (deadline tw) (count tw) 0 most_tasks;
  computes = column-length (compute tw) (count tw) 0 most_tasks;
  criticalities = column-length (criticality tw) (count tw) 0 most_tasks;
  enforced = column-length (λ i. eqb (flag tw i) 1) (count tw) false most_tasks;
  senders = column-length (sender cw) (rows cw) 0 most_rows;
  receivers = column-length (receiver cw) (rows cw) 0 most_rows;
  undelayed = column-length (λ c. eqb (kind cw c) 1) (rows cw) false most_rows;
  order = o;
  tasks = refl;
  outputs = refl;
  dispatches = refl;
  buffers = refl;
  inputs = refl;
}

-- tables hold values within their sizes
fresh_fitting : (tw cw : List ℕ) (p : Plan) → count tw ≤ most_tasks → rows cw ≤ most_rows → ((i : ℕ) → i < count tw → InSize tw i) →
    ((c : ℕ) → c < rows cw → Joins tw cw c) → length p.order ≡ most_tasks → ((k : ℕ) → get_or p.order k 0 < bytes) → Fitting (fresh_state tw cw p)
unfolding fresh_state
fresh_fitting tw cw p n m sizes joins o low = record {
  sized = fresh_sized tw cw p o;
  periods = low_column (period tw) (count tw) most_tasks times n (omega arith) (λ k h. omega (arith, (sizes k h).period_high));
  deadlines = low_column (deadline tw) (count tw) most_tasks times n (omega arith)
      (λ k h. omega (arith, (sizes k h).period_high, (sizes k h).deadline_high));
  computes = low_column (compute tw) (count tw) most_tasks times n (omega arith)
      (λ k h. omega (arith, (sizes k h).period_high, (sizes k h).deadline_high, (sizes k h).compute_high));
  criticalities = low_column (criticality tw) (count tw) most_tasks bytes n (omega arith) (λ k h. omega (arith, (sizes k h).criticality_high));
  senders = low_column (sender cw) (rows cw) most_rows bytes m (omega arith) (λ k h. omega (arith, (joins k h).sender_task));
  receivers = low_column (receiver cw) (rows cw) most_rows bytes m (omega arith) (λ k h. omega (arith, (joins k h).receiver_task));
  order = low;
}

accepted_fitting : (tw cw : List ℕ) (p : Plan) → Accepts tw cw p → Fitting (fresh_state tw cw p)
accepted_fitting tw cw p a =
    let t = tables_of tw cw a.sound in
    let n = t.lengths.tasks_most in
    fresh_fitting tw cw p n t.lengths.rows_most t.sizes t.joins a.order_past.0
    (λ k. ⊎_elim (λ l. omega (arith, a.order_is.names k l)) (λ g. omega (arith, a.order_past.1 k g)) (lt_or k (count tw)))

zeros_fitting : Fitting halted_zeros
unfolding halted_zeros
zeros_fitting =
    kept_fitting (fresh_state [] [] no_plan) (set_halted (fresh_state [] [] no_plan) true) (set_halted-kept (fresh_state [] [] no_plan) true)
    (fresh_fitting [] [] no_plan (omega arith) (omega arith) (λ i h. absurd (omega arith)) (λ c h. absurd (omega arith)) refl
    (low_column (λ _. 0) 0 most_tasks bytes (omega arith) (omega arith) (λ k h. absurd (omega arith))))

judged-fitting : (tw cw : List ℕ) (v : Result (Unit {0}) code.Refusal) (p : Plan) → Judges tw cw v p → Fitting (start_of tw cw p v).state
unfolding start_of
judged-fitting tw cw (Ok _) p a = accepted_fitting tw cw p a
judged-fitting tw cw (Err f) p a = zeros_fitting

pub fresh_through : (tw cw old : List ℕ) (r : ℕ) (new : List ℕ) (w : StartsTo tw cw old r new) → Through w.step (drop state_size old) r new
fresh_through tw cw old r new w =
    let x = w.started in
    record {
      answer = w.answer;
      words = w.words;
      fits = rw x.starts.state (judged-fitting tw cw x.plan.verdict x.plan x.planned);
    }

-- What the rules give, a program's types hold: a fresh start that is accepted, and behind it each tick and each completion. Words are
-- copied or are the caller's, recorded cycles are the cycle, and the cycle stays below the common multiple; no column changes its length.
use mathlib.Core.Path.{◌≡◌, refl, ◌∙◌}
use mathlib.Core.Bool.{Bool, true, false, not, cond, ◌&&◌}
use mathlib.Core.Logic.{⊎_elim}
use mathlib.Core.List.{List, [], ◌∷◌}
use Prim.Native.Nat.{ℕ, ◌+◌, ◌^◌, ◌≤◌, ◌<◌}
use native.Mathlib.Omega.{arith}
use lib.ListN.{length, get_or, set, replicate, length-set, length-replicate, get_or-eq_default}
use lib.Seq.{get_or-set_same, get_or-set_other}
use lib.Dec.{eqb, ltb}
use Rattle.rules.specs.declared.Task.{Task}
use Rattle.rules.specs.declared.State.{State}
use Rattle.rules.specs.declared.Step.{Step}
use Rattle.rules.specs.declared.Plan.{Plan}
use Rattle.rules.specs.Sizes.{most_tasks, most_rows, longest_period}
use Rattle.rules.specs.Counting.{map_below, column}
use Rattle.rules.specs.Tables as table
use Rattle.rules.specs.Plan.{Accepts}
use Rattle.rules.specs.Fresh.{fresh_state}
use Rattle.rules.specs.Views.{undelayed, sender, receiver, dispatch, output, buffer, moved, set_halted}
use Rattle.rules.specs.Range.{in_range}
use Rattle.rules.specs.Steps.{falls, delivers, delivered, released, samples, wakes, records, dispatched, missing, some_runs, running, takes, started_at, chosen, advanced, ticking, posts, ended_at, completing}
use Rattle.rules.specs.Calls.{tick_of, complete_of}
use Rattle.rules.specs.Runs.{Call, Call.tick, Call.complete, Sent, Moment, next, after}
use Rattle.rules.proofs.Tests.{cond_by, lt_or, eq_or}
use Rattle.rules.proofs.Counting.{map_below-length, map_below-keeps, column-at, column-past, column-length, replicate_at}
use Rattle.rules.proofs.Refusals.{Tables, tables_of}
use Rattle.rules.proofs.Runs.Start.{multiple_high}
use Rattle.rules.proofs.Range.{Ranged, in_range-ranged}
use Rattle.rules.proofs.Steps.{starts, chosen-state, chosen-cycle}
use Rattle.rules.proofs.Calls.{judged-by}
use Rattle.demands.specs.Programs.{Bits, Words, Column, Held}

-- ---------------------------------------------------------------------------------------------------------------------------
-- Columns

-- each place, also past the last, where 0 stands
word_at : (b : ℕ) (ws : List ℕ) → Words b ws → 0 < 2 ^ b → (k : ℕ) → Bits b (get_or ws k 0)
word_at b ws h pos k = ⊎_elim (λ l. h k l) (λ l. rw (get_or-eq_default ws 0 {n = k} l) pos) (lt_or k (length ws))

module _ (places : ℕ) (ws : List ℕ) (col : Column 32 places ws) where
  pub at : (k : ℕ) → Bits 32 (get_or ws k 0)
  at = word_at 32 ws col.1 (omega arith)

  mapped : (f : ℕ → ℕ → ℕ) (n : ℕ) → ((k x : ℕ) → Bits 32 x → Bits 32 (f k x)) → Column 32 places (map_below f n ws)
  mapped f n keeps = (map_below-length f n ws ∙ col.0, λ k _. map_below-keeps (Bits 32) f keeps n ws k 0 (at k))

  stored : (i v : ℕ) → Bits 32 v → Column 32 places (set ws i v)
  stored i v h = (
    length-set ws i v ∙ col.0,
    λ k l.
        ⊎_elim (λ e. rw (e, get_or-set_same ws i v 0 (omega (arith, length-set ws i v))) h)
        (λ n. rw (get_or-set_other ws i k v 0 n) (at k)) (eq_or k i),
  )

-- a column that a fresh start makes of a table, and one at rest
module _ (b places : ℕ) (pos : 0 < 2 ^ b) where
  made : (f : ℕ → ℕ) (n : ℕ) → n ≤ places → ((k : ℕ) → k < n → Bits b (f k)) → Column b places (column f n 0 places)
  made f n le h = (
    column-length f n 0 places,
    λ k _.
        ⊎_elim (λ l. rw (column-at f n 0 places k l le) (h k l)) (λ l. rw (column-past f n 0 places k l) pos) (lt_or k n),
  )

  rests : Column b places (replicate places 0)
  rests = (length-replicate places 0, λ k _. rw (replicate_at {A = ℕ} places k 0) pos)

-- one of two
either : (b : Bool) (x y : ℕ) → Bits 32 x → Bits 32 y → Bits 32 (cond b x y)
either b x y hx hy = cond_by (Bits 32) b x y (λ _. hx) (λ _. hy)

pub moved-held : (s : State) (ts : List Task) (os ds bs is : List ℕ) (t : ℕ) (k h : Bool) → Held s → length ts ≡ most_tasks →
    Column 32 most_tasks os → Column 32 most_tasks ds → Column 32 most_rows bs → Column 32 most_rows is → Bits 32 t →
    Held (moved s ts os ds bs is t k h)
moved-held s ts os ds bs is t k h z lt lo ld lb li c = record {
  count = z.count;
  rows = z.rows;
  periods = z.periods;
  deadlines = z.deadlines;
  computes = z.computes;
  criticalities = z.criticalities;
  enforced = z.enforced;
  senders = z.senders;
  receivers = z.receivers;
  undelayed = z.undelayed;
  order = z.order;
  multiple = z.multiple;
  tasks = lt;
  outputs = lo;
  dispatches = ld;
  buffers = lb;
  inputs = li;
  cycle = c;
}

-- ---------------------------------------------------------------------------------------------------------------------------
-- The steps

module _ (s : State) (h : Held s) where
  output-held : (i : ℕ) → Bits 32 (output s i)
  output-held = at most_tasks s.outputs h.outputs

  buffer_held : (c : ℕ) → Bits 32 (buffer s c)
  buffer_held = at most_rows s.buffers h.buffers

  delivered-held : Held (delivered s)
  unfolding delivered
  delivered-held =
      moved-held s _ _ _ _ _ _ _ _ h h.tasks h.outputs h.dispatches
      (mapped most_rows s.buffers h.buffers (delivers s) s.rows
      (λ c b. either (not (undelayed s c) && falls s (sender s c)) (output s (sender s c)) b (output-held (sender s c))))
      h.inputs h.cycle

  dispatched-held : Held (dispatched s)
  unfolding dispatched
  dispatched-held =
      moved-held s _ _ _ _ _ _ _ _ h (map_below-length (wakes s) s.count s.tasks ∙ h.tasks) h.outputs
      (mapped most_tasks s.dispatches h.dispatches (records s) s.count (λ i t. either (released s i) s.cycle t h.cycle))
      h.buffers
      (mapped most_rows s.inputs h.inputs (samples s) s.rows
      (λ c x. either (not (undelayed s c) && released s (receiver s c)) (buffer s c) x (buffer_held c)))
      h.cycle

  started_at-held : (i : ℕ) → Held (started_at s i)
  unfolding started_at
  started_at-held i =
      moved-held s _ _ _ _ _ _ _ _ h (length-set s.tasks i _ ∙ h.tasks) h.outputs h.dispatches h.buffers
      (mapped most_rows s.inputs h.inputs (takes s i) s.rows
      (λ c x. either (undelayed s c && eqb (receiver s c) i) (buffer s c) x (buffer_held c)))
      h.cycle

  chosen-held : Held (chosen s).state
  chosen-held = rw (chosen-state s) (cond_by Held (starts s) (started_at s (running s)) s (λ _. started_at-held (running s)) (λ _. h))

  advanced-held : Bits 32 (s.cycle + 1) → Held (advanced s)
  unfolding advanced
  advanced-held l =
      moved-held s _ _ _ _ _ _ _ _ h h.tasks h.outputs h.dispatches h.buffers h.inputs
      (either (eqb (s.cycle + 1) s.multiple) 0 (s.cycle + 1) (omega arith) l)

  ended_at-held : (i w : ℕ) → Bits 32 w → Held (ended_at s i w)
  unfolding ended_at
  ended_at-held i w l =
      moved-held s _ _ _ _ _ _ _ _ h (length-set s.tasks i _ ∙ h.tasks) (stored most_tasks s.outputs h.outputs i w l) h.dispatches
      (mapped most_rows s.buffers h.buffers (posts s i w) s.rows
      (λ c b. either (undelayed s c && eqb (sender s c) i && eqb (dispatch s (receiver s c)) (dispatch s i)) w b l))
      h.inputs h.cycle

  missed-held : Held (set_halted s true)
  missed-held = moved-held s _ _ _ _ _ _ _ _ h h.tasks h.outputs h.dispatches h.buffers h.inputs h.cycle

exchanged_cycle : (s : State) → (dispatched (delivered s)).cycle ≡ s.cycle
unfolding delivered dispatched
exchanged_cycle s = refl

ticking-held : (s : State) → Held s → Ranged s → Held (ticking s).state
unfolding ticking
ticking-held s h r =
    let z : State = dispatched (delivered s) in
    let e : (chosen z).state.cycle ≡ s.cycle = chosen-cycle z ∙ exchanged_cycle s in
    cond_by (λ (x : Step). Held x.state) (ltb (missing s) s.count) _ _ (λ _. missed-held s h)
    (λ _. advanced-held (chosen z).state (chosen-held z (dispatched-held (delivered s) (delivered-held s h))) (omega (arith, r.sizes)))

pub tick_held : (s : State) → Held s → Held (tick_of s).state
tick_held s h =
    judged-by (λ (x : Step). Held x.state) (in_range s) s.halted s (ticking s) (λ _. h) (λ e _. ticking-held s h (in_range-ranged s e))

completing-held : (s : State) (w : ℕ) → Held s → Bits 32 w → Held (completing s w).state
unfolding completing
completing-held s w h l =
    cond_by (λ (x : Step). Held x.state) (some_runs s) _ _
    (λ _. chosen-held (ended_at s (running s) w) (ended_at-held s h (running s) w l)) (λ _. h)

pub complete_held : (s : State) (w : ℕ) → Held s → Bits 32 w → Held (complete_of s w).state
complete_held s w h l =
    judged-by (λ (x : Step). Held x.state) (in_range s) s.halted s (completing s w) (λ _. h) (λ _ _. completing-held s w h l)

pub after-held : (cs : List Call) (m : Moment) → Held m.state → Sent cs → Held (after m cs).state
after-held [] m h t = h
after-held (tick ∷ cs) m h t = after-held cs (next m tick) (tick_held m.state h) t
after-held (complete w ∷ cs) m h t = after-held cs (next m (complete w)) (complete_held m.state w h t.0) t.1

-- ---------------------------------------------------------------------------------------------------------------------------
-- The start: refusals 3, 4 and 8 bound what stands in the tables

module _ (tw cw : List ℕ) (p : Plan) (a : Accepts tw cw p) where
  t : Tables tw cw
  t = tables_of tw cw a.sound

  time_held : (f : ℕ → ℕ) → ((i : ℕ) → i < table.count tw → f i ≤ longest_period) → Column 16 most_tasks (column f (table.count tw) 0 most_tasks)
  time_held f h = made 16 most_tasks (omega arith) f (table.count tw) t.lengths.tasks_most (λ i l. omega (arith, h i l))

  ordered-held : Column 8 most_tasks p.order
  ordered-held = (
    a.order_past.0,
    λ k _.
        ⊎_elim (λ l. omega (arith, a.order_is.names k l, t.lengths)) (λ l. rw (a.order_past.1 k l) (omega arith)) (lt_or k (table.count tw)),
  )

  pub fresh_held : Held (fresh_state tw cw p)
  unfolding fresh_state
  fresh_held = record {
    count = omega (arith, t.lengths);
    rows = omega (arith, t.lengths);
    periods = time_held (table.period tw) (λ i l. (t.sizes i l).period_high);
    deadlines = time_held (table.deadline tw) (λ i l. omega (arith, t.sizes i l));
    computes = time_held (table.compute tw) (λ i l. omega (arith, t.sizes i l));
    criticalities =
        made 8 most_tasks (omega arith) (table.criticality tw) (table.count tw) t.lengths.tasks_most
        (λ i l. omega (arith, (t.sizes i l).criticality_high));
    enforced = column-length _ (table.count tw) false most_tasks;
    senders =
        made 8 most_rows (omega arith) (table.sender cw) (table.rows cw) t.lengths.rows_most
        (λ c l. omega (arith, (t.joins c l).sender_task, t.lengths));
    receivers =
        made 8 most_rows (omega arith) (table.receiver cw) (table.rows cw) t.lengths.rows_most
        (λ c l. omega (arith, (t.joins c l).receiver_task, t.lengths));
    undelayed = column-length _ (table.rows cw) false most_rows;
    order = ordered-held;
    multiple = omega (arith, multiple_high tw cw p a);
    tasks = refl;
    outputs = rests 32 most_tasks (omega arith);
    dispatches = rests 32 most_tasks (omega arith);
    buffers = rests 32 most_rows (omega arith);
    inputs = rests 32 most_rows (omega arith);
    cycle = omega arith;
  }

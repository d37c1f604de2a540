-- The fresh state of an accepted plan is all that the theorems about runs ask of a state: it is in range, each period divides the common
-- multiple, the sender of an undelayed row stands before its receiver, one of their periods divides the other, and all is at rest.
use mathlib.Core.Path.{◌≡◌, refl, sym, ◌∙◌, ap}
use mathlib.Core.Bool.{true, false}
use mathlib.Core.List.{List}
use mathlib.Core.Logic.{◌⊎◌, inl, inr, ⊎_elim}
use Prim.Native.Nat.{ℕ, ◌%◌, ◌≤◌, ◌<◌, ◌∣◌}
use native.Mathlib.Nat.{dvd_of_mod-eq-zero, mod-eq-zero_of_dvd}
use native.Mathlib.Omega.{arith}
use lib.ListN.{get_or, replicate, length-replicate}
use lib.Dec.{eqb}
use borrow.Author.Tests.{eqb-true, eq-eqb}
use Rattle.rules.specs.declared.Phase.TheVariants as phase
use Rattle.rules.specs.declared.Task.{Task}
use Rattle.rules.specs.declared.State.{State}
use Rattle.rules.specs.declared.Plan.{Plan}
use Rattle.rules.specs.Sizes.{most_tasks, most_rows, most_multiple}
use Rattle.rules.specs.Tables as table
use Rattle.rules.specs.Plan.{Accepts}
use Rattle.rules.specs.Fresh.{fresh_state}
use Rattle.rules.specs.Views.{idle, task_in, period, deadline, compute, sender, receiver, undelayed}
use Rattle.rules.specs.Range.{names, place_of}
use Rattle.rules.proofs.Tests.{lt_or, eq_or}
use Rattle.rules.proofs.Counting.{column-at, column-past, first_of-least}
use Rattle.rules.proofs.Range.{Ranged, ranged_in_range, place_of-names}
use Rattle.rules.proofs.Refusals.{Tables, tables_of}
use Rattle.rules.proofs.Order.{sender-before_receiver}
use Rattle.rules.proofs.Runs.Parts.{Fits}
use Rattle.rules.proofs.Runs.Invariant.{Planned}

-- whether one number divides another can be told
divides-or : (a b : ℕ) → (a ∣ b) ⊎ (a ∣ b → ⊥)
divides-or a b = ⊎_elim (λ e. inl (dvd_of_mod-eq-zero a e)) (λ n. inr (λ d. n (mod-eq-zero_of_dvd a d))) (eq_or (b % a) 0)

-- a column at rest holds the same at each place
rests_at : {A : Type 0} (z : A) (places k : ℕ) → get_or (replicate places z) k z ≡ z
rests_at z places k = column-past (λ _. z) 0 z places k (omega arith)

module _ (tw cw : List ℕ) (p : Plan) (a : Accepts tw cw p) where
  t : Tables tw cw
  t = tables_of tw cw a.sound

  abbrev s : State
  s = fresh_state tw cw p

  -- its columns are those of the tables
  module _ (i : ℕ) (h : i < table.count tw) where
    pub period-is : period s i ≡ table.period tw i
    unfolding fresh_state
    period-is = column-at (table.period tw) (table.count tw) 0 most_tasks i h t.lengths.tasks_most

    pub deadline_is : deadline s i ≡ table.deadline tw i
    unfolding fresh_state
    deadline_is = column-at (table.deadline tw) (table.count tw) 0 most_tasks i h t.lengths.tasks_most

    compute-is : compute s i ≡ table.compute tw i
    unfolding fresh_state
    compute-is = column-at (table.compute tw) (table.count tw) 0 most_tasks i h t.lengths.tasks_most

  module _ (c : ℕ) (h : c < table.rows cw) where
    pub sender-is : sender s c ≡ table.sender cw c
    unfolding fresh_state
    sender-is = column-at (table.sender cw) (table.rows cw) 0 most_rows c h t.lengths.rows_most

    pub receiver-is : receiver s c ≡ table.receiver cw c
    unfolding fresh_state
    receiver-is = column-at (table.receiver cw) (table.rows cw) 0 most_rows c h t.lengths.rows_most

    undelayed-is : undelayed s c ≡ true → table.kind cw c ≡ 1
    unfolding fresh_state
    undelayed-is e =
        eqb-true (table.kind cw c) 1
        (sym (column-at (λ k. eqb (table.kind cw k) 1) (table.rows cw) false most_rows c h t.lengths.rows_most) ∙ e)

  pub multiple_high : p.multiple ≤ most_multiple
  multiple_high =
      ⊎_elim (λ over. absurd (a.sound 8 0 (refl, λ c pos most common. omega (arith, a.multiple_is.least c pos common)))) (λ le. le)
      (lt_or most_multiple p.multiple)

  -- a task's place in the order
  has_place : (i : ℕ) → i < table.count tw → place_of s i < table.count tw
  unfolding fresh_state
  has_place i h =
      let w = a.order_is.each i h in
      omega (arith, w.1, first_of-least (names s i) (table.count tw) w.0 (eq-eqb _ _ w.2))

  ranged : Ranged s
  unfolding fresh_state
  ranged = record {
    sizes = record {
      some = t.lengths.some;
      few = t.lengths.tasks_most;
      few_rows = t.lengths.rows_most;
      multiple_low = a.multiple_is.some;
      multiple_high = multiple_high;
      cycle_below = a.multiple_is.some;
    };
    times = λ i h. let z = t.sizes i h in record {
      compute_low = rw (compute-is i h) z.compute_low;
      compute_high = rw (compute-is i h, deadline_is i h) z.compute_high;
      deadline_high = rw (deadline_is i h, period-is i h) z.deadline_high;
      period_high = rw (period-is i h) z.period_high;
    };
    dispatches = λ i h. omega (arith, rests_at {A = ℕ} 0 most_tasks i, a.multiple_is.some);
    joins = λ c h. let j = t.joins c h in record {
      sender_task = rw (sender-is c h) j.sender_task;
      receiver_task = rw (receiver-is c h) j.receiver_task;
    };
    names_task = a.order_is.names;
    has_place = has_place;
  }

  -- what the planner adds: 5 does not stand, and the order puts senders first
  harmonic : (c : ℕ) → c < table.rows cw → table.kind cw c ≡ 1 →
      (table.period tw (table.sender cw c) ∣ table.period tw (table.receiver cw c))
      ⊎ (table.period tw (table.receiver cw c) ∣ table.period tw (table.sender cw c))
  harmonic c h u =
      ⊎_elim inl
      (λ up. ⊎_elim inr (λ down. absurd (a.sound 5 c (h, record { undelayed = u; not_up = up; not_down = down })))
      (divides-or (table.period tw (table.receiver cw c)) (table.period tw (table.sender cw c))))
      (divides-or (table.period tw (table.sender cw c)) (table.period tw (table.receiver cw c)))

  sender_first : (c : ℕ) → c < table.rows cw → table.kind cw c ≡ 1 → place_of s (table.sender cw c) < place_of s (table.receiver cw c)
  unfolding fresh_state
  sender_first c h u =
      let j = t.joins c h in
      sender-before_receiver tw cw p a c h u (place_of s (table.sender cw c)) (place_of s (table.receiver cw c))
      (has_place (table.sender cw c) j.sender_task) (has_place (table.receiver cw c) j.receiver_task)
      (place_of-names s ranged (table.sender cw c) j.sender_task) (place_of-names s ranged (table.receiver cw c) j.receiver_task)

  fits : Fits s
  unfolding fresh_state
  fits = record {
    tasks_fit = rw length-replicate t.lengths.tasks_most;
    outputs_fit = rw length-replicate t.lengths.tasks_most;
    dispatches_fit = rw length-replicate t.lengths.tasks_most;
    buffers_fit = rw length-replicate t.lengths.rows_most;
    inputs_fit = rw length-replicate t.lengths.rows_most;
  }

  pub fresh_planned : Planned (fresh_state tw cw p)
  unfolding fresh_state
  fresh_planned = record {
    in_range = ranged_in_range s ranged;
    divides = λ i h. rw (period-is i h) (a.multiple_is.common i h);
    sender_first = λ c h e. rw (sender-is c h, receiver-is c h) (sender_first c h (undelayed-is c h e));
    harmonic = λ c h e. let j = t.joins c h in
        rw (sender-is c h, receiver-is c h, period-is (table.sender cw c) j.sender_task, period-is (table.receiver cw c) j.receiver_task)
        (harmonic c h (undelayed-is c h e));
    fits = fits;
    all_idle = λ i _. ap (λ (k : Task). idle k.phase) (rests_at (task_in phase.Idle) most_tasks i);
    no_output = λ i _. rests_at {A = ℕ} 0 most_tasks i;
    no_buffer = λ c _. rests_at {A = ℕ} 0 most_rows c;
    first_cycle = refl;
    no_tick = refl;
    no_halt = refl;
  }

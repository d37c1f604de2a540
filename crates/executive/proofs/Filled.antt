-- A fresh state while its columns are filled: those of the tasks up to task i, those of the connections up to row c.
use mathlib.Core.Path.{◌≡◌, refl}
use mathlib.Core.Bool.{Bool, false}
use mathlib.Core.List.{List, []}
use Prim.Native.Nat.{ℕ, ◌+◌}
use lib.Dec.{eqb}
use lib.ListN.{set, replicate}
use Rattle.rules.specs.Counting.{column}
use Rattle.rules.specs.Sizes.{most_tasks, most_rows}
use Rattle.rules.specs.Tables.{count, rows, period, deadline, compute, criticality, flag, sender, receiver, kind}
use Rattle.rules.specs.Views.{task_in}
use Rattle.rules.specs.Fresh.{fresh_state, no_plan}
use Rattle.rules.specs.declared.Phase.TheVariants as phase
use Rattle.rules.specs.declared.Plan.{Plan}
use Rattle.rules.specs.declared.State.{State}
use Rattle.rules.specs.Rows.{task_row_at, connection_row_at}
use Rattle.rules.specs.declared.TaskRow.{TaskRow}
use Rattle.rules.specs.declared.ConnectionRow.{ConnectionRow}
use Rattle.executive.proofs.Columns.{column-more}

module _ (tw cw : List ℕ) (p : Plan) where
  abbrev pub enforced_in : ℕ → Bool
  enforced_in i = eqb (flag tw i) 1

  abbrev pub undelayed_in : ℕ → Bool
  undelayed_in c = eqb (kind cw c) 1

  abbrev pub filled : ℕ → ℕ → State
  filled i c = record {
    count = count tw;
    rows = rows cw;
    periods = column (period tw) i 0 most_tasks;
    deadlines = column (deadline tw) i 0 most_tasks;
    computes = column (compute tw) i 0 most_tasks;
    criticalities = column (criticality tw) i 0 most_tasks;
    enforced = column enforced_in i false most_tasks;
    senders = column (sender cw) c 0 most_rows;
    receivers = column (receiver cw) c 0 most_rows;
    undelayed = column undelayed_in c false most_rows;
    order = p.order;
    multiple = p.multiple;
    tasks = replicate most_tasks (task_in phase.Idle);
    outputs = replicate most_tasks 0;
    dispatches = replicate most_tasks 0;
    buffers = replicate most_rows 0;
    inputs = replicate most_rows 0;
    cycle = 0;
    ticked = false;
    halted = false;
  }

  pub filled-whole : filled (count tw) (rows cw) ≡ fresh_state tw cw p
  unfolding fresh_state
  filled-whole = refl

  -- at rest, with the counts, the order and the common multiple
  abbrev pub begun : State → State
  begun z = record z { count = count tw; rows = rows cw; order = p.order; multiple = p.multiple }

  pub filled-none : begun (fresh_state [] [] no_plan) ≡ filled 0 0
  unfolding fresh_state
  filled-none = refl

  -- the state with one more task, or row
  abbrev pub with_task : State → ℕ → TaskRow → State
  with_task s i r = record s {
    periods = set s.periods i r.period;
    deadlines = set s.deadlines i r.deadline;
    computes = set s.computes i r.compute;
    criticalities = set s.criticalities i r.criticality;
    enforced = set s.enforced i (eqb r.flag 1);
  }

  abbrev pub with_row : State → ℕ → ConnectionRow → State
  with_row s c r = record s {
    senders = set s.senders c r.sender;
    receivers = set s.receivers c r.receiver;
    undelayed = set s.undelayed c (eqb r.kind 1);
  }

  pub task-filled : (i : ℕ) → with_task (filled i 0) i (task_row_at tw i) ≡ filled (i + 1) 0
  task-filled i =
      rw (
        column-more (period tw) 0 most_tasks i _ _ refl refl,
        column-more (deadline tw) 0 most_tasks i _ _ refl refl,
        column-more (compute tw) 0 most_tasks i _ _ refl refl,
        column-more (criticality tw) 0 most_tasks i _ _ refl refl,
        column-more enforced_in false most_tasks i _ _ refl refl,
      ) refl

  pub row-filled : (c : ℕ) → with_row (filled (count tw) c) c (connection_row_at cw c) ≡ filled (count tw) (c + 1)
  row-filled c =
      rw (
        column-more (sender cw) 0 most_rows c _ _ refl refl,
        column-more (receiver cw) 0 most_rows c _ _ refl refl,
        column-more undelayed_in false most_rows c _ _ refl refl,
      ) refl

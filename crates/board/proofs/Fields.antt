-- A state is known from its fields.
use mathlib.Core.Path.{◌≡◌, refl}
use mathlib.Core.Bool.{Bool}
use mathlib.Core.List.{List}
use Prim.Native.Nat.{ℕ}
use Rattle.rules.specs.declared.Task.{Task}
use Rattle.rules.specs.declared.State.{State}

pub fields_are : (s : State) (count rows : ℕ) (periods deadlines computes criticalities : List ℕ) (enforced : List Bool)
    (senders receivers : List ℕ) (undelayed : List Bool) (order : List ℕ) (multiple : ℕ) (tasks : List Task)
    (outputs dispatches buffers inputs : List ℕ) (cycle : ℕ) (ticked halted : Bool) →
    count ≡ s.count → rows ≡ s.rows → periods ≡ s.periods → deadlines ≡ s.deadlines → computes ≡ s.computes →
    criticalities ≡ s.criticalities → enforced ≡ s.enforced → senders ≡ s.senders → receivers ≡ s.receivers →
    undelayed ≡ s.undelayed → order ≡ s.order → multiple ≡ s.multiple → tasks ≡ s.tasks → outputs ≡ s.outputs →
    dispatches ≡ s.dispatches → buffers ≡ s.buffers → inputs ≡ s.inputs → cycle ≡ s.cycle → ticked ≡ s.ticked →
    halted ≡ s.halted →
    ◌≡◌ {A = State}
    record {
      count = count;
      rows = rows;
      periods = periods;
      deadlines = deadlines;
      computes = computes;
      criticalities = criticalities;
      enforced = enforced;
      senders = senders;
      receivers = receivers;
      undelayed = undelayed;
      order = order;
      multiple = multiple;
      tasks = tasks;
      outputs = outputs;
      dispatches = dispatches;
      buffers = buffers;
      inputs = inputs;
      cycle = cycle;
      ticked = ticked;
      halted = halted;
    }
    s
fields_are s count rows periods deadlines computes criticalities enforced senders receivers undelayed order multiple tasks
    outputs dispatches buffers inputs cycle ticked halted a b c d e f g h i j k l m n o p q r t u =
    rw (a, b, c, d, e, f, g, h, i, j, k, l, m, n, o, p, q, r, t, u) refl

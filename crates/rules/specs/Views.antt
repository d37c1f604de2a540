-- The state by task and by connection row: one view for each column, and one setter for each field that a call changes.
-- The steps read and change the state through these alone, so that a new field is named here and nowhere else.
use Rattle.std.specs.Prelude.{Bool, true, false, List, ℕ, get_or}
use Rattle.rules.specs.declared.Phase.{Phase}
use Rattle.rules.specs.declared.Phase.TheVariants as phase
use Rattle.rules.specs.declared.Task.{Task}
use Rattle.rules.specs.declared.State.{State}

-- "each task is idle, waiting or started"
abbrev pub idle : Phase → Bool
idle phase.Idle = true
idle phase.Waiting = false
idle phase.Started = false

abbrev pub waiting : Phase → Bool
waiting phase.Idle = false
waiting phase.Waiting = true
waiting phase.Started = false

abbrev pub started : Phase → Bool
started phase.Idle = false
started phase.Waiting = false
started phase.Started = true

abbrev pub task_in : Phase → Task
task_in p = record { phase = p }

-- the plan: the values of task i, of row c, and the task at place k of the order
abbrev pub period : State → ℕ → ℕ
period s i = get_or s.periods i 0

abbrev pub deadline : State → ℕ → ℕ
deadline s i = get_or s.deadlines i 0

abbrev pub compute : State → ℕ → ℕ
compute s i = get_or s.computes i 0

abbrev pub sender : State → ℕ → ℕ
sender s c = get_or s.senders c 0

abbrev pub receiver : State → ℕ → ℕ
receiver s c = get_or s.receivers c 0

abbrev pub undelayed : State → ℕ → Bool
undelayed s c = get_or s.undelayed c false

abbrev pub ordered : State → ℕ → ℕ
ordered s k = get_or s.order k 0

-- what moves: "beside its output word, its latest dispatch cycle, and for each connection a buffer word and an input word"
abbrev pub phase_of : State → ℕ → Phase
phase_of s i = (get_or s.tasks i (task_in phase.Idle)).phase

abbrev pub output : State → ℕ → ℕ
output s i = get_or s.outputs i 0

abbrev pub dispatch : State → ℕ → ℕ
dispatch s i = get_or s.dispatches i 0

abbrev pub buffer : State → ℕ → ℕ
buffer s c = get_or s.buffers c 0

abbrev pub input : State → ℕ → ℕ
input s c = get_or s.inputs c 0

-- the state with the fields that a call changes set anew, and its plan kept
abbrev pub moved : State → List Task → List ℕ → List ℕ → List ℕ → List ℕ → ℕ → Bool → Bool → State
moved s tasks outputs dispatches buffers inputs cycle ticked halted = record {
  count = s.count;
  rows = s.rows;
  periods = s.periods;
  deadlines = s.deadlines;
  computes = s.computes;
  criticalities = s.criticalities;
  enforced = s.enforced;
  senders = s.senders;
  receivers = s.receivers;
  undelayed = s.undelayed;
  order = s.order;
  multiple = s.multiple;
  tasks = tasks;
  outputs = outputs;
  dispatches = dispatches;
  buffers = buffers;
  inputs = inputs;
  cycle = cycle;
  ticked = ticked;
  halted = halted;
}

-- one setter for each of them; a tick that passed sets the cycle and the mark of a tick together
abbrev pub set_tasks : State → List Task → State
set_tasks s x = moved s x s.outputs s.dispatches s.buffers s.inputs s.cycle s.ticked s.halted

abbrev pub set_outputs : State → List ℕ → State
set_outputs s x = moved s s.tasks x s.dispatches s.buffers s.inputs s.cycle s.ticked s.halted

abbrev pub set_dispatches : State → List ℕ → State
set_dispatches s x = moved s s.tasks s.outputs x s.buffers s.inputs s.cycle s.ticked s.halted

abbrev pub set_buffers : State → List ℕ → State
set_buffers s x = moved s s.tasks s.outputs s.dispatches x s.inputs s.cycle s.ticked s.halted

abbrev pub set_inputs : State → List ℕ → State
set_inputs s x = moved s s.tasks s.outputs s.dispatches s.buffers x s.cycle s.ticked s.halted

abbrev pub set_cycle : State → ℕ → Bool → State
set_cycle s t k = moved s s.tasks s.outputs s.dispatches s.buffers s.inputs t k s.halted

abbrev pub set_halted : State → Bool → State
set_halted s x = moved s s.tasks s.outputs s.dispatches s.buffers s.inputs s.cycle s.ticked x

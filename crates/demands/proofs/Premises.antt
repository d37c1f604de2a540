-- The premises of the theorems can be met: the rules' own tick and completion are programs that meet the contracts, the session's machine
-- file gives a start, and there is a tick that makes all copies at the first tick and only names tasks afterwards, which breaks the demand.
use mathlib.Core.Path.{◌≡◌, refl}
use mathlib.Core.Bool.{Bool, true, false}
use lib.ListN.{replicate}
use lib.Seq.{sets}
use Rattle.rules.specs.declared.State.{State}
use Rattle.rules.specs.declared.Step.{Step}
use Rattle.rules.specs.declared.Answer.TheVariants as answer
use Rattle.rules.specs.Sizes.{most_task_words, most_row_words}
use Rattle.rules.specs.File.{records, onward, item_at, marked, task_row, connection_row, reading_of, task_words, connection_words, read_of, filled}
use Rattle.rules.specs.Fresh.{FreshIs, start_of}
use Rattle.rules.specs.Steps.{step}
use Rattle.rules.specs.Calls.{tick_of, complete_of}
use Rattle.rules.specs.Runs.{start, after_by}
use Rattle.rules.proofs.Tests.{false_true}
use Rattle.rules.proofs.Answers.{step-refl}
use Rattle.rules.proofs.Session.{session, session_tasks, session_rows, session_plan, session_planned, session_file}
use Rattle.demands.specs.Demands.{FileStart, TablesStart, ReadsAsNamed}
use Rattle.demands.specs.Programs.{Held, Ticker, MeetsTick, Completer, MeetsComplete}
use Rattle.demands.specs.ShutOut.{CopiesAtFirstOnly, NamesTasks}
use Rattle.demands.proofs.Held.{moved-held, tick_held, complete_held}
use Rattle.demands.proofs.CopiesAtFirst.{with_words, names_only, copies_at_first_break_demand}
use Rattle.demands.proofs.ShutOut.{M10}

-- ---------------------------------------------------------------------------------------------------------------------------
-- The rules' own tick and completion

abbrev pub ruled_tick : Ticker
ruled_tick = record { run = tick_of; gives = tick_held }

pub ruled_tick_meets : MeetsTick ruled_tick
ruled_tick_meets s h = step-refl (tick_of s) (tick_of s) refl

abbrev pub ruled_complete : Completer
ruled_complete = record { run = complete_of; gives = complete_held }

pub ruled_complete_meets : MeetsComplete ruled_complete
ruled_complete_meets s w h l = step-refl (complete_of s w) (complete_of s w) refl

-- ---------------------------------------------------------------------------------------------------------------------------
-- The session's file: read into tables of zeros, and into its own

session_fresh : FreshIs session_tasks session_rows (step answer.Idle session)
unfolding start_of
session_fresh = record { plan = session_plan; planned = session_planned; starts = step-refl _ _ refl }

pub session_starts : FileStart session_file (step answer.Idle session)
unfolding records onward item_at marked task_row connection_row reading_of task_words connection_words read_of filled
session_starts = record {
  lent_tasks = replicate most_task_words 0;
  lent_rows = replicate most_row_words 0;
  left_tasks = sets (replicate most_task_words 0) 0 session_tasks;
  left_rows = sets (replicate most_row_words 0) 0 session_rows;
  t = 3;
  c = 3;
  read = record { told = refl; task_table = refl; row_table = refl };
  fresh = session_fresh;
  idle = refl;
}

pub session_tables_start : TablesStart session_file (step answer.Idle session)
unfolding records onward item_at marked task_row connection_row reading_of task_words connection_words read_of
session_tables_start = record {
  words = record { tasks = session_tasks; connections = session_rows };
  read = record { counts = (3, 3); read = refl; task_table = refl; row_table = refl };
  fresh = session_fresh;
  idle = refl;
}

-- ---------------------------------------------------------------------------------------------------------------------------
-- A tick that makes the copies at the first tick alone

abbrev only_at : Bool → State → Step
only_at true s = names_only s
only_at false s = tick_of s

pub only_held : (ticked : Bool) (s : State) → Held s → Held (only_at ticked s).state
only_held true s h =
    let z = tick_held s h in
    moved-held (tick_of s).state _ _ _ _ _ _ _ _ z z.tasks z.outputs z.dispatches h.buffers h.inputs z.cycle
only_held false s h = tick_held s h

only_copies : (ticked : Bool) (s : State) → ticked ≡ true → ((only_at ticked s).state.buffers ≡ s.buffers) × ((only_at ticked s).state.inputs ≡ s.inputs)
only_copies true s e = (refl, refl)
only_copies false s e = absurd (false_true e)

only_names : (ticked : Bool) (s : State) → ((only_at ticked s).answer ≡ (tick_of s).answer)
    × ((only_at ticked s).state ≡ with_words (tick_of s).state (only_at ticked s).state.buffers (only_at ticked s).state.inputs)
only_names true s = (refl, refl)
only_names false s = (refl, refl)

abbrev pub first_only : Ticker
first_only = record { run = λ s. only_at s.ticked s; gives = λ s. only_held s.ticked s }

pub first_only_copies : CopiesAtFirstOnly first_only
first_only_copies s h k = only_copies s.ticked s k

pub first_only_names : NamesTasks first_only
first_only_names s h = only_names s.ticked s

pub first_only_breaks_demand : ReadsAsNamed M10 (after_by first_only.run complete_of (start M10)) → ⊥
first_only_breaks_demand = copies_at_first_break_demand first_only ruled_complete ruled_complete_meets first_only_copies first_only_names

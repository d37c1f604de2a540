-- Demand 3 for every accepted fresh start: its state is the fresh one of an accepted plan, which is planned, and the theorems about runs
-- hold of every planned state. The runs of programs that meet their contracts are the same runs. An accepted file gives such a start.
use mathlib.Core.Path.{◌≡◌, refl, sym, ◌∙◌, ap}
use mathlib.Core.Bool.{false}
use mathlib.Core.List.{List}
use Prim.Native.Nat.{ℕ}
use native.Mathlib.Omega.{arith}
use lib.Dec.{eqb}
use Rattle.rules.specs.declared.State.{State}
use Rattle.rules.specs.declared.Step.{Step}
use Rattle.rules.specs.declared.Plan.{Plan}
use Rattle.std.specs.Prelude.{Result, Ok, Err}
use Rattle.rules.specs.declared.Refusal.{Refusal}
use Rattle.rules.specs.declared.Answer.TheVariants as answer
use Rattle.rules.specs.Sizes.{most_rows}
use Rattle.rules.specs.Tables.{rows, kind}
use Rattle.rules.specs.File.{contents_of, task_words, connection_words}
use Rattle.rules.specs.Views.{sender}
use Rattle.rules.specs.Plan.{Accepts, Judges}
use Rattle.rules.specs.Answers.{Told, answer_says, StepIs}
use Rattle.rules.specs.Fresh.{FreshIs, fresh_state, start_of}
use Rattle.rules.specs.Runs.{start, after_by, after}
use Rattle.rules.proofs.Counting.{column-at}
use Rattle.rules.proofs.Refusals.{lengths_of}
use Rattle.rules.proofs.Runs.Start.{period-is, deadline_is, sender-is, receiver-is, fresh_planned}
use Rattle.rules.proofs.Runs.Invariant.{Planned, start-laid}
use Rattle.rules.proofs.Runs.Reads.{order_kept, numbered, recorded, sampled}
use Rattle.rules.proofs.Runs.Words.{delivered_started}
use Rattle.rules.proofs.Runs.Twice.{two_runs}
use Rattle.rules.proofs.Runs.Always.{always_in_range, always_settled}
use Rattle.reader.proofs.ReadIs.{read_tables}
use Rattle.demands.specs.Demands.{AcceptedStart, FileStart, TablesStart, Tabled, Demand}
use Rattle.demands.specs.Programs.{Held, Ticker, MeetsTick, Completer, MeetsComplete}
use Rattle.demands.proofs.Named.{counted-named}
use Rattle.demands.proofs.Held.{fresh_held}
use Rattle.demands.proofs.Runs.{runs_as_ruled, demand_same}

-- the columns of a fresh state are those of the tables
module _ (tw cw : List ℕ) (p : Plan) (a : Accepts tw cw p) where
  fresh_tabled : Tabled tw cw (fresh_state tw cw p)
  unfolding fresh_state
  fresh_tabled = record {
    count = refl;
    rows = refl;
    periods = period-is tw cw p a;
    deadlines = deadline_is tw cw p a;
    senders = sender-is tw cw p a;
    receivers = receiver-is tw cw p a;
    kinds = λ c l. column-at (λ k. eqb (kind cw k) 1) (rows cw) false most_rows c l (lengths_of tw cw a.sound).rows_most;
    multiple = a.multiple_is;
  }

planned-demand : (s : State) → Planned s → Demand s (after (start s))
planned-demand s pl = record {
  order_kept = order_kept s pl;
  numbered = numbered s pl;
  recorded = recorded s pl;
  named = λ cs h i k x j c l e.
      let p = sampled s pl cs h i k x j c l e in
      let laid = start-laid s pl in
      counted-named s c _ (laid.paced (sender s c) (laid.sender_in c l)).period_pos _ (x c) p.0 p.1;
  sampled = sampled s pl;
  two_runs = two_runs s pl;
  in_range = λ cs _. always_in_range s pl cs;
  runner_started = λ cs _. always_settled s pl cs;
  delivered_started = λ cs _. delivered_started s pl cs;
}

-- the state of an accepted start, by the verdict
verdict_fresh : (tw cw : List ℕ) (p : Plan) (r : Step) (v : Result (Unit {0}) Refusal) → Judges tw cw v p → StepIs (start_of tw cw p v) r → v ≡ Ok tt →
    Accepts tw cw p × (r.state ≡ fresh_state tw cw p)
unfolding start_of
verdict_fresh tw cw p r (Ok x) j h e = (j, h.state)
verdict_fresh tw cw p r (Err f) j h e = absurd (let z : ◌≡◌ {A = ℕ} 0 1 = cc in omega arith)

module _ (tw cw : List ℕ) (r : Step) (s : AcceptedStart tw cw r) where
  abbrev p : Plan
  p = s.fresh.plan

  is_fresh : Accepts tw cw p × (r.state ≡ fresh_state tw cw p)
  is_fresh = verdict_fresh tw cw p r p.verdict s.fresh.planned s.fresh.starts s.accepted

  start-held : Held r.state
  start-held = rw is_fresh.1 (fresh_held tw cw p is_fresh.0)

  pub start-tabled : Tabled tw cw r.state
  start-tabled = rw is_fresh.1 (fresh_tabled tw cw p is_fresh.0)

  -- of the rules' runs
  pub demand : Demand r.state (after (start r.state))
  demand = planned-demand r.state (rw is_fresh.1 (fresh_planned tw cw p is_fresh.0))

  -- and so of the runs of any tick and completion that meet their contracts
  pub demand_by : (f : Ticker) (g : Completer) → MeetsTick f → MeetsComplete g → Demand r.state (after_by f.run g.run (start r.state))
  demand_by f g ticks completes =
      demand_same r.state (after (start r.state)) (after_by f.run g.run (start r.state))
      (λ cs h. sym (runs_as_ruled f g ticks completes cs (start r.state) start-held h)) demand

-- a fresh start that answers Idle is an accepted one
idle-verdict : (tw cw : List ℕ) (p : Plan) (r : Step) (v : Result (Unit {0}) Refusal) → StepIs (start_of tw cw p v) r → r.answer ≡ answer.Idle → v ≡ Ok tt
unfolding start_of
idle-verdict tw cw p r (Ok x) h e = refl
idle-verdict tw cw p r (Err f) h e =
    let z : ◌≡◌ {A = ℕ} 2 0 = ap (λ (t : Told). t.kind) (sym (ap answer_says e) ∙ h.answer) in
    absurd (omega arith)

pub idle-accepted : (tw cw : List ℕ) (r : Step) → FreshIs tw cw r → r.answer ≡ answer.Idle → AcceptedStart tw cw r
idle-accepted tw cw r f e = record { fresh = f; accepted = idle-verdict tw cw f.plan r f.plan.verdict f.starts e }

-- ---------------------------------------------------------------------------------------------------------------------------
-- From the file: the words that the reader leaves in front of the tables are the file's, and so are those of a file's own tables

module _ (file : List ℕ) (r : Step) where
  abbrev tw : List ℕ
  tw = task_words (contents_of file)

  abbrev cw : List ℕ
  cw = connection_words (contents_of file)

  abbrev Demanded : Type 0
  Demanded = (f : Ticker) (g : Completer) → MeetsTick f → MeetsComplete g → Tabled tw cw r.state × Demand r.state (after_by f.run g.run (start r.state))

  demanded : AcceptedStart tw cw r → Demanded
  demanded a f g ticks completes = (start-tabled tw cw r a, demand_by tw cw r a f g ticks completes)

  pub file_accepted : FileStart file r → AcceptedStart tw cw r
  file_accepted s =
      let a = read_tables s.read refl in
      idle-accepted tw cw r (rw (a.task_front, a.row_front) at s.fresh) s.idle

  pub file_demand : FileStart file r → Demanded
  file_demand s = demanded (file_accepted s)

  pub tables_accepted : TablesStart file r → AcceptedStart tw cw r
  tables_accepted s = idle-accepted tw cw r (rw (s.read.task_table, s.read.row_table) at s.fresh) s.idle

  pub tables_demand : TablesStart file r → Demanded
  tables_demand s = demanded (tables_accepted s)

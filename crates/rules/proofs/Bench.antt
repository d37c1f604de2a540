-- What a case of 01's "Numbers from the bench" says, and deciding it by computation. A case is two tables, the plan that the planner
-- must answer to them, and what runs of calls from the fresh start of that plan show.
use mathlib.Core.Path.{◌≡◌, ap}
use mathlib.Core.Bool.{Bool, true, false, cond, ◌&&◌}
use mathlib.Core.List.{List, [], ◌∷◌, ◌++◌}
use Prim.Native.Nat.{ℕ, suc, ◌-◌, ◌*◌, ◌<◌}
use lib.Dec.{eqb}
use lib.ListN.{length, replicate}
use Rattle.rules.specs.Sizes.{most_tasks}
use Rattle.rules.specs.Answers.{Told, number_of, place_of, answer_says}
use Rattle.rules.specs.Plan.{PlanIs}
use Rattle.rules.specs.Views.{period, sender, receiver, started, phase_of, input}
use Rattle.rules.specs.Steps.{falls}
use Rattle.rules.specs.Calls.{tick_of}
use Rattle.rules.specs.Fresh.{fresh_state}
use Rattle.rules.specs.Sampling.{said}
use Rattle.rules.specs.Runs.{Call, Call.tick, Moment, start, after, counted, JobAt}
use Rattle.rules.specs.declared.State.{State}
use Rattle.rules.specs.declared.Plan.{Plan}
use Rattle.rules.specs.declared.Answer.{Answer}
use Rattle.std.specs.Prelude.{Result, Ok, Err}
use Rattle.rules.specs.declared.Refusal.{Refusal}
use Rattle.rules.proofs.Answers.{refusal_of}
use Rattle.rules.proofs.Deciding.{Decision, restated, both, where_so, all, some, every, equal, lt, tested, Each}
use Rattle.rules.proofs.DecidingPlans.{plan_is}

-- ---------------------------------------------------------------------------------------------------------------------------
-- What a case says

-- at tick r, the latest, task i starts its job of number k and reads w on each row to it: the sampling rule counts n jobs of the
-- sender there, and w is what it said last in them
pub record Reads (s : State) (m : Moment) (r i k n w : ℕ) : Type 0 where
  pub latest : m.ticks ≡ suc r
  pub dispatched_then : k * period s i ≡ r
  pub some_row : (c : ℕ) × (c < s.rows) × (receiver s c ≡ i)
  pub job : JobAt s m i k (λ c. w)
  pub by_rule : (c : ℕ) → c < s.rows → receiver s c ≡ i → (counted s c r ≡ n) × (said (m.words (sender s c)) n ≡ w)

-- whether a deadline falls for task i at tick t, the next
pub record Falls (m : Moment) (t i : ℕ) (so : Bool) : Type 0 where
  pub upcoming : m.ticks ≡ t
  pub falling : falls m.state i ≡ so

pub data Fact : Type 0 where
  reads : (r i k n w : ℕ) → Fact
  falling : (t i : ℕ) → Bool → Fact
  -- the answer of the next tick
  answering : Answer → Fact

abbrev pub Shows : State → Moment → Fact → Type 0
Shows s m (reads r i k n w) = Reads s m r i k n w
Shows s m (falling t i so) = Falls m t i so
Shows s m (answering a) = answer_says (tick_of m.state).answer ≡ answer_says a

-- what shows after so many calls
pub record Run : Type 0 where
  pub calls : List Call
  pub fact : Fact

pub record Case : Type 0 where
  pub tasks : List ℕ
  pub connections : List ℕ
  pub plan : Plan
  pub runs : List Run

abbrev pub Ran : State → Run → Type 0
Ran s x = Shows s (after (start s) x.calls) x.fact

abbrev pub Holds : Case → Type 0
Holds m = PlanIs m.tasks m.connections m.plan × Each (Ran (fresh_state m.tasks m.connections m.plan)) m.runs

-- ---------------------------------------------------------------------------------------------------------------------------
-- Words for tables, plans and calls

-- "Values left out: period 10, deadline the period, compute 1, criticality 0, flag 0."
abbrev pub task : ℕ → ℕ → ℕ → ℕ → List ℕ
task period deadline criticality flag = period ∷ deadline ∷ 1 ∷ criticality ∷ flag ∷ []

abbrev pub plain : List ℕ
plain = task 10 10 0 0

abbrev pub periodic : ℕ → List ℕ
periodic period = task period period 0 0

abbrev pub undelayed : ℕ → ℕ → List ℕ
undelayed sender receiver = sender ∷ receiver ∷ 1 ∷ []

abbrev pub delayed : ℕ → ℕ → List ℕ
delayed sender receiver = sender ∷ receiver ∷ 0 ∷ []

-- "with zeros past the last task"
abbrev padded : List ℕ → List ℕ
padded xs = xs ++ replicate (most_tasks - length xs) 0

abbrev pub accepted : List ℕ → List ℕ → List ℕ → ℕ → Plan
accepted order deadlines criticalities multiple = record {
  verdict = Ok tt;
  order = padded order;
  deadlines = padded deadlines;
  criticalities = padded criticalities;
  multiple = multiple;
}

-- the verdict that tells this number and this place; a number or a place that no refusal of the list has is no refusal, and so no verdict of zeros
abbrev refused_by : ℕ → ℕ → Result (Unit {0}) Refusal
refused_by number place =
    let f = refusal_of number place in
    cond (eqb (number_of f) number && eqb (place_of f) place) (Err f) (Ok tt)

abbrev pub refused : ℕ → ℕ → Plan
refused number place = record {
  verdict = refused_by number place;
  order = padded [];
  deadlines = padded [];
  criticalities = padded [];
  multiple = 0;
}

abbrev pub ticks : ℕ → List Call
ticks n = replicate n tick

abbrev pub case : List ℕ → List ℕ → Plan → List Run → Case
case tasks connections plan runs = record { tasks = tasks; connections = connections; plan = plan; runs = runs }

abbrev pub after-calls : List Call → Fact → Run
after-calls cs f = record { calls = cs; fact = f }

-- ---------------------------------------------------------------------------------------------------------------------------
-- Deciding it

abbrev told_as : (t u : Told) → Decision (t ≡ u)
told_as t u =
    restated (λ w i. record { kind = w.0 i; number = w.1.0 i; value = w.1.1 i })
    (λ e. (ap (λ (x : Told). x.kind) e, (ap (λ (x : Told). x.number) e, ap (λ (x : Told). x.value) e)))
    (both (equal t.kind u.kind) (both (equal t.number u.number) (equal t.value u.value)))

abbrev job_at : (s : State) (m : Moment) (i k : ℕ) (x : ℕ → ℕ) → Decision (JobAt s m i k x)
job_at s m i k x =
    restated
    (λ w. record { live = w.0; in_table = w.1.0; begun = w.1.1.0; number = w.1.1.1.0; has_read = w.1.1.1.1 })
    (λ j. (j.live, (j.in_table, (j.begun, (j.number, j.has_read)))))
    (both (tested m.state.halted false)
    (both (lt i s.count)
    (both (tested (started (phase_of m.state i)) true)
    (both (equal (length (m.words i)) k)
    (all s.rows (λ c. where_so (equal (receiver s c) i) (equal (input m.state c) (x c))))))))

abbrev reads_is : (s : State) (m : Moment) (r i k n w : ℕ) → Decision (Reads s m r i k n w)
reads_is s m r i k n w =
    restated
    (λ x. record { latest = x.0; dispatched_then = x.1.0; some_row = x.1.1.0; job = x.1.1.1.0; by_rule = x.1.1.1.1 })
    (λ x. (x.latest, (x.dispatched_then, (x.some_row, (x.job, x.by_rule)))))
    (both (equal m.ticks (suc r))
    (both (equal (k * period s i) r)
    (both (some s.rows (λ c. equal (receiver s c) i))
    (both (job_at s m i k (λ c. w))
    (all s.rows (λ c. where_so (equal (receiver s c) i) (both (equal (counted s c r) n) (equal (said (m.words (sender s c)) n) w))))))))

abbrev falls_is : (m : Moment) (t i : ℕ) (so : Bool) → Decision (Falls m t i so)
falls_is m t i so =
    restated (λ x. record { upcoming = x.0; falling = x.1 }) (λ x. (x.upcoming, x.falling)) (both (equal m.ticks t) (tested (falls m.state i) so))

abbrev shows : (s : State) (m : Moment) (f : Fact) → Decision (Shows s m f)
shows s m (reads r i k n w) = reads_is s m r i k n w
shows s m (falling t i so) = falls_is m t i so
shows s m (answering a) = told_as (answer_says (tick_of m.state).answer) (answer_says a)

abbrev pub holds : (m : Case) → Decision (Holds m)
holds m =
    let s = fresh_state m.tasks m.connections m.plan in
    both (plan_is m.tasks m.connections m.plan) (every (λ x. shows s (after (start s) x.calls) x.fact) m.runs)

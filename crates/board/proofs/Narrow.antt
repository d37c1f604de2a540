-- No answer's parts run into each other in its number: refusals have numbers up to 16 and places up to 643, task numbers are below
-- 32, and a reading counts up to 32 tasks and 64 connections.
use mathlib.Core.Path.{◌≡◌, refl}
use mathlib.Core.Bool.{Bool, true, false, ◌||◌}
use mathlib.Core.List.{List}
use Prim.Native.Nat.{ℕ, zero, suc, ◌≤◌, ◌<◌}
use native.Mathlib.Omega.{arith}
use lib.ListN.{length, take, length-take}
use lib.Dec.{ltb}
use borrow.Author.Tests.{ltb-true}
use Rattle.rules.specs.Sizes.{most_tasks, most_rows, most_task_words, most_row_words}
use Rattle.std.specs.Prelude.{Result, Ok, Err}
use Rattle.rules.specs.Answers.{Told, told, number_of, place_of, reading_says, read_says, answer_says, verdict_says}
use Rattle.rules.specs.Views.{set_halted}
use Rattle.rules.specs.Steps.{step, missing, delivered, dispatched, some_runs, running, chosen, advanced, ticking, ended_at, completing}
use Rattle.rules.specs.Range.{in_range}
use Rattle.rules.specs.Calls.{judged, tick_of, complete_of}
use Rattle.rules.specs.Tables.{count, rows}
use Rattle.rules.specs.Plan.{Judges, PlanIs}
use Rattle.rules.specs.Fresh.{fresh_state, halted_zeros, start_of, FreshIs}
use Rattle.rules.specs.File.{Reading, read_of, reading_of, contents_of}
use Rattle.rules.specs.Refusals.{Refusal, little_room}
use Rattle.rules.specs.declared.Counts.{Counts}
use Rattle.rules.specs.declared.Refusal as code
use Rattle.rules.specs.declared.Refusal.TheVariants.{NothingRuns, Halted, OutOfRange}
use Rattle.rules.specs.declared.Plan.{Plan}
use Rattle.rules.specs.declared.State.{State}
use Rattle.rules.specs.declared.Step.{Step}
use Rattle.rules.specs.declared.Answer.{Answer}
use Rattle.rules.specs.declared.Answer.TheVariants as answer
use Rattle.rules.proofs.Tests.{cond_by}
use Rattle.rules.proofs.Steps.{SamePlan, chosen-answer, ended_at-plan}
use Rattle.rules.proofs.Kept.{NamesTasks, plan_count, names-plan, running-task, exchanged_kept}
use Rattle.rules.proofs.Refusals.{Lengths, lengths_under, lengths_of}
use Rattle.rules.proofs.Range.{Ranged, in_range-ranged}
use Rattle.rules.proofs.File.{contents_ends, contents_counts}
use Rattle.rules.proofs.FileFront.{decisive, contents_front}
use Rattle.reader.specs.Read.{asked, ReadIs}
use Rattle.board.specs.Codes.{coded, Narrow}
use Rattle.board.specs.StateWords.{Counted}

pub narrow : (k n v : ℕ) → k < 256 → n < 256 → v < 65536 → Narrow (told k n v)
narrow k n v a b c = record { kind_below = a; number_below = b; value_below = c }

told_is : (k n v l m w : ℕ) → k ≡ l → n ≡ m → v ≡ w → told k n v ≡ told l m w
told_is k n v l m w a b c = rw (a, b, c) refl

-- so the number tells the answer
pub coded-one : (a b : Told) → Narrow a → Narrow b → coded a ≡ coded b → a ≡ b
coded-one a b p q e =
    told_is a.kind a.number a.value b.kind b.number b.value
    (omega (arith, p.kind_below, q.kind_below))
    (omega (arith, p.kind_below, p.number_below, q.kind_below, q.number_below))
    (omega (arith, p.kind_below, p.number_below, q.kind_below, q.number_below))

-- the answer to a file depends on its first 643 bytes, and a refusal stands within them or at their end
contents_narrow : (file : List ℕ) (a : Reading) → reading_of 0 0 (contents_of file) ≡ a → Narrow (reading_says a)
contents_narrow file (Reading.Read t c) e =
    let w = contents_counts file t c e in
    narrow 5 t c (omega arith) (omega (arith, w.few_tasks)) (omega (arith, w.few_rows))
contents_narrow file (Reading.Refused n p) e =
    let w = contents_ends (take decisive file) n p (rw (contents_front decisive file (omega arith)) e) in
    narrow 0 n p (omega arith) (omega (arith, w.1)) (omega (arith, w.2, length-take decisive file))

asked-narrow : (file tasks connections : List ℕ) → Narrow (reading_says (asked file tasks connections))
unfolding read_of
asked-narrow file tasks connections =
    cond_by (λ (a : Reading). Narrow (reading_says a)) (ltb (length tasks) most_task_words || ltb (length connections) most_row_words)
    (Reading.Refused little_room 0) (reading_of 0 0 (contents_of file))
    (λ _. narrow 0 9 0 (omega arith) (omega arith) (omega arith))
    (λ _. contents_narrow file (reading_of 0 0 (contents_of file)) refl)

pub read_narrow : (file tasks connections : List ℕ) (r : Result Counts code.Refusal) (tasks' connections' : List ℕ) →
    ReadIs file tasks connections r tasks' connections' → Narrow (read_says r)
read_narrow file tasks connections r tasks' connections' w = rw w.told (asked-narrow file tasks connections)

-- a step's answer
abbrev pub StepNarrow : Step → Type 0
StepNarrow x = Narrow (answer_says x.answer)

refusal_narrow : (s : State) (f : code.Refusal) → number_of f < 256 → place_of f < 65536 → StepNarrow (step (answer.Refused f) s)
refusal_narrow s f a b = narrow 0 (number_of f) (place_of f) (omega arith) a b

-- the running task is one of at most 32
chosen-narrow : (s : State) → NamesTasks s → s.count ≤ most_tasks → StepNarrow (chosen s)
chosen-narrow s names few =
    rw (chosen-answer s)
    (cond_by (λ (a : Answer). Narrow (answer_says a)) (some_runs s) (answer.Running (running s)) answer.Idle
    (λ e. narrow 1 0 (running s) (omega arith) (omega arith) (omega (arith, running-task s names e)))
    (λ _. narrow 2 0 0 (omega arith) (omega arith) (omega arith)))

planned-narrow : (s z : State) → Ranged s → SamePlan s z → StepNarrow (chosen z)
planned-narrow s z r p = chosen-narrow z (names-plan s z p r.names_task) (omega (arith, plan_count s z p, r.sizes.few))

ticking-narrow : (s : State) → Ranged s → StepNarrow (ticking s)
unfolding ticking
ticking-narrow s r =
    cond_by StepNarrow (ltb (missing s) s.count) (step (answer.Missed (missing s)) (set_halted s true))
    (step (chosen (dispatched (delivered s))).answer (advanced (chosen (dispatched (delivered s))).state))
    (λ e. narrow 3 0 (missing s) (omega arith) (omega arith) (omega (arith, ltb-true (missing s) s.count e, r.sizes.few)))
    (λ _. planned-narrow s (dispatched (delivered s)) r (exchanged_kept s).plan)

completing-narrow : (s : State) (w : ℕ) → Ranged s → StepNarrow (completing s w)
unfolding completing
completing-narrow s w r =
    cond_by StepNarrow (some_runs s) (chosen (ended_at s (running s) w)) (step (answer.Refused NothingRuns) s)
    (λ _. planned-narrow s (ended_at s (running s) w) r (ended_at-plan s (running s) w))
    (λ _. refusal_narrow s NothingRuns (omega arith) (omega arith))

judged-narrow : (ranged halted : Bool) (s : State) (x : Step) → (ranged ≡ true → StepNarrow x) → StepNarrow (judged ranged halted s x)
unfolding judged
judged-narrow true true s x go = refusal_narrow s Halted (omega arith) (omega arith)
judged-narrow true false s x go = go refl
judged-narrow false halted s x go = refusal_narrow s OutOfRange (omega arith) (omega arith)

pub tick_narrow : (s : State) → StepNarrow (tick_of s)
tick_narrow s = judged-narrow (in_range s) s.halted s (ticking s) (λ e. ticking-narrow s (in_range-ranged s e))

pub complete_narrow : (s : State) (w : ℕ) → StepNarrow (complete_of s w)
complete_narrow s w = judged-narrow (in_range s) s.halted s (completing s w) (λ e. completing-narrow s w (in_range-ranged s e))

-- a refusal of the tables is one of eight, and stands at a task or a row of tables that are not too long, or at 0
module _ (tw cw : List ℕ) where
  short : (k p : ℕ) → 3 ≤ k → Refusal tw cw k p → Lengths tw cw
  short k p h w = lengths_under tw cw (λ l q b. w.lowest l q (omega arith))

  at-task : (k p : ℕ) → 3 ≤ k → Refusal tw cw k p → p < count tw → p < most_rows
  at-task k p h w b = omega (arith, (short k p h w).tasks_most)

  at_row : (k p : ℕ) → 3 ≤ k → Refusal tw cw k p → p < rows cw → p < most_rows
  at_row k p h w b = omega (arith, (short k p h w).rows_most)

  place_low : (k p : ℕ) → Refusal tw cw k p → (k < 9) × (p < most_rows)
  place_low zero p w = absurd w.stands
  place_low (suc zero) p w = (omega arith, omega (arith, w.stands.0))
  place_low (suc (suc zero)) p w = (omega arith, omega (arith, w.stands.0))
  place_low (suc (suc (suc zero))) p w = (omega arith, at-task 3 p (omega arith) w w.stands.0)
  place_low (suc (suc (suc (suc zero)))) p w = (omega arith, at_row 4 p (omega arith) w w.stands.0)
  place_low (suc (suc (suc (suc (suc zero))))) p w = (omega arith, at_row 5 p (omega arith) w w.stands.0)
  place_low (suc (suc (suc (suc (suc (suc zero)))))) p w = (omega arith, at-task 6 p (omega arith) w w.stands.0)
  place_low (suc (suc (suc (suc (suc (suc (suc zero))))))) p w = (omega arith, at_row 7 p (omega arith) w w.stands.0)
  place_low (suc (suc (suc (suc (suc (suc (suc (suc zero)))))))) p w = (omega arith, omega (arith, w.stands.0))
  place_low (suc (suc (suc (suc (suc (suc (suc (suc (suc k))))))))) p w = absurd w.stands

  refusal_of_tables : (k p : ℕ) → Refusal tw cw k p → Narrow (told 0 k p)
  refusal_of_tables k p w = let b = place_low k p w in narrow 0 k p (omega arith) (omega (arith, b.0)) (omega (arith, b.1))

  judges_narrow : (v : Result (Unit {0}) code.Refusal) (r : Plan) → Judges tw cw v r → Narrow (verdict_says v)
  judges_narrow (Ok _) r w = narrow 4 0 0 (omega arith) (omega arith) (omega arith)
  judges_narrow (Err f) r w = refusal_of_tables (number_of f) (place_of f) w.because

  pub plan_narrow : (r : Plan) → PlanIs tw cw r → Narrow (verdict_says r.verdict)
  plan_narrow r w = judges_narrow r.verdict r w

  -- a fresh start follows its plan
  start-narrow : (v : Result (Unit {0}) code.Refusal) (r : Plan) → Judges tw cw v r → StepNarrow (start_of tw cw r v)
  unfolding start_of
  start-narrow (Ok _) r w = narrow 2 0 0 (omega arith) (omega arith) (omega arith)
  start-narrow (Err f) r w = refusal_of_tables (number_of f) (place_of f) w.because

  pub fresh_narrow : (r : Step) → FreshIs tw cw r → StepNarrow r
  fresh_narrow r w = rw w.starts.answer (start-narrow w.plan.verdict w.plan w.planned)

  -- and its counts are words
  start-counted : (v : Result (Unit {0}) code.Refusal) (r : Plan) → Judges tw cw v r → Counted (start_of tw cw r v).state
  unfolding start_of fresh_state halted_zeros
  start-counted (Ok _) r w =
      let l = lengths_of tw cw w.sound in
      record { count_fits = omega (arith, l.tasks_most); rows_fit = omega (arith, l.rows_most) }
  start-counted (Err f) r w = record { count_fits = omega arith; rows_fit = omega arith }

  pub fresh_counted : (r : Step) → FreshIs tw cw r → Counted r.state
  fresh_counted r w = rw w.starts.state (start-counted w.plan.verdict w.plan w.planned)

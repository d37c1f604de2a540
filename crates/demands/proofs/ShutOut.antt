-- No function of a kind that 01 names as wrong meets the statement: each statement admits one answer only, and a case of the bench or
-- the session, which a program can be given, has an answer that a function of that kind does not give.
use mathlib.Core.Path.{◌≡◌, refl, sym, ◌∙◌, ap}
use mathlib.Core.Bool.{true}
use mathlib.Core.List.{List, [], ◌∷◌, ◌++◌}
use Prim.Native.Nat.{ℕ, ◌*◌, ◌^◌}
use native.Mathlib.Omega.{arith}
use lib.ListN.{length, get_or, replicate}
use Rattle.rules.specs.declared.Plan.{Plan}
use Rattle.std.specs.Prelude.{Result, Ok, Err}
use Rattle.rules.specs.declared.Refusal.{Refusal}
use Rattle.rules.specs.declared.State.{State}
use Rattle.rules.specs.declared.Answer.{Answer}
use Rattle.rules.specs.declared.Answer.TheVariants as answer
use Rattle.rules.specs.Sizes.{most_task_words, most_row_words}
use Rattle.rules.specs.File.{Reading, records, onward, item_at, marked, reading_of, read_of}
use Rattle.rules.specs.Views.{buffer, output}
use Rattle.rules.specs.Range.{in_range}
use Rattle.rules.specs.Steps.{delivered, dispatched, started_at, chosen, advanced, ticking, ended_at, completing}
use Rattle.rules.specs.Calls.{judged, tick_of, complete_of}
use Rattle.rules.specs.Fresh.{fresh_state}
use Rattle.rules.specs.Answers.{Told, told, answer_says, reading_says, read_says}
use Rattle.rules.specs.Runs.{Call, Call.tick, Call.complete, start, after}
use Rattle.rules.proofs.Plans.{plan_one}
use Rattle.rules.proofs.Deciding.{Decision, both, all, lt, first, others}
use Rattle.rules.proofs.Bench.{task, plain, periodic, undelayed, delayed, accepted, ticks}
use Rattle.rules.proofs.Cases.{all_cases}
use Rattle.rules.proofs.Answers.{answer_says-injective}
use Rattle.rules.proofs.Session.{session, session_tasks, session_rows, session_plan, session_planned}
use Rattle.demands.specs.Programs.{Bits, Slice, LentTables, Held, Planner, MeetsPlan, Reader, MeetsRead, Ticker, MeetsTick, Completer, MeetsComplete}
use Rattle.demands.specs.ShutOut.{RefusesAllTables, FixesOrder, RefusesAllFiles, NamesNone, Leaves, CopiesAtFirstOnly}
use Rattle.demands.proofs.Held.{fresh_held, tick_held, after-held}

-- whether a program can be lent a list of words of b bits is decided by computation
abbrev slice_of : (b : ℕ) (ws : List ℕ) → Decision (Slice b ws)
slice_of b ws = both (lt (length ws * b) (2 ^ 66)) (all (length ws) (λ k. lt (get_or ws k 0) (2 ^ b)))

-- ---------------------------------------------------------------------------------------------------------------------------
-- The planner: M2 and M5 have two tasks each, and are accepted with the orders 0, 1 and 1, 0

abbrev tasks_m2 : List ℕ
tasks_m2 = periodic 4 ++ periodic 6

abbrev plan_m2 : Plan
plan_m2 = accepted (0 ∷ 1 ∷ []) (256 ∷ 384 ∷ []) (0 ∷ 0 ∷ []) 12

abbrev tasks_m5 : List ℕ
tasks_m5 = plain ++ plain

abbrev plan_m5 : Plan
plan_m5 = accepted (1 ∷ 0 ∷ []) (640 ∷ 639 ∷ []) (0 ∷ 0 ∷ []) 10

lent_m2 : LentTables tasks_m2 (delayed 0 1)
lent_m2 = ((slice_of 16 tasks_m2).if_true refl, (slice_of 16 (delayed 0 1)).if_true refl)

lent_m5 : LentTables tasks_m5 (undelayed 1 0)
lent_m5 = ((slice_of 16 tasks_m5).if_true refl, (slice_of 16 (undelayed 1 0)).if_true refl)

module _ (f : Planner) (meets : MeetsPlan f) where
  plans_M2 : f tasks_m2 (delayed 0 1) ≡ plan_m2
  plans_M2 = plan_one tasks_m2 (delayed 0 1) _ _ (meets tasks_m2 (delayed 0 1) lent_m2) (first (others all_cases)).0

  plans_M5 : f tasks_m5 (undelayed 1 0) ≡ plan_m5
  plans_M5 =
      plan_one tasks_m5 (undelayed 1 0) _ _ (meets tasks_m5 (undelayed 1 0) lent_m5)
      (first (others (others (others (others all_cases))))).0

  pub no_planner_refuses_all : RefusesAllTables f → ⊥
  no_planner_refuses_all refuses =
      let r = refuses tasks_m2 (delayed 0 1) lent_m2 in
      let v : ◌≡◌ {A = Result (Unit {0}) Refusal} (Ok tt) (Err r.0) = ap (λ (p : Plan). p.verdict) (sym plans_M2) ∙ r.1 in
      let z : ◌≡◌ {A = ℕ} 0 1 = cc in
      omega arith

  pub no_planner_fixes_order : FixesOrder f → ⊥
  no_planner_fixes_order (order, fixes) =
      let a : plan_m2.order ≡ plan_m5.order =
      ap (λ (p : Plan). p.order) (sym plans_M2)
      ∙ fixes tasks_m2 (delayed 0 1) lent_m2 (ap (λ (p : Plan). p.verdict) plans_M2)
      ∙ sym (fixes tasks_m5 (undelayed 1 0) lent_m5 (ap (λ (p : Plan). p.verdict) plans_M5))
      ∙ ap (λ (p : Plan). p.order) plans_M5 in
      let z : ◌≡◌ {A = ℕ} 0 1 = ap (λ (l : List ℕ). get_or l 0 0) a in
      omega arith

-- ---------------------------------------------------------------------------------------------------------------------------
-- The reader: "EN alone reads 0 tasks"

abbrev end_alone : List ℕ
end_alone = 0x45 ∷ 0x4E ∷ []

end_alone_read : read_of end_alone most_task_words most_row_words ≡ Reading.Read 0 0
unfolding read_of reading_of records onward item_at marked
end_alone_read = refl

pub no_reader_refuses_all : (f : Reader) → MeetsRead f → RefusesAllFiles f → ⊥
no_reader_refuses_all f meets refuses =
    let ts : List ℕ = replicate most_task_words 0 in
    let cs : List ℕ = replicate most_row_words 0 in
    let lent : Slice 8 end_alone = (slice_of 8 end_alone).if_true refl in
    let tables : LentTables ts cs = ((slice_of 16 (replicate most_task_words 0)).if_true refl, (slice_of 16 (replicate most_row_words 0)).if_true refl) in
    let r = refuses end_alone ts cs lent tables in
    let e = (meets end_alone ts cs lent tables).told ∙ ap reading_says end_alone_read in
    let z : ◌≡◌ {A = ℕ} 0 5 = ap (λ (t : Told). t.kind) (sym (ap read_says r.1) ∙ e) in
    omega arith

-- ---------------------------------------------------------------------------------------------------------------------------
-- The executive: the session's first tick runs task 0, and its completion runs task 1; both change the state

names-one : (a : Answer) (i : ℕ) → NamesNone a → answer_says a ≡ told 1 0 i → ⊥
names-one a i n e = n i (answer_says-injective a (answer.Running i) e)

session_held : Held session
session_held = fresh_held session_tasks session_rows session_plan session_planned

first_tick : answer_says (tick_of session).answer ≡ told 1 0 0
unfolding fresh_state in_range judged delivered dispatched started_at chosen advanced ticking
first_tick = refl

abbrev ticked : State
ticked = (tick_of session).state

first_completion : answer_says (complete_of ticked 11).answer ≡ told 1 0 1
unfolding fresh_state in_range judged delivered dispatched started_at chosen advanced ticking ended_at completing
first_completion = refl

ticked_held : Held ticked
ticked_held = tick_held session session_held

pub no_tick_names_none : (f : Ticker) → MeetsTick f → ((s : State) → Held s → NamesNone (f.run s).answer) → ⊥
no_tick_names_none f meets none =
    names-one (f.run session).answer 0 (none session session_held) ((meets session session_held).answer ∙ first_tick)

pub no_completion_names_none : (f : Completer) → MeetsComplete f → ((s : State) (w : ℕ) → Held s → Bits 32 w → NamesNone (f.run s w).answer) → ⊥
no_completion_names_none f meets none =
    names-one (f.run ticked 11).answer 1 (none ticked 11 ticked_held (omega arith)) ((meets ticked 11 ticked_held (omega arith)).answer ∙ first_completion)

tick_moves : (tick_of session).state.cycle ≡ 1
unfolding fresh_state in_range judged delivered dispatched started_at chosen advanced ticking
tick_moves = refl

start-stands : session.cycle ≡ 0
unfolding fresh_state
start-stands = refl

pub no_tick_leaves_state : (f : Ticker) → MeetsTick f → ((s : State) → Held s → Leaves s (f.run s)) → ⊥
no_tick_leaves_state f meets leaves =
    let e : (tick_of session).state ≡ session = sym (meets session session_held).state ∙ leaves session session_held in
    let z : ◌≡◌ {A = ℕ} 1 0 = sym tick_moves ∙ ap (λ (s : State). s.cycle) e ∙ start-stands in
    omega arith

completion_moves : output (complete_of ticked 11).state 0 ≡ 11
unfolding fresh_state in_range judged delivered dispatched started_at chosen advanced ticking ended_at completing
completion_moves = refl

ticked_stands : output ticked 0 ≡ 0
unfolding fresh_state in_range judged delivered dispatched started_at chosen advanced ticking
ticked_stands = refl

pub no_completion_leaves_state : (f : Completer) → MeetsComplete f → ((s : State) (w : ℕ) → Held s → Bits 32 w → Leaves s (f.run s w)) → ⊥
no_completion_leaves_state f meets leaves =
    let e : (complete_of ticked 11).state ≡ ticked =
    sym (meets ticked 11 ticked_held (omega arith)).state ∙ leaves ticked 11 ticked_held (omega arith) in
    let z : ◌≡◌ {A = ℕ} 11 0 = sym completion_moves ∙ ap (λ (s : State). output s 0) e ∙ ticked_stands in
    omega arith

-- ---------------------------------------------------------------------------------------------------------------------------
-- The copies of M10: tick 5 brings the sender's first word, 7, to the buffer, long after the first tick

abbrev tasks_m10 : List ℕ
tasks_m10 = task 10 5 0 0 ++ periodic 5

abbrev plan_m10 : Plan
plan_m10 = accepted (0 ∷ 1 ∷ []) (320 ∷ 320 ∷ []) (0 ∷ 0 ∷ []) 10

abbrev pub M10 : State
M10 = fresh_state tasks_m10 (delayed 0 1) plan_m10

pub M10-held : Held M10
M10-held =
    fresh_held tasks_m10 (delayed 0 1) plan_m10
    (first (others (others (others (others (others (others (others (others (others all_cases)))))))))).0

abbrev to_five : List Call
to_five = tick ∷ complete 7 ∷ complete 8 ∷ ticks 4

abbrev before_five : State
before_five = (after (start M10) to_five).state

was_ticked : before_five.ticked ≡ true
unfolding fresh_state in_range judged delivered dispatched started_at chosen advanced ticking ended_at completing
was_ticked = refl

buffer-before : buffer before_five 0 ≡ 0
unfolding fresh_state in_range judged delivered dispatched started_at chosen advanced ticking ended_at completing
buffer-before = refl

buffer-after : buffer (tick_of before_five).state 0 ≡ 7
unfolding fresh_state in_range judged delivered dispatched started_at chosen advanced ticking ended_at completing
buffer-after = refl

five_held : Held before_five
five_held = after-held to_five (start M10) M10-held (omega arith, (omega arith, tt))

pub no_copies_at_first_only : (f : Ticker) → MeetsTick f → CopiesAtFirstOnly f → ⊥
no_copies_at_first_only f meets copies =
    let e : (tick_of before_five).state.buffers ≡ before_five.buffers =
    ap (λ (s : State). s.buffers) (sym (meets before_five five_held).state) ∙ (copies before_five five_held was_ticked).0 in
    let z : ◌≡◌ {A = ℕ} 7 0 = sym buffer-after ∙ ap (λ (l : List ℕ). get_or l 0 0) e ∙ buffer-before in
    omega arith

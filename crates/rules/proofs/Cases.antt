-- 01, "Numbers from the bench": the cases M1 to M12, one list with one proof, about the rules themselves. Each case is decided by
-- computation, so the whole list is proved by computing how many hold.
use mathlib.Core.Path.{◌≡◌, refl}
use mathlib.Core.Bool.{Bool, true, false, cond}
use mathlib.Core.List.{List, [], ◌∷◌, ◌++◌}
use Prim.Native.Nat.{ℕ, suc}
use native.Mathlib.Omega.{arith}
use lib.ListN.{length}
use Rattle.rules.specs.Range.{in_range}
use Rattle.rules.specs.Steps.{delivered, dispatched, started_at, chosen, advanced, ticking, ended_at, completing}
use Rattle.rules.specs.Calls.{judged}
use Rattle.rules.specs.Fresh.{fresh_state}
use Rattle.rules.specs.Sampling.{up_to}
use Rattle.rules.specs.Runs.{Call.tick, Call.complete}
use Rattle.rules.specs.declared.Answer.TheVariants as answer
use Rattle.rules.proofs.Deciding.{Each, Each.done, Each.◌and◌}
use Rattle.rules.proofs.Bench.{Case, Holds, holds, Fact.reads, Fact.falling, Fact.answering, task, plain, periodic, undelayed, delayed, accepted, refused, ticks, case, after-calls}

-- ---------------------------------------------------------------------------------------------------------------------------
-- The list

-- the values of `reads`: the tick, the reader, its job's number, how many jobs of the sender count, and the word; of `falling`: the
-- tick, the task, and whether its deadline falls there
abbrev pub cases : List Case
cases =
    -- M1. "Periods 4 and 6, undelayed: refused 5."
    case (periodic 4 ++ periodic 6) (undelayed 0 1) (refused 5 0) []
    -- M2. "Same, delayed: accepted."
    ∷ case (periodic 4 ++ periodic 6) (delayed 0 1) (accepted (0 ∷ 1 ∷ []) (256 ∷ 384 ∷ []) (0 ∷ 0 ∷ []) 12) []
    -- M3. "Undelayed from a task to itself: refused 6."
    ∷ case plain (undelayed 0 0) (refused 6 0) []
    -- M4. "Delayed to itself: accepted."
    ∷ case plain (delayed 0 0) (accepted (0 ∷ []) (640 ∷ []) (0 ∷ []) 10) []
    -- M5. "Tasks 0 and 1, deadlines 10, undelayed 1 to 0: internal 640 and 639, order 1, 0."
    ∷ case (plain ++ plain) (undelayed 1 0) (accepted (1 ∷ 0 ∷ []) (640 ∷ 639 ∷ []) (0 ∷ 0 ∷ []) 10) []
    -- M6. "Undelayed sender criticality 3, receiver 1, flag 0: refused 7."
    ∷ case (task 10 10 3 0 ++ task 10 10 1 0) (undelayed 0 1) (refused 7 0) []
    -- M7. "Flag 1: accepted, both internal criticalities 1."
    ∷ case (task 10 10 3 1 ++ task 10 10 1 0) (undelayed 0 1) (accepted (0 ∷ 1 ∷ []) (639 ∷ 640 ∷ []) (1 ∷ 1 ∷ []) 10) []
    -- M8. "Periods 5,040 and 143: common multiple 720,720, accepted."
    ∷ case (periodic 5040 ++ periodic 143) [] (accepted (1 ∷ 0 ∷ []) (322560 ∷ 9152 ∷ []) (0 ∷ 0 ∷ []) 720720) []
    -- M9. "1,000 and 721: refused 8."
    ∷ case (periodic 1000 ++ periodic 721) [] (refused 8 0) []
    -- M10. "Delayed, sender period 10 deadline 5, receiver period 5: at tick 5 the receiver reads the sender's first job."
    ∷ case (task 10 5 0 0 ++ periodic 5) (delayed 0 1) (accepted (0 ∷ 1 ∷ []) (320 ∷ 320 ∷ []) (0 ∷ 0 ∷ []) 10)
    (after-calls (tick ∷ complete 7 ∷ complete 8 ∷ ticks 5) (reads 5 1 1 1 7) ∷ [])
    -- M11. "Sender's deadline 6: at 5 it reads 0, at 10 the first job."
    ∷ case (task 10 6 0 0 ++ periodic 5) (delayed 0 1) (accepted (1 ∷ 0 ∷ []) (384 ∷ 320 ∷ []) (0 ∷ 0 ∷ []) 10)
    (after-calls (tick ∷ complete 8 ∷ complete 7 ∷ ticks 5) (reads 5 1 1 0 0)
    ∷ after-calls (tick ∷ complete 8 ∷ complete 7 ∷ ticks 5 ++ complete 9 ∷ ticks 5) (reads 10 1 2 1 7) ∷ [])
    -- M12. "Deadline 10 and period 10: no deadline falls at the first tick; one does at tick 10": a job that is finished then is not
    -- missed, one that is not is
    ∷ case plain [] (accepted (0 ∷ []) (640 ∷ []) (0 ∷ []) 10)
    (after-calls [] (falling 0 0 false) ∷ after-calls [] (answering (answer.Running 0))
    ∷ after-calls (tick ∷ complete 7 ∷ ticks 9) (falling 10 0 true)
    ∷ after-calls (tick ∷ complete 7 ∷ ticks 9) (answering (answer.Running 0))
    ∷ after-calls (ticks 10) (falling 10 0 true) ∷ after-calls (ticks 10) (answering (answer.Missed 0)) ∷ [])
    ∷ []

-- ---------------------------------------------------------------------------------------------------------------------------
-- The proof

-- how many cases hold before the first that does not
abbrev holding : List Case → ℕ
holding [] = 0
holding (m ∷ ms) = cond (holds m).test (suc (holding ms)) 0

one_more : (passed : Bool) (h n : ℕ) → cond passed (suc h) 0 ≡ suc n → (passed ≡ true) × (h ≡ n)
one_more true h n e = (refl, omega arith)
one_more false h n e = absurd (omega arith)

all_holding : (ms : List Case) → holding ms ≡ length ms → Each Holds ms
all_holding [] e = done
all_holding (m ∷ ms) e = let w = one_more (holds m).test (holding ms) (length ms) e in (holds m).if_true w.0 and all_holding ms w.1

pub all_cases : Each Holds cases
unfolding fresh_state in_range judged delivered dispatched started_at chosen advanced ticking ended_at completing up_to
all_cases = all_holding cases refl

-- Runs of the executive, and what demand 3 says of them: the order is kept, the sampling rule, and two runs of one plan.
use Rattle.std.specs.Prelude.{◌≡◌, Bool, true, false, cond, List, [], ◌∷◌, ◌++◌, ℕ, suc, ◌+◌, ◌*◌, ◌%◌, ◌^◌, ◌≤◌, ◌<◌, get_or, length, take, eqb}
use Rattle.rules.specs.Views.{idle, started, period, deadline, sender, receiver, undelayed, phase_of, dispatch, input}
use Rattle.rules.specs.Steps.{some_runs, running}
use Rattle.rules.specs.Calls.{tick_of, complete_of}
use Rattle.rules.specs.Sampling.{up_to, said}
use Rattle.rules.specs.declared.State.{State}
use Rattle.rules.specs.declared.Step.{Step}
use Rattle.rules.specs.declared.Answer.{Answer}
use Rattle.rules.specs.declared.Answer.TheVariants as answer

-- "Take any calls": a tick, or a completion with a word
pub data Call : Type 0 where
  tick : Call
  complete : ℕ → Call

-- "messages of one 32-bit word": calls that can be made
abbrev pub Sent : List Call → Type 0
Sent [] = Unit {0}
Sent (tick ∷ cs) = Sent cs
Sent (complete w ∷ cs) = (w < 2 ^ 32) × Sent cs

-- a moment of a run: the state, the ticks so far ("counted from the start, without end"), and the words that each task has delivered
-- in job order, so that its next word is that of the job whose number is the count of its words
pub record Moment : Type 0 where
  pub state : State
  pub ticks : ℕ
  pub words : ℕ → List ℕ

abbrev pub start : State → Moment
start s = record { state = s; ticks = 0; words = λ _. [] }

abbrev pub refused : Answer → Bool
refused (answer.Running i) = false
refused answer.Idle = false
refused (answer.Missed i) = false
refused (answer.Refused f) = true

-- task i says w
abbrev pub spoken : (ℕ → List ℕ) → ℕ → ℕ → ℕ → List ℕ
spoken words i w j = cond (eqb j i) (words j ++ (w ∷ [])) (words j)

-- a refused call is no tick and delivers no word
abbrev pub after_tick : Moment → Step → Moment
after_tick m r = record { state = r.state; ticks = cond (refused r.answer) m.ticks (suc m.ticks); words = m.words }

abbrev pub after_word : Moment → ℕ → Step → Moment
after_word m w r = record {
  state = r.state;
  ticks = m.ticks;
  words = cond (refused r.answer) m.words (spoken m.words (running m.state) w);
}

-- "each on the state the last one gave, refused ones among them": by any tick and any completion
abbrev pub next_by : (State → Step) → (State → ℕ → Step) → Moment → Call → Moment
next_by f g m tick = after_tick m (f m.state)
next_by f g m (complete w) = after_word m w (g m.state w)

abbrev pub after_by : (State → Step) → (State → ℕ → Step) → Moment → List Call → Moment
after_by f g m [] = m
after_by f g m (c ∷ cs) = after_by f g (next_by f g m c) cs

-- by those of the rules
abbrev pub next : Moment → Call → Moment
next = next_by tick_of complete_of

abbrev pub after : Moment → List Call → Moment
after = after_by tick_of complete_of

-- the runs from a start: the moment behind any calls
abbrev pub Run : Type 0
Run = List Call → Moment

-- task i runs
abbrev pub Runs : State → ℕ → Type 0
Runs s i = (some_runs s ≡ true) × (running s ≡ i)

-- "reads: on a delayed connection, the output of the sender's last job whose dispatch plus deadline is at most r; .. on an undelayed
-- connection, the output of the sender's last job dispatched at or before r": how many of its sender's jobs row c counts
abbrev pub counted : State → ℕ → ℕ → ℕ
counted s c r = up_to (period s (sender s c)) (cond (undelayed s c) 0 (deadline s (sender s c))) r

-- at this moment, before any miss, task i has started its job of number k and has read x, by row
pub record JobAt (s : State) (m : Moment) (i k : ℕ) (x : ℕ → ℕ) : Type 0 where
  pub live : m.state.halted ≡ false
  pub in_table : i < s.count
  pub begun : started (phase_of m.state i) ≡ true
  pub number : length (m.words i) ≡ k
  pub has_read : (c : ℕ) → c < s.rows → receiver s c ≡ i → input m.state c ≡ x c

-- in a run of the calls, behind the first n of them, task i has started its job of number k and has read x
abbrev pub Job : State → Run → List Call → ℕ → ℕ → (ℕ → ℕ) → Type 0
Job s run cs i k x = (n : ℕ) × JobAt s (run (take n cs)) i k x

-- "While a task runs, no task that sends to it undelayed has an unfinished job."
abbrev pub OrderKept : State → Run → Type 0
OrderKept s run = (cs : List Call) → Sent cs → (run cs).state.halted ≡ false → (c : ℕ) → c < s.rows → undelayed s c ≡ true →
    Runs (run cs).state (receiver s c) → idle (phase_of (run cs).state (sender s c)) ≡ true

-- the job of number k is the one dispatched at tick k periods, the task's latest dispatch
abbrev pub Numbered : State → Run → Type 0
Numbered s run = (cs : List Call) → Sent cs → (i k : ℕ) (x : ℕ → ℕ) → JobAt s (run cs) i k x →
    (k * period s i < (run cs).ticks) × ((run cs).ticks ≤ k * period s i + period s i)

-- and its recorded dispatch cycle is that tick's: k periods by the common multiple
abbrev pub Recorded : State → Run → Type 0
Recorded s run = (cs : List Call) → Sent cs → (i k : ℕ) (x : ℕ → ℕ) → JobAt s (run cs) i k x →
    dispatch (run cs).state i ≡ (k * period s i) % s.multiple

-- "Each word a started job has read is the one that 01's sampling rule names from dispatch ticks and deadlines, with execution times
-- nowhere in the rule": the sender's job that is counted last has delivered, and its word was read
abbrev pub Sampled : State → Run → Type 0
Sampled s run = (cs : List Call) → Sent cs → (i k : ℕ) (x : ℕ → ℕ) → JobAt s (run cs) i k x → (c : ℕ) → c < s.rows → receiver s c ≡ i →
    (counted s c (k * period s i) ≤ length ((run cs).words (sender s c)))
    × (x c ≡ said ((run cs).words (sender s c)) (counted s c (k * period s i)))

-- the same words on each row to task i
abbrev pub Alike : State → ℕ → (ℕ → ℕ) → (ℕ → ℕ) → Type 0
Alike s i x y = (c : ℕ) → c < s.rows → receiver s c ≡ i → x c ≡ y c

-- "jobs of the same task and number that read equal words deliver equal words"
abbrev pub Consistent : State → Run → List Call → List Call → Type 0
Consistent s run ca cb = (i k : ℕ) (x y : ℕ → ℕ) → Job s run ca i k x → Job s run cb i k y → Alike s i x y →
    k < length ((run ca).words i) → k < length ((run cb).words i) → get_or ((run ca).words i) k 0 ≡ get_or ((run cb).words i) k 0

-- "every job started in both reads the same words in both, however long anything took"
abbrev pub TwoRuns : State → Run → Type 0
TwoRuns s run = (ca cb : List Call) → Sent ca → Sent cb → Consistent s run ca cb →
    (i k : ℕ) (x y : ℕ → ℕ) → Job s run ca i k x → Job s run cb i k y → Alike s i x y

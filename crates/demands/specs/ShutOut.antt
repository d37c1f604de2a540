-- 01, "What the proofs have to settle": "These must be shut out". Each kind of wrong program is a property of a program, at what a program
-- can be given; what a program's contract promises is `Meets..` of Programs.
use Rattle.std.specs.Prelude.{◌≡◌, true, List, ℕ}
use Rattle.std.specs.Prelude.{Ok, Err}
use Rattle.rules.specs.declared.Refusal.{Refusal}
use Rattle.rules.specs.declared.State.{State}
use Rattle.rules.specs.declared.Step.{Step}
use Rattle.rules.specs.declared.Answer.{Answer}
use Rattle.rules.specs.declared.Answer.TheVariants as answer
use Rattle.rules.specs.Tables.{count}
use Rattle.rules.specs.Views.{set_buffers, set_inputs}
use Rattle.rules.specs.Calls.{tick_of}
use Rattle.demands.specs.Programs.{Slice, LentTables, Held, Planner, Reader, Ticker}

-- "a planner .. that refuses all"
abbrev pub RefusesAllTables : Planner → Type 0
RefusesAllTables f = (tw cw : List ℕ) → LentTables tw cw → (refusal : Refusal) × ((f tw cw).verdict ≡ Err refusal)

-- "or one fixed order for every table": for every table of so many tasks, as table position is
abbrev pub FixesOrder : Planner → Type 0
FixesOrder f = (order : ℕ → List ℕ) × ((tw cw : List ℕ) → LentTables tw cw → (f tw cw).verdict ≡ Ok tt → (f tw cw).order ≡ order (count tw))

-- "a .. reader that refuses all"
abbrev pub RefusesAllFiles : Reader → Type 0
RefusesAllFiles f = (file ts cs : List ℕ) → Slice 8 file → LentTables ts cs →
    (refusal : Refusal) × ((f file ts cs).reading ≡ Err refusal)

-- "an executive that answers Idle or Missed always": it never names a task that runs, though it may refuse where it must
abbrev pub NamesNone : Answer → Type 0
NamesNone a = (i : ℕ) → a ≡ answer.Running i → ⊥

-- "one that leaves the state unchanged"
abbrev pub Leaves : State → Step → Type 0
Leaves s r = r.state ≡ s

-- "one that makes the copies of every tick at the first tick": a later tick changes no word
abbrev pub CopiesAtFirstOnly : Ticker → Type 0
CopiesAtFirstOnly f = (s : State) → Held s → s.ticked ≡ true →
    ((f.run s).state.buffers ≡ s.buffers) × ((f.run s).state.inputs ≡ s.inputs)

-- "and only names tasks afterwards": its answers are the rules', and so is its state but for the words of the connections
abbrev pub NamesTasks : Ticker → Type 0
NamesTasks f = (s : State) → Held s → ((f.run s).answer ≡ (tick_of s).answer)
    × ((f.run s).state ≡ set_inputs (set_buffers (tick_of s).state (f.run s).state.buffers) (f.run s).state.inputs)

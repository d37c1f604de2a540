-- Programs: what one can be given and can give, which is what the types of the entry points hold (crates/rules/src/lib.rt has the structs),
-- and what the contracts of the entry points promise of every call.
use Rattle.std.specs.Prelude.{◌≡◌, List, ℕ, ◌*◌, ◌^◌, ◌<◌, length, get_or}
use Rattle.rules.specs.Sizes.{most_tasks, most_rows}
use Rattle.rules.specs.declared.Plan.{Plan}
use Rattle.std.specs.Prelude.{Result}
use Rattle.rules.specs.declared.Counts.{Counts}
use Rattle.rules.specs.declared.Refusal.{Refusal}
use Rattle.rules.specs.declared.State.{State}
use Rattle.rules.specs.declared.Step.{Step}
use Rattle.rules.specs.Plan.{PlanIs}
use Rattle.rules.specs.Calls.{tick_of, complete_of}
use Rattle.rules.specs.Answers.{StepIs}
use Rattle.reader.specs.Read.{ReadIs}

-- ---------------------------------------------------------------------------------------------------------------------------
-- Values

-- a number of b bits: `u8`, `u16`, `u32`, and `usize` with 64
abbrev pub Bits : ℕ → ℕ → Type 0
Bits b n = n < 2 ^ b

abbrev pub Words : ℕ → List ℕ → Type 0
Words b ws = (k : ℕ) → k < length ws → Bits b (get_or ws k 0)

-- `&[u8]`, `&[u16]`: a slice has less than 2^63 bytes, so less than 2^66 bits
abbrev pub Slice : ℕ → List ℕ → Type 0
Slice b ws = (length ws * b < 2 ^ 66) × Words b ws

-- "a task table of 16-bit words", and the connection table beside it
abbrev pub LentTables : List ℕ → List ℕ → Type 0
LentTables tw cw = Slice 16 tw × Slice 16 cw

-- `[u16; 32]`: so many places of so many bits
abbrev pub Column : ℕ → ℕ → List ℕ → Type 0
Column b places ws = (length ws ≡ places) × Words b ws

-- `State`, field by field
pub record Held (s : State) : Type 0 where
  pub count : Bits 64 s.count
  pub rows : Bits 64 s.rows
  pub periods : Column 16 most_tasks s.periods
  pub deadlines : Column 16 most_tasks s.deadlines
  pub computes : Column 16 most_tasks s.computes
  pub criticalities : Column 8 most_tasks s.criticalities
  pub enforced : length s.enforced ≡ most_tasks
  pub senders : Column 8 most_rows s.senders
  pub receivers : Column 8 most_rows s.receivers
  pub undelayed : length s.undelayed ≡ most_rows
  pub order : Column 8 most_tasks s.order
  pub multiple : Bits 32 s.multiple
  pub tasks : length s.tasks ≡ most_tasks
  pub outputs : Column 32 most_tasks s.outputs
  pub dispatches : Column 32 most_tasks s.dispatches
  pub buffers : Column 32 most_rows s.buffers
  pub inputs : Column 32 most_rows s.inputs
  pub cycle : Bits 32 s.cycle

-- ---------------------------------------------------------------------------------------------------------------------------
-- Programs

-- `planner::plan`
abbrev pub Planner : Type 0
Planner = List ℕ → List ℕ → Plan

abbrev pub MeetsPlan : Planner → Type 0
MeetsPlan f = (tw cw : List ℕ) → LentTables tw cw → PlanIs tw cw (f tw cw)

-- `reader::read`, which leaves an answer and the two tables
pub record Left : Type 0 where
  pub reading : Result Counts Refusal
  pub tasks : List ℕ
  pub connections : List ℕ

abbrev pub Reader : Type 0
Reader = List ℕ → List ℕ → List ℕ → Left

abbrev pub MeetsRead : Reader → Type 0
MeetsRead f = (file ts cs : List ℕ) → Slice 8 file → LentTables ts cs →
    let r = f file ts cs in ReadIs file ts cs r.reading r.tasks r.connections

-- `executive::tick` and `executive::complete`: what they give can be given again
pub record Ticker : Type 0 where
  pub run : State → Step
  pub gives : (s : State) → Held s → Held (run s).state

abbrev pub MeetsTick : Ticker → Type 0
MeetsTick f = (s : State) → Held s → StepIs (tick_of s) (f.run s)

pub record Completer : Type 0 where
  pub run : State → ℕ → Step
  pub gives : (s : State) (w : ℕ) → Held s → Bits 32 w → Held (run s w).state

abbrev pub MeetsComplete : Completer → Type 0
MeetsComplete g = (s : State) (w : ℕ) → Held s → Bits 32 w → StepIs (complete_of s w) (g.run s w)

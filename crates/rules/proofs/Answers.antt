-- What an answer says tells the answer, so a statement through `Answers` admits one answer only: from what is said the answer is
-- made again.
use mathlib.Core.Path.{◌≡◌, refl, ap, sym, ◌∙◌}
use mathlib.Core.Bool.{cond}
use mathlib.Core.List.{[], ◌∷◌}
use Prim.Native.Nat.{ℕ}
use lib.Dec.{eqb}
use lib.ListN.{get_or}
use Rattle.std.specs.Prelude.{Result, Ok, Err}
use Rattle.rules.specs.Answers.{Told, number_of, place_of, answer_says, verdict_says, reading_says, read_says, StepIs}
use Rattle.rules.specs.File.{Reading}
use Rattle.rules.specs.Steps.{step}
use Rattle.rules.specs.declared.Refusal.{Refusal}
use Rattle.rules.specs.declared.Refusal.TheVariants.{TaskTable, ConnectionTable, TaskValue, ConnectionValue, Uneven, Circle, Raised, Multiple, LittleRoom, UnknownMark, CutShort, TooMany, EndWanted, NothingRuns, Halted, OutOfRange}
use Rattle.rules.specs.declared.Answer.{Answer}
use Rattle.rules.specs.declared.Answer.TheVariants as answer
use Rattle.rules.specs.declared.Counts.{Counts}
use Rattle.rules.specs.declared.State.{State}
use Rattle.rules.specs.declared.Step.{Step}

module _ {A B : Type 0} (says : A → B) (from : B → A) where
  -- what can be undone is injective
  undone_injective : ((a : A) → from (says a) ≡ a) → (a b : A) → says a ≡ says b → a ≡ b
  undone_injective back a b e = sym (back a) ∙ (ap from e ∙ back b)

-- the refusal with a number and a place
abbrev pub refusal_of : ℕ → ℕ → Refusal
refusal_of n p =
    get_or
    (TaskTable ∷ TaskTable ∷ ConnectionTable ∷ TaskValue p ∷ ConnectionValue p ∷ Uneven p ∷ Circle p ∷ Raised p ∷ Multiple
    ∷ LittleRoom ∷ UnknownMark p ∷ CutShort p ∷ TooMany p ∷ EndWanted p ∷ NothingRuns ∷ Halted ∷ OutOfRange ∷ [])
    n TaskTable

refusal_back : (f : Refusal) → refusal_of (number_of f) (place_of f) ≡ f
refusal_back TaskTable = refl
refusal_back ConnectionTable = refl
refusal_back (TaskValue i) = refl
refusal_back (ConnectionValue c) = refl
refusal_back (Uneven c) = refl
refusal_back (Circle i) = refl
refusal_back (Raised c) = refl
refusal_back Multiple = refl
refusal_back LittleRoom = refl
refusal_back (UnknownMark b) = refl
refusal_back (CutShort b) = refl
refusal_back (TooMany b) = refl
refusal_back (EndWanted b) = refl
refusal_back NothingRuns = refl
refusal_back Halted = refl
refusal_back OutOfRange = refl

-- a refusal's number and place tell it
pub refusal_one_of : (f g : Refusal) → number_of f ≡ number_of g → place_of f ≡ place_of g → f ≡ g
refusal_one_of f g n p = sym (refusal_back f) ∙ ((λ i. refusal_of (n i) (p i)) ∙ refusal_back g)

answer_of : Told → Answer
answer_of t =
    cond (eqb t.kind 0) (answer.Refused (refusal_of t.number t.value))
    (cond (eqb t.kind 1) (answer.Running t.value) (cond (eqb t.kind 2) answer.Idle (answer.Missed t.value)))

answer_back : (a : Answer) → answer_of (answer_says a) ≡ a
unfolding answer_of
answer_back (answer.Refused f) = ap answer.Refused (refusal_back f)
answer_back (answer.Running i) = refl
answer_back answer.Idle = refl
answer_back (answer.Missed i) = refl

pub answer_says-injective : (a b : Answer) → answer_says a ≡ answer_says b → a ≡ b
answer_says-injective = undone_injective answer_says answer_of answer_back

verdict_of : Told → Result (Unit {0}) Refusal
verdict_of t = cond (eqb t.kind 0) (Err (refusal_of t.number t.value)) (Ok tt)

verdict_back : (v : Result (Unit {0}) Refusal) → verdict_of (verdict_says v) ≡ v
unfolding verdict_of
verdict_back (Err f) = ap Err (refusal_back f)
verdict_back (Ok x) = refl

pub verdict_says-injective : (a b : Result (Unit {0}) Refusal) → verdict_says a ≡ verdict_says b → a ≡ b
verdict_says-injective = undone_injective verdict_says verdict_of verdict_back

-- what the rules say of a file, and what the reader answers
reading_of : Told → Reading
reading_of t = cond (eqb t.kind 0) (Reading.Refused t.number t.value) (Reading.Read t.number t.value)

reading_back : (r : Reading) → reading_of (reading_says r) ≡ r
unfolding reading_of
reading_back (Reading.Refused n p) = refl
reading_back (Reading.Read t c) = refl

pub reading_says-injective : (a b : Reading) → reading_says a ≡ reading_says b → a ≡ b
reading_says-injective = undone_injective reading_says reading_of reading_back

read_from : Told → Result Counts Refusal
read_from t = cond (eqb t.kind 0) (Err (refusal_of t.number t.value)) (Ok (record { tasks = t.number; connections = t.value }))

read_back : (r : Result Counts Refusal) → read_from (read_says r) ≡ r
unfolding read_from
read_back (Err f) = ap Err (refusal_back f)
read_back (Ok n) = refl

pub read_says-injective : (a b : Result Counts Refusal) → read_says a ≡ read_says b → a ≡ b
read_says-injective = undone_injective read_says read_from read_back

-- a step that is the one wanted says what it says, and no other does
pub step-refl : (w r : Step) → r ≡ w → StepIs w r
step-refl w r e = record { answer = ap (λ (z : Step). answer_says z.answer) e; state = ap (λ (z : Step). z.state) e }

pub step_is : (w r : Step) → StepIs w r → r ≡ w
step_is w r h =
    ap (λ (a : Answer). step a r.state) (answer_says-injective r.answer w.answer h.answer)
    ∙ ap (λ (z : State). step w.answer z) h.state

pub step-one : (w r q : Step) → StepIs w r → StepIs w q → r ≡ q
step-one w r q h k = step_is w r h ∙ sym (step_is w q k)

-- The tests 16 and 15 before a call is carried out: what follows where one stands, and where neither does.
use mathlib.Core.Path.{◌≡◌, refl, ap, sym, ◌∙◌}
use mathlib.Core.Bool.{Bool, true, false, cond}
use Prim.Native.Nat.{◌<◌}
use native.Mathlib.Omega.{arith}
use Rattle.std.specs.Prelude.{Result, Ok, Err}
use Rattle.rules.specs.Steps.{step}
use Rattle.rules.specs.Range.{in_range}
use Rattle.rules.specs.Calls.{judged}
use Rattle.rules.specs.declared.State.{State}
use Rattle.rules.specs.declared.Step.{Step}
use Rattle.rules.specs.declared.Answer.TheVariants as answer
use Rattle.rules.specs.declared.Refusal.{Refusal}
use Rattle.rules.specs.declared.Refusal.TheVariants.{Halted, OutOfRange}
use Rattle.rules.proofs.Tests.{true_false}
use Rattle.rules.proofs.Calls.{judged-out, judged-halted, judged-on}
use Rattle.rules.proofs.Range.{in_range-ranged}
use Rattle.executive.specs.Fits.{Fits}
use Rattle.executive.specs.Found.{accepts}

-- `accepts` by its two tests
abbrev tested : Bool → Bool → Result (Unit {0}) Refusal
tested ranged halted = cond ranged (cond halted (Err Halted) (Ok tt)) (Err OutOfRange)

abbrev refusal_in : Result (Unit {0}) Refusal → Refusal
refusal_in (Ok _) = OutOfRange
refusal_in (Err r) = r

abbrev is_accepted : Result (Unit {0}) Refusal → Bool
is_accepted (Ok _) = true
is_accepted (Err _) = false

stands : (ranged halted : Bool) (s : State) (carried : Step) (r : Refusal) → tested ranged halted ≡ Err r →
    step (answer.Refused r) s ≡ judged ranged halted s carried
stands true true s carried r e = ap (λ (f : Refusal). step (answer.Refused f) s) (sym (ap refusal_in e)) ∙ sym (judged-halted true true s carried refl refl)
stands true false s carried r e = absurd (true_false (ap is_accepted e))
stands false halted s carried r e = ap (λ (f : Refusal). step (answer.Refused f) s) (sym (ap refusal_in e)) ∙ sym (judged-out false halted s carried refl)

none : (ranged halted : Bool) → is_accepted (tested ranged halted) ≡ true → (ranged ≡ true) × (halted ≡ false)
none true true e = absurd (true_false (sym e))
none true false e = (refl, refl)
none false halted e = absurd (true_false (sym e))

pub refused-by : (s : State) (r : Refusal) (carried : Step) → accepts s ≡ Err r → step (answer.Refused r) s ≡ judged (in_range s) s.halted s carried
refused-by s r carried e = stands (in_range s) s.halted s carried r e

module _ (s : State) (u : Unit {0}) (e : accepts s ≡ Ok u) where
  pub in_range_by : in_range s ≡ true
  in_range_by = (none (in_range s) s.halted (ap is_accepted e)).0

  pub carried_out : (carried : Step) → carried ≡ judged (in_range s) s.halted s carried
  carried_out carried = sym (judged-on (in_range s) s.halted s carried in_range_by (none (in_range s) s.halted (ap is_accepted e)).1)

  -- and then each step has what it asks for
  pub fits_by : Fits s
  fits_by =
      let r = in_range-ranged s in_range_by in
      record {
        few = r.sizes.few;
        few_rows = r.sizes.few_rows;
        low = λ i h. let t = r.times i h in omega arith;
        within = λ i h. (r.times i h).deadline_high;
        sends = λ c h. (r.joins c h).sender_task;
        receives = λ c h. (r.joins c h).receiver_task;
        names = r.names_task;
      }

  pub cycle_by : s.cycle < s.multiple
  cycle_by = (in_range-ranged s in_range_by).sizes.cycle_below

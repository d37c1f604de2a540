-- The tests of refusals 3, 4, 5 and 7 at a place: what the code looks for is the first place with the test, and the test says what
-- 01's list says.
use mathlib.Core.Path.{◌≡◌, sym}
use mathlib.Core.Bool.{Bool, true, false}
use mathlib.Core.List.{List}
use Prim.Native.Nat.{ℕ, ◌<◌}
use native.Mathlib.Omega.{arith}
use denote.Param.Members.{Mut}
use denote.Ref.{Bor}
use Rattle.std.specs.Prelude.{Option, Some, None, MatchOption}
use Rattle.std.specs.Bool.{⊤}
use Rattle.std.specs.Fn.{CalledAt}
use Rattle.std.specs.Iterator.{YieldsThen}
use Rattle.std.specs.List.{FoldsTo}
use Rattle.std.specs.declared.ops.Range.{Range}
use Rattle.std.proofs.iter.Yields.{nat_range_steps}
use Rattle.std.proofs.lemmas.Iterator.{first_from_Range}
use Rattle.rules.specs.Tables.{count, rows}
use Rattle.rules.specs.Refusals.{Bad}
use Rattle.rules.proofs.Tests.{by_test}
use Rattle.rules.proofs.Deciding.{Decision, fails}
use Rattle.rules.proofs.DecidingRefusals as decide
use Rattle.planner.specs.declared.places.Tables.{Tables}
use Rattle.planner.specs.Places.{IsFirst, misfit_at, stray_at, uneven_at, raised_at}

match_weaker :
    {A : Type 0} (r : Option A) {P P' : Type 0} {Q Q' : A → Type 0} → MatchOption r P Q → (P → P') → ((x : A) → Q x → Q' x)
    → MatchOption r P' Q'
match_weaker None h f g = f h
match_weaker (Some x) h f g = g x h

-- what `find` ensures over the places below m, of a closure that answers by a test and changes nothing
pub first_found :
    {F : Type 0} {g : Mut F (Bor ℕ × Unit {0}) Bool} (test : ℕ → Bool) (m n : ℕ) (u : Range ℕ) (f : F) (r : Option ℕ) → m ≡ n
    → (xs : List ℕ) × (j : F) × YieldsThen nat_range_steps (record { start = 0; end = m }) xs r u
    × FoldsTo (λ p x q. CalledAt g p x false q) f xs j × MatchOption r ⊤ (λ x. (h : F) × CalledAt g j x true h)
    → ((x : ℕ) (b : Bool) (q : F) → CalledAt g f x b q → (q ≡ f) × (b ≡ test x)) → IsFirst test n r
first_found test m n u f r e ran answers =
    match_weaker r
    (first_from_Range (record { start = 0; end = m }) u f r (λ x. test x ≡ true) (λ x. test x ≡ false) ran
    (λ x q k. sym (answers x true q k).1) (λ x q k. ((answers x false q k).0, sym (answers x false q k).1)))
    (λ none p h. none p (omega arith) (omega arith))
    (λ p w. (omega (arith, w.1), w.2, λ q h. w.3 q (omega arith) h))

-- -------------------------------------------------------------------------------------------------------------------------
-- What the tests say

-- a number of the list that is told by a test: at each place below n it stands where the test is true, and nowhere else
pub record Told (tw cw : List ℕ) (number n : ℕ) (test : ℕ → Bool) : Type 0 where
  pub says : (q : ℕ) → Bad tw cw number q → (q < n) × (test q ≡ true)
  pub said : (q : ℕ) → (q < n) × (test q ≡ true) → Bad tw cw number q

module _ {P : ℕ → Type 0} (n : ℕ) (d : (q : ℕ) → Decision (P q)) where
  says : (q : ℕ) → (q < n) × P q → (q < n) × ((d q).test ≡ true)
  says q w = (w.0, by_test (d q).test (λ e. e) (λ e. absurd ((d q).if_false e w.1)))

  said : (q : ℕ) → (q < n) × ((d q).test ≡ true) → (q < n) × P q
  said q w = (w.0, (d q).if_true w.1)

module _ (t : Tables) where
  pub sizes_told : Told t.tasks.now t.connections.now 3 (count t.tasks.now) (misfit_at t)
  sizes_told =
      let d = λ (q : ℕ). fails (decide.in_size t.tasks.now q) in record { says = says (count t.tasks.now) d; said = said (count t.tasks.now) d }

  pub joins-told : Told t.tasks.now t.connections.now 4 (rows t.connections.now) (stray_at t)
  joins-told =
      let d = λ (q : ℕ). fails (decide.joins t.tasks.now t.connections.now q) in
      record { says = says (rows t.connections.now) d; said = said (rows t.connections.now) d }

  pub uneven-told : Told t.tasks.now t.connections.now 5 (rows t.connections.now) (uneven_at t)
  uneven-told =
      let d = decide.uneven t.tasks.now t.connections.now in
      record { says = says (rows t.connections.now) d; said = said (rows t.connections.now) d }

  pub raised-told : Told t.tasks.now t.connections.now 7 (rows t.connections.now) (raised_at t)
  raised-told =
      let d = decide.raised t.tasks.now t.connections.now in
      record { says = says (rows t.connections.now) d; said = said (rows t.connections.now) d }

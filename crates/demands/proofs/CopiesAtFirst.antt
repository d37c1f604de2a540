-- A tick that makes all copies at the first tick and only names tasks afterwards breaks demand 3 on M10, whatever it copies at the first tick:
-- what the receiver reads at tick 5 stands in its input since then, and the sampling rule names the word that the sender delivers later.
-- Two runs with two words then read the same.
use mathlib.Core.Path.{◌≡◌, refl, sym, ◌∙◌, ap, subst}
use mathlib.Core.Bool.{true}
use mathlib.Core.List.{List, [], ◌∷◌}
use Prim.Native.Nat.{ℕ, ◌*◌}
use native.Mathlib.Omega.{arith}
use lib.ListN.{get_or}
use lib.Dec.{ltb}
use Rattle.rules.specs.declared.State.{State}
use Rattle.rules.specs.declared.Step.{Step}
use Rattle.rules.specs.declared.Answer.{Answer}
use Rattle.rules.specs.Views.{period, input, set_buffers, set_inputs}
use Rattle.rules.specs.Range.{in_range}
use Rattle.rules.specs.Steps.{step, delivered, dispatched, missing, some_runs, running, started_at, chosen, advanced, ticking, ended_at, completing}
use Rattle.rules.specs.Calls.{judged, tick_of, complete_of}
use Rattle.rules.specs.Fresh.{fresh_state}
use Rattle.rules.specs.Runs.{Call, Call.tick, Call.complete, Sent, Moment, start, after_tick, after_word, after_by, JobAt}
use Rattle.rules.proofs.Tests.{cond_by}
use Rattle.rules.proofs.Steps.{chosen-ticked}
use Rattle.rules.proofs.Calls.{judged-by}
use Rattle.rules.proofs.Answers.{step_is}
use Rattle.rules.proofs.Bench.{ticks}
use Rattle.demands.specs.Demands.{Named, ReadsAsNamed}
use Rattle.demands.specs.Programs.{Bits, Held, Ticker, Completer, MeetsComplete}
use Rattle.demands.specs.ShutOut.{CopiesAtFirstOnly, NamesTasks}
use Rattle.demands.proofs.ShutOut.{M10, M10-held}

-- ---------------------------------------------------------------------------------------------------------------------------
-- A state that has ticked stays one

tick_ticked : (s : State) → s.ticked ≡ true → (tick_of s).state.ticked ≡ true
unfolding ticking advanced
tick_ticked s h =
    judged-by (λ (x : Step). x.state.ticked ≡ true) (in_range s) s.halted s (ticking s) (λ _. h)
    (λ _ _. cond_by (λ (x : Step). x.state.ticked ≡ true) (ltb (missing s) s.count) _ _ (λ _. h) (λ _. refl))

complete_ticked : (s : State) (w : ℕ) → s.ticked ≡ true → (complete_of s w).state.ticked ≡ true
unfolding completing ended_at
complete_ticked s w h =
    judged-by (λ (x : Step). x.state.ticked ≡ true) (in_range s) s.halted s (completing s w) (λ _. h)
    (λ _ _. cond_by (λ (x : Step). x.state.ticked ≡ true) (some_runs s) _ _ (λ _. chosen-ticked (ended_at s (running s) w) ∙ h) (λ _. h))

-- ---------------------------------------------------------------------------------------------------------------------------
-- Behind its first tick such a program's run is this one

-- the rules' tick, with the words of the connections as they were
abbrev pub with_words : State → List ℕ → List ℕ → State
with_words s b x = set_inputs (set_buffers s b) x

abbrev pub names_only : State → Step
names_only s = step (tick_of s).answer (with_words (tick_of s).state s.buffers s.inputs)

module _ (f : Ticker) (g : Completer) (completes : MeetsComplete g) (copies : CopiesAtFirstOnly f) (names : NamesTasks f) where
  named_step : (s : State) → Held s → f.run s ≡ step (tick_of s).answer (with_words (tick_of s).state (f.run s).state.buffers (f.run s).state.inputs)
  named_step s h =
      ap (λ (a : Answer). step a (f.run s).state) (names s h).0
      ∙ ap (λ (z : State). step (tick_of s).answer z) (names s h).1

  later_step : (s : State) → Held s → s.ticked ≡ true → f.run s ≡ names_only s
  later_step s h k =
      named_step s h
      ∙ ap (λ (b : List ℕ). step (tick_of s).answer (with_words (tick_of s).state b (f.run s).state.inputs)) (copies s h k).0
      ∙ ap (λ (x : List ℕ). step (tick_of s).answer (with_words (tick_of s).state s.buffers x)) (copies s h k).1

  later_runs : (cs : List Call) (m : Moment) → Held m.state → m.state.ticked ≡ true → Sent cs →
      after_by f.run g.run m cs ≡ after_by names_only complete_of m cs
  later_runs [] m h k t = refl
  later_runs (tick ∷ cs) m h k t =
      let e : f.run m.state ≡ names_only m.state = later_step m.state h k in
      let still : (f.run m.state).state.ticked ≡ true = ap (λ (r : Step). r.state.ticked) e ∙ tick_ticked m.state k in
      later_runs cs (after_tick m (f.run m.state)) (f.gives m.state h) still t
      ∙ ap (λ (r : Step). after_by names_only complete_of (after_tick m r) cs) e
  later_runs (complete w ∷ cs) m h k t =
      let e : g.run m.state w ≡ complete_of m.state w = step_is _ _ (completes m.state w h t.0) in
      let still : (g.run m.state w).state.ticked ≡ true = ap (λ (r : Step). r.state.ticked) e ∙ complete_ticked m.state w k in
      later_runs cs (after_word m w (g.run m.state w)) (g.gives m.state w h t.0) still t.1
      ∙ ap (λ (r : Step). after_by names_only complete_of (after_word m w r) cs) e

-- ---------------------------------------------------------------------------------------------------------------------------
-- M10, with any words b and x copied at the first tick, and the word w of the sender's first job

abbrev behind : ℕ → List Call
behind w = complete w ∷ complete 8 ∷ ticks 5

abbrev first : List ℕ → List ℕ → Step
first b x = step (tick_of M10).answer (with_words (tick_of M10).state b x)

abbrev at_five : List ℕ → List ℕ → ℕ → Moment
at_five b x w = after_by names_only complete_of (after_tick (start M10) (first b x)) (behind w)

reads_first : (b x : List ℕ) (w : ℕ) → input (at_five b x w).state 0 ≡ get_or x 0 0
unfolding fresh_state in_range judged delivered dispatched started_at chosen advanced ticking ended_at completing
reads_first [] [] w = refl
reads_first [] (y ∷ x) w = refl
reads_first (a ∷ b) [] w = refl
reads_first (a ∷ b) (y ∷ x) w = refl

job_five : (b x : List ℕ) (w : ℕ) → JobAt M10 (at_five b x w) 1 1 (input (at_five b x w).state)
unfolding fresh_state in_range judged delivered dispatched started_at chosen advanced ticking ended_at completing
job_five b x w = record { live = refl; in_table = omega arith; begun = refl; number = refl; has_read = λ _ _ _. refl }

words_five : (b x : List ℕ) (w : ℕ) → (at_five b x w).words 0 ≡ w ∷ []
unfolding fresh_state in_range judged delivered dispatched started_at chosen advanced ticking ended_at completing
words_five b x w = refl

-- the rule names that word, for a job that the sender dispatched at tick 0 with the deadline 5
named_word : (w v : ℕ) → Named M10 0 (1 * period M10 1) (w ∷ []) v → v ≡ w
unfolding fresh_state
named_word w v n = (n.last 0 (omega arith) (λ l h. omega arith)).1

module _ (f : Ticker) (g : Completer) (completes : MeetsComplete g) (copies : CopiesAtFirstOnly f) (names : NamesTasks f) where
  abbrev b : List ℕ
  b = (f.run M10).state.buffers

  abbrev x : List ℕ
  x = (f.run M10).state.inputs

  first_ticked : (f.run M10).state.ticked ≡ true
  unfolding fresh_state in_range judged delivered dispatched started_at chosen advanced ticking
  first_ticked = ap (λ (s : State). s.ticked) (names M10 M10-held).1

  is_five : (w : ℕ) → Bits 32 w → after_by f.run g.run (start M10) (tick ∷ behind w) ≡ at_five b x w
  is_five w l =
      later_runs f g completes copies names (behind w) (after_tick (start M10) (f.run M10)) (f.gives M10 M10-held) first_ticked (l, (omega arith, tt))
      ∙ ap (λ (r : Step). after_by names_only complete_of (after_tick (start M10) r) (behind w)) (named_step f g completes copies names M10 M10-held)

  module _ (named : ReadsAsNamed M10 (after_by f.run g.run (start M10))) where
    copied : (w : ℕ) → Bits 32 w → get_or x 0 0 ≡ w
    unfolding fresh_state
    copied w l =
        let v : ℕ = input (at_five b x w).state 0 in
        let j = subst (λ (m : Moment). JobAt M10 m 1 1 (input (at_five b x w).state)) (sym (is_five w l)) (job_five b x w) in
        let n = named (tick ∷ behind w) (l, (omega arith, tt)) 1 1 (input (at_five b x w).state) j 0 (omega arith) refl in
        sym (reads_first b x w)
        ∙ named_word w v (subst (λ (ws : List ℕ). Named M10 0 (1 * period M10 1) ws v) (ap (λ (m : Moment). m.words 0) (is_five w l) ∙ words_five b x w) n)

    pub copies_at_first_break_demand : ⊥
    copies_at_first_break_demand = let z : ◌≡◌ {A = ℕ} 7 9 = sym (copied 7 (omega arith)) ∙ copied 9 (omega arith) in omega arith

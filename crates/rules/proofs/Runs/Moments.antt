-- One call, by its cases: refused, it leaves the moment as it is; a tick misses or goes through its steps; a completion ends the task that
-- runs. And a run of calls: what each call keeps before a miss, a run keeps before a miss, and a run goes on from the moment behind its
-- first calls.
use mathlib.Core.Path.{◌≡◌, refl, sym, ◌∙◌, ap}
use mathlib.Core.Bool.{true, false}
use mathlib.Core.List.{List, [], ◌∷◌}
use Prim.Native.Nat.{ℕ, zero, suc}
use lib.ListN.{take, drop}
use lib.Dec.{ltb}
use Rattle.rules.specs.Views.{set_halted}
use Rattle.rules.specs.Range.{in_range}
use Rattle.rules.specs.Steps.{step, missing, delivered, dispatched, some_runs, running, ended_at, chosen, advanced, ticking, completing}
use Rattle.rules.specs.Runs.{Call, tick, complete, Sent, Moment, spoken, after_tick, after_word, next, after}
use Rattle.rules.proofs.Tests.{by_test, cond_by, true_false}
use Rattle.rules.proofs.Calls.{judged-by, chosen-accepts}

-- the moment after a miss, after a tick that passed, after a word
abbrev pub missed : Moment → Moment
missed m = record { state = set_halted m.state true; ticks = suc m.ticks; words = m.words }

abbrev pub ticked : Moment → Moment
ticked m = record { state = advanced (chosen (dispatched (delivered m.state))).state; ticks = suc m.ticks; words = m.words }

abbrev pub spoke : Moment → ℕ → Moment
spoke m w = record {
  state = (chosen (ended_at m.state (running m.state) w)).state;
  ticks = m.ticks;
  words = spoken m.words (running m.state) w;
}

module _ (Q : Moment → Type 0) (m : Moment) where
  pub tick_by : Q m → (m.state.halted ≡ false → Q (missed m)) →
      (m.state.halted ≡ false → ltb (missing m.state) m.state.count ≡ false → Q (ticked m)) → Q (next m tick)
  unfolding ticking
  tick_by q miss pass =
      judged-by (λ z. Q (after_tick m z)) (in_range m.state) m.state.halted m.state (ticking m.state) (λ _. q)
      (λ _ h. cond_by (λ z. Q (after_tick m z)) (ltb (missing m.state) m.state.count) _ _ (λ _. miss h) (λ e. went (pass h e)))
    where
      went : Q (ticked m) → Q (after_tick m (step (chosen (dispatched (delivered m.state))).answer (advanced (chosen (dispatched (delivered m.state))).state)))
      went = rw (chosen-accepts (dispatched (delivered m.state))) (λ z. z)

  pub word-by : (w : ℕ) → Q m → (m.state.halted ≡ false → some_runs m.state ≡ true → Q (spoke m w)) → Q (next m (complete w))
  unfolding completing
  word-by w q pass =
      judged-by (λ z. Q (after_word m w z)) (in_range m.state) m.state.halted m.state (completing m.state w) (λ _. q)
      (λ _ h. cond_by (λ z. Q (after_word m w z)) (some_runs m.state) _ _ (λ e. went (pass h e)) (λ _. q))
    where
      went : Q (spoke m w) → Q (after_word m w (chosen (ended_at m.state (running m.state) w)))
      went = rw (chosen-accepts (ended_at m.state (running m.state) w)) (λ z. z)

-- a halted state stays
pub stays : (m : Moment) (c : Call) → m.state.halted ≡ true → next m c ≡ m
stays m tick h = tick_by (λ k. k ≡ m) m refl (λ n. absurd (true_false (sym h ∙ n))) (λ n _. absurd (true_false (sym h ∙ n)))
stays m (complete w) h = word-by (λ k. k ≡ m) m w refl (λ n _. absurd (true_false (sym h ∙ n)))

pub halted_after : (cs : List Call) (m : Moment) → m.state.halted ≡ true → after m cs ≡ m
halted_after [] m h = refl
halted_after (c ∷ cs) m h = ap (λ (k : Moment). after k cs) (stays m c h) ∙ halted_after cs m h

-- what each call before a miss keeps, a run before a miss keeps
module _ (Q : Moment → Type 0) (one : (m : Moment) (c : Call) → Q m → (next m c).state.halted ≡ false → Q (next m c)) where
  pub after-keeps : (cs : List Call) (m : Moment) → Q m → (after m cs).state.halted ≡ false → Q (after m cs)
  after-keeps [] m q h = q
  after-keeps (c ∷ cs) m q h =
      by_test (next m c).state.halted
      (λ e. absurd (true_false (sym e ∙ ap (λ (k : Moment). k.state.halted) (sym (halted_after cs (next m c) e)) ∙ h)))
      (λ e. after-keeps cs (next m c) (one m c q e) h)

-- a run of calls is that of the first n and then of the others
pub after-split : (n : ℕ) (cs : List Call) (m : Moment) → after (after m (take n cs)) (drop n cs) ≡ after m cs
after-split zero cs m = refl
after-split (suc n) [] m = refl
after-split (suc n) (c ∷ cs) m = after-split n cs (next m c)

-- the first n of calls that can be made can be made
pub sent_take : (n : ℕ) (cs : List Call) → Sent cs → Sent (take n cs)
sent_take zero cs h = tt
sent_take (suc n) [] h = tt
sent_take (suc n) (tick ∷ cs) h = sent_take n cs h
sent_take (suc n) (complete w ∷ cs) h = (h.0, sent_take n cs h.1)

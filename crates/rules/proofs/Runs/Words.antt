-- The words of a run: what was delivered stays, and a job that delivered was started, for whoever runs is started.
use mathlib.Core.Path.{◌≡◌, refl, sym, ◌∙◌, subst}
use mathlib.Core.Bool.{false}
use mathlib.Core.List.{List, [], ◌∷◌, ◌++◌}
use mathlib.Core.Logic.{◌⊎◌, inl, inr}
use Prim.Native.Nat.{ℕ, zero, suc, ◌≤◌, ◌<◌}
use native.Mathlib.Omega.{arith}
use lib.ListN.{length, get_or, take, drop, get_or-append}
use lib.Dec.{eqb}
use borrow.Author.Tests.{eqb-true}
use Rattle.rules.specs.declared.State.{State}
use Rattle.rules.specs.Views.{input}
use Rattle.rules.specs.Sampling.{said}
use Rattle.rules.specs.Steps.{running}
use Rattle.rules.specs.Runs.{Call, tick, complete, Moment, start, spoken, next, after, Runs, JobAt, Job}
use Rattle.rules.proofs.Tests.{by_test, cond_by, lt_or}
use Rattle.rules.proofs.Kept.{plan_count}
use Rattle.rules.proofs.Sampling.{length_more}
use Rattle.rules.proofs.Runs.Choice.{runner_in}
use Rattle.rules.proofs.Runs.Moments.{tick_by, word-by, halted_after, after-split}
use Rattle.rules.proofs.Runs.Invariant.{Planned, Invariant, next-invariant, start-invariant}

-- ---------------------------------------------------------------------------------------------------------------------------
-- What was delivered stays

-- vs has the j-th word of ws
abbrev Holds : List ℕ → List ℕ → ℕ → Type 0
Holds vs ws j = (j < length vs) × (get_or vs j 0 ≡ get_or ws j 0)

spoken-holds : (W : ℕ → List ℕ) (r w i j : ℕ) → j < length (W i) → Holds (spoken W r w i) (W i) j
spoken-holds W r w i j h =
    cond_by (λ vs. Holds vs (W i) j) (eqb i r) (W i ++ (w ∷ [])) (W i)
    (λ _. (omega (arith, length_more (W i) w), get_or-append (W i) (w ∷ []) 0 j h)) (λ _. (h, refl))

next-holds : (m : Moment) (c : Call) (i j : ℕ) → j < length (m.words i) → Holds ((next m c).words i) (m.words i) j
next-holds m tick i j h = tick_by (λ k. Holds (k.words i) (m.words i) j) m (h, refl) (λ _. (h, refl)) (λ _ _. (h, refl))
next-holds m (complete w) i j h =
    word-by (λ k. Holds (k.words i) (m.words i) j) m w (h, refl) (λ _ _. spoken-holds m.words (running m.state) w i j h)

after_holds : (cs : List Call) (m : Moment) (i j : ℕ) → j < length (m.words i) → Holds ((after m cs).words i) (m.words i) j
after_holds [] m i j h = (h, refl)
after_holds (c ∷ cs) m i j h =
    let a = next-holds m c i j h in
    let b = after_holds cs (next m c) i j a.0 in
    (b.0, b.1 ∙ a.1)

-- what the rule says of the words at a moment it says of those of the whole run
pub later_said : (n : ℕ) (cs : List Call) (m : Moment) (i u : ℕ) → u ≤ length ((after m (take n cs)).words i) →
    (u ≤ length ((after m cs).words i)) × (said ((after m cs).words i) u ≡ said ((after m (take n cs)).words i) u)
later_said n cs m i zero h = (omega arith, refl)
later_said n cs m i (suc j) h = rw (after-split n cs m) at (after_holds (drop n cs) (after m (take n cs)) i j (omega arith))

-- ---------------------------------------------------------------------------------------------------------------------------
-- A job that delivered was started

module _ (s : State) where
  -- the running task's job, at the moment that it completes
  running-job : (m : Moment) → Invariant s m → m.state.halted ≡ false → (i : ℕ) → Runs m.state i →
      JobAt s m i (length (m.words i)) (input m.state)
  running-job m d h i r = record {
    live = h;
    in_table = omega (arith, runner_in m.state d.parts.laid i r, plan_count s m.state d.plan);
    begun = d.settled i r;
    number = refl;
    has_read = λ _ _ _. refl;
  }

  -- the word was there, or its job is one of the run
  abbrev Began : Moment → List Call → ℕ → ℕ → Type 0
  Began m cs i j = (j < length (m.words i)) ⊎ ((n : ℕ) × (x : ℕ → ℕ) × JobAt s (after m (take n cs)) i j x)

  spoken-began : (m : Moment) (w : ℕ) (cs : List Call) → Invariant s m → m.state.halted ≡ false → (r : ℕ) → Runs m.state r → (i j : ℕ) →
      j < length (spoken m.words r w i) → Began m cs i j
  spoken-began m w cs d h r run i j =
      cond_by (λ ws. j < length ws → Began m cs i j) (eqb i r) (m.words i ++ (w ∷ [])) (m.words i)
      (λ e l. elim (lt_or j (length (m.words i))) [
        | inl q ↦ inl q
        | inr q ↦ inr (0, input m.state, job (eqb-true _ _ e) (omega (arith, length_more (m.words i) w)))
      ])
      (λ _ l. inl l)
    where
      job : i ≡ r → length (m.words i) ≡ j → JobAt s m i j (input m.state)
      job e q = subst (λ (n : ℕ). JobAt s m i n (input m.state)) q (running-job m d h i (run.0, run.1 ∙ sym e))

  next-began : (m : Moment) (c : Call) (cs : List Call) → Invariant s m → (i j : ℕ) → j < length ((next m c).words i) → Began m cs i j
  next-began m tick cs d i j =
      tick_by (λ k. j < length (k.words i) → Began m cs i j) m (λ l. inl l) (λ _ l. inl l) (λ _ _ l. inl l)
  next-began m (complete w) cs d i j =
      word-by (λ k. j < length (k.words i) → Began m cs i j) m w (λ l. inl l)
      (λ h e. spoken-began m w cs d h (running m.state) (e, refl) i j)

  after-began : (cs : List Call) (m : Moment) → Invariant s m → (i j : ℕ) → j < length ((after m cs).words i) → Began m cs i j
  after-began [] m d i j h = inl h
  after-began (c ∷ cs) m d i j h =
      by_test (next m c).state.halted
      (λ e. next-began m c (c ∷ cs) d i j (subst (λ (k : Moment). j < length (k.words i)) (halted_after cs (next m c) e) h))
      (λ e. on (after-began cs (next m c) (next-invariant s m c d e) i j h))
    where
      on : Began (next m c) cs i j → Began m (c ∷ cs) i j
      on (inl l) = next-began m c (c ∷ cs) d i j l
      on (inr b) = inr (suc b.0, b.1, b.2)

  pub delivered_started : Planned s → (cs : List Call) (i k : ℕ) → k < length ((after (start s) cs).words i) →
      (x : ℕ → ℕ) × Job s (after (start s)) cs i k x
  delivered_started pl cs i k h =
      elim (after-began cs (start s) (start-invariant s pl) i k h) [ inl l ↦ absurd (omega arith) | inr b ↦ (b.1, (b.0, b.2)) ]

-- What a run keeps of one task, T ticks in, and that each step keeps it. No list of tasks and no state is in sight: a period P, a
-- deadline D, the common multiple M, the words ws that the task delivered, its phase, its output and its recorded cycle.
-- Idle, it has delivered a word for each of its dispatches; at work, for all but the last; and always for each deadline that is past.
use mathlib.Core.Path.{◌≡◌, sym, ◌∙◌, ap}
use mathlib.Core.Bool.{Bool, true, false, cond, ◌&&◌}
use mathlib.Core.List.{List, [], ◌∷◌, ◌++◌}
use mathlib.Core.Logic.{inl, inr}
use Prim.Native.Nat.{ℕ, zero, suc, ◌+◌, ◌-◌, ◌*◌, ◌%◌, ◌≤◌, ◌<◌, ◌∣◌}
use native.Mathlib.Nat.{mul-le-mul_right, mod-mod_of_dvd, zero-mod}
use native.Mathlib.Omega.{arith}
use lib.ListN.{length}
use lib.Dec.{ltb, eqb}
use borrow.Author.Tests.{ltb-true, eqb-true, eqb-false, lt-ltb}
use Rattle.rules.specs.declared.Phase.{Phase}
use Rattle.rules.specs.declared.Phase.TheVariants as phase
use Rattle.rules.specs.Views.{idle}
use Rattle.rules.specs.Sampling.{up_to, said}
use Rattle.rules.proofs.Tests.{by_test, lt_or, and_left, and_right, false_true, true_false}
use Rattle.rules.proofs.Sampling.{up_to-above, same_count, said-last, length_more}
use Rattle.rules.proofs.Runs.Jobs.{before, latest, dispatches_within, no_deadline, before_above, before-within, hit, hit_more, no_hit}

-- a task's numbers
pub record Paced (P D M : ℕ) : Type 0 where
  pub period_pos : 0 < P
  pub deadline_pos : 0 < D
  pub deadline_le : D ≤ P
  pub divides : P ∣ M
  pub multiple_pos : 0 < M

-- the cycle and the mark of a tick, T ticks in
pub record Clock (M T t : ℕ) (ticked : Bool) : Type 0 where
  pub at_cycle : t ≡ T % M
  pub began : ticked ≡ ltb 0 T

pub record TaskFact (P D M T : ℕ) (ws : List ℕ) (x : Phase) (output recorded : ℕ) : Type 0 where
  pub rests : idle x ≡ true → length ws ≡ before P 0 T
  pub works : idle x ≡ false → suc (length ws) ≡ before P 0 T
  pub in_time : before P D T ≤ length ws
  pub at_output : output ≡ said ws (length ws)
  pub at_dispatch : 0 < T → recorded ≡ latest P T % M

-- a deadline falls, a dispatch is due, at cycle t
abbrev pub due : Bool → ℕ → ℕ → ℕ → Bool
due ticked t P D = ticked && eqb (t % P) (D % P)

abbrev pub freed : ℕ → ℕ → Bool
freed t P = eqb (t % P) 0

-- a task is at work only after the first tick
pub working : {P D M T : ℕ} {ws : List ℕ} {x : Phase} {o d : ℕ} → TaskFact P D M T ws x o d → idle x ≡ false → 0 < T
working {T = zero} f b = absurd (omega (arith, f.works b))
working {T = suc n} f b = omega arith

-- the clock tells the remainders of T
module _ {P D M T t : ℕ} {ticked : Bool} (z : Paced P D M) (c : Clock M T t ticked) where
  cycle_mod : t % P ≡ T % P
  cycle_mod = rw c.at_cycle (mod-mod_of_dvd P T z.divides)

  pub freed_true : freed t P ≡ true → T % P ≡ 0 % P
  freed_true e = sym cycle_mod ∙ eqb-true _ _ e ∙ sym (zero-mod P)

  pub freed_false : freed t P ≡ false → T % P ≡ 0 % P → ⊥
  freed_false e q = eqb-false (t % P) 0 e (cycle_mod ∙ q ∙ zero-mod P)

  pub due_true : due ticked t P D ≡ true → (0 < T) × (T % P ≡ D % P)
  due_true e = (
    ltb-true 0 T (sym c.began ∙ and_left ticked (eqb (t % P) (D % P)) e),
    sym cycle_mod ∙ eqb-true (t % P) (D % P) (and_right ticked (eqb (t % P) (D % P)) e),
  )

  pub due_false : due ticked t P D ≡ false → 0 < T → T % P ≡ D % P → ⊥
  due_false e q h = eqb-false (t % P) (D % P) (rw (c.began, lt-ltb 0 T q) at e) (cycle_mod ∙ h)

  -- the number of jobs, and the latest of them, one tick on
  pub jobs_at : freed t P ≡ true → T ≡ before P 0 T * P + 0
  jobs_at e = hit P 0 T z.period_pos (omega arith) (dispatches_within P T z.period_pos) (freed_true e)

  pub jobs_more : freed t P ≡ true → up_to P 0 T ≡ suc (before P 0 T)
  jobs_more e = hit_more P 0 T z.period_pos (omega arith) (dispatches_within P T z.period_pos) (freed_true e)

  jobs_same : freed t P ≡ false → up_to P 0 T ≡ before P 0 T
  jobs_same e = no_hit P 0 T z.period_pos (omega arith) (dispatches_within P T z.period_pos) (freed_false e)

  pub latest_now : freed t P ≡ true → latest P (suc T) ≡ T
  latest_now e = omega (arith, jobs_at e, ap (λ (x : ℕ). x * P) (jobs_more e))

  pub latest_same : freed t P ≡ false → latest P (suc T) ≡ latest P T
  latest_same e = ap (λ (x : ℕ). x * P - P) (jobs_same e)

  -- at the first tick of all every task is dispatched
  pub later : freed t P ≡ false → 0 < T
  later e = elim (lt_or 0 T) [ inl h ↦ h | inr h ↦ absurd (freed_false e (ap (λ (x : ℕ). x % P) (first h))) ]
    where
      first : T ≤ 0 → T ≡ 0
      first h = omega arith

  pub deadlines_same : due ticked t P D ≡ false → up_to P D T ≡ before P D T
  deadlines_same e = no_deadline P D T z.period_pos z.deadline_pos z.deadline_le (due_false e)

  -- a task that is not late at its deadline: then it is not late when the tick is over
  module _ {ws : List ℕ} {x : Phase} {o d : ℕ} (f : TaskFact P D M T ws x o d) (ok : due ticked t P D ≡ true → idle x ≡ true) where
    -- at its deadline its last job is finished
    pub due_count : due ticked t P D ≡ true → up_to P D T ≡ length ws
    due_count e =
        let h = due_true e in
        let w : before P D T * P + D < T + P = before-within P D T z.period_pos z.deadline_le h.0 in
        let m = hit_more P D T z.period_pos z.deadline_le w h.1 in
        let a = hit P D T z.period_pos z.deadline_le w h.1 in
        let j : before P 0 T ≡ suc (before P D T) =
        same_count P (before P 0 T) (suc (before P D T)) (omega (arith, dispatches_within P T z.period_pos))
        (omega (arith, before_above P 0 T z.period_pos)) in
        omega (arith, f.rests (ok e))

    still_in_time : up_to P D T ≤ length ws
    still_in_time = by_test (due ticked t P D) (λ e. omega (arith, due_count e)) (λ e. omega (arith, deadlines_same e))

    pub idle-at_dispatch : freed t P ≡ true → idle x ≡ true
    idle-at_dispatch e = by_test (idle x) (λ i. i) (λ b. absurd (late (f.works b)))
      where
        late : suc (length ws) ≡ before P 0 T → ⊥
        late h = omega (arith, jobs_at e, up_to-above P D T z.period_pos, mul-le-mul_right P still_in_time, ap (λ (y : ℕ). y * P) h)

    pub task_ticks : TaskFact P D M (suc T) ws (cond (freed t P) phase.Waiting x) o (cond (freed t P) t d)
    task_ticks = by_test (freed t P)
        (λ e. rw e record {
          rests = λ i. absurd (false_true i);
          works = λ i. omega (arith, jobs_more e, f.rests (idle-at_dispatch e));
          in_time = still_in_time;
          at_output = f.at_output;
          at_dispatch = λ _. c.at_cycle ∙ ap (λ (y : ℕ). y % M) (sym (latest_now e));
        })
        (λ e. rw e record {
          rests = λ i. omega (arith, jobs_same e, f.rests i);
          works = λ i. omega (arith, jobs_same e, f.works i);
          in_time = still_in_time;
          at_output = f.at_output;
          at_dispatch = λ _. f.at_dispatch (later e) ∙ ap (λ (y : ℕ). y % M) (sym (latest_same e));
        })

-- the choice, and a completion with the word w
module _ {P D M T : ℕ} {ws : List ℕ} {x : Phase} {o d : ℕ} (f : TaskFact P D M T ws x o d) (busy : idle x ≡ false) where
  pub task_starts : TaskFact P D M T ws phase.Started o d
  task_starts = record {
    rests = λ i. absurd (false_true i);
    works = λ _. f.works busy;
    in_time = f.in_time;
    at_output = f.at_output;
    at_dispatch = f.at_dispatch;
  }

  pub task_ends : (w : ℕ) → TaskFact P D M T (ws ++ (w ∷ [])) phase.Idle w d
  task_ends w = record {
    rests = λ _. length_more ws w ∙ f.works busy;
    works = λ i. absurd (true_false i);
    in_time = omega (arith, length_more ws w, f.in_time);
    at_output = rw (length_more ws w) (sym (said-last ws w));
    at_dispatch = f.at_dispatch;
  }

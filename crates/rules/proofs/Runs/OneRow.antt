-- What a run keeps of one connection row, T ticks in, and that each step keeps it. No list and no state is in sight: the numbers, words,
-- phase, output and recorded cycle of its sender (s) and of its receiver (r), and the row's buffer and input.
--
-- A delayed row is simple: the buffer has the word of the sender's last deadline, the input the one of the receiver's last dispatch.
-- An undelayed row is meant to carry the word of the sender's job of number X - 1, where X jobs of the sender are dispatched at or before
-- the receiver's latest dispatch. Once that job is finished the buffer has its word. While it is not, the receiver is at work and cannot
-- have started, and the job was dispatched at the receiver's latest dispatch, so that its recorded cycle is the receiver's: the
-- completion will post the word. A later job of a faster sender has another recorded cycle, and its word passes by. "Neither period
-- divides the other" is refused for this: a receiver that is dispatched alone is then the faster one, and what it counts is unchanged.
use mathlib.Core.Path.{◌≡◌, refl, sym, ◌∙◌, ap}
use mathlib.Core.Bool.{Bool, true, false, cond}
use mathlib.Core.List.{List, [], ◌∷◌, ◌++◌}
use mathlib.Core.Logic.{◌⊎◌, inl, inr}
use Prim.Native.Nat.{ℕ, suc, ◌+◌, ◌-◌, ◌*◌, ◌%◌, ◌≤◌, ◌<◌, ◌∣◌}
use native.Mathlib.Nat.{zero-mod, dvd_of_mod-eq-zero, mod-eq-zero_of_dvd, dvd_trans, le_of_dvd}
use native.Mathlib.Omega.{arith}
use lib.ListN.{length}
use lib.Dec.{eqb}
use borrow.Author.Tests.{eqb-true, eqb-false}
use Rattle.rules.specs.declared.Phase.{Phase}
use Rattle.rules.specs.declared.Phase.TheVariants as phase
use Rattle.rules.specs.Views.{idle, started}
use Rattle.rules.specs.Sampling.{up_to, said}
use Rattle.rules.proofs.Tests.{by_test, lt_or, false_true, true_false}
use Rattle.rules.proofs.Sampling.{up_to-above, up_to-within, same_count, said_more, said-last, length_more}
use Rattle.rules.proofs.Runs.Jobs.{before, latest, latest_lt, latest_counts, same-mod, slower, before_above}
use Rattle.rules.proofs.Runs.OneTask.{Paced, TaskFact, Clock, due, freed, working, due_count, deadlines_same, freed_true, freed_false, jobs_at, jobs_more, latest_now, latest_same, later, idle-at_dispatch}

pub record DelayedFact (Ps Ds Pr T : ℕ) (ws : List ℕ) (xr : Phase) (buffer input : ℕ) : Type 0 where
  pub d_buffer : buffer ≡ said ws (before Ps Ds T)
  pub d_input : idle xr ≡ false → input ≡ said ws (up_to Ps Ds (latest Pr T))

-- X of the text above
abbrev meant : ℕ → ℕ → ℕ → ℕ
meant Ps Pr T = up_to Ps 0 (latest Pr T)

pub record UndelayedFact (Ps Pr T : ℕ) (ws : List ℕ) (xr : Phase) (buffer input : ℕ) : Type 0 where
  pub u_buffer : meant Ps Pr T ≤ length ws → buffer ≡ said ws (meant Ps Pr T)
  pub u_wait : 0 < T → length ws < meant Ps Pr T → (idle xr ≡ false) × (meant Ps Pr T * Ps ≡ latest Pr T + Ps)
  pub u_input : started xr ≡ true → (meant Ps Pr T ≤ length ws) × (input ≡ said ws (meant Ps Pr T))

-- a row's two tasks: their numbers and what a run keeps of them
pub record Ends (Ps Ds Pr Dr M T : ℕ) (ws wr : List ℕ) (xs xr : Phase) (os or ds dr : ℕ) : Type 0 where
  pub sender_paced : Paced Ps Ds M
  pub receiver_paced : Paced Pr Dr M
  pub sender_fact : TaskFact Ps Ds M T ws xs os ds
  pub receiver_fact : TaskFact Pr Dr M T wr xr or dr

-- ---------------------------------------------------------------------------------------------------------------------------
-- A tick, at which neither task is late

module _ {Ps Ds Pr Dr M T t : ℕ} {ticked : Bool} {ws wr : List ℕ} {xs xr : Phase} {os or ds dr : ℕ}
    (both : Ends Ps Ds Pr Dr M T ws wr xs xr os or ds dr) (c : Clock M T t ticked)
    (oks : due ticked t Ps Ds ≡ true → idle xs ≡ true) (okr : due ticked t Pr Dr ≡ true → idle xr ≡ true) where
  -- a delayed row's buffer when the deadlines are past
  new_buffer : (b : ℕ) → b ≡ said ws (before Ps Ds T) → cond (due ticked t Ps Ds) os b ≡ said ws (up_to Ps Ds T)
  new_buffer b h =
      by_test (due ticked t Ps Ds)
      (λ e. rw (e, due_count both.sender_paced c both.sender_fact oks e) both.sender_fact.at_output)
      (λ e. rw (e, deadlines_same both.sender_paced c e) h)

  pub delayed_ticks : {b i : ℕ} → DelayedFact Ps Ds Pr T ws xr b i →
      DelayedFact Ps Ds Pr (suc T) ws (cond (freed t Pr) phase.Waiting xr) (cond (due ticked t Ps Ds) os b)
      (cond (freed t Pr) (cond (due ticked t Ps Ds) os b) i)
  delayed_ticks {b = b} d =
      let n = new_buffer b d.d_buffer in
      by_test (freed t Pr)
      (λ e. rw e record { d_buffer = n; d_input = λ _. rw (latest_now both.receiver_paced c e) n })
      (λ e. rw e record { d_buffer = n; d_input = λ w. rw (latest_same both.receiver_paced c e) (d.d_input w) })

  -- both are dispatched: the sender's job that is meant is the one now dispatched
  together : (b i : ℕ) → freed t Pr ≡ true → freed t Ps ≡ true → UndelayedFact Ps Pr (suc T) ws phase.Waiting b i
  together b i e h =
      let l : latest Pr (suc T) ≡ T = latest_now both.receiver_paced c e in
      let n : length ws ≡ before Ps 0 T = both.sender_fact.rests (idle-at_dispatch both.sender_paced c both.sender_fact oks h) in
      let m : up_to Ps 0 T ≡ suc (before Ps 0 T) = jobs_more both.sender_paced c h in
      let a : T ≡ before Ps 0 T * Ps + 0 = jobs_at both.sender_paced c h in
      record {
        u_buffer = rw l (λ p. absurd (omega arith));
        u_wait = rw l (λ _ _. (refl, omega (arith, ap (λ (x : ℕ). x * Ps) m)));
        u_input = λ p. absurd (false_true p);
      }

  -- the receiver alone is: the sender is the slower one, and its job stays
  alone : {b i : ℕ} → (Ps ∣ Pr) ⊎ (Pr ∣ Ps) → freed t Pr ≡ true → freed t Ps ≡ false → UndelayedFact Ps Pr T ws xr b i →
      UndelayedFact Ps Pr (suc T) ws phase.Waiting b i
  alone g e h u =
      let l : latest Pr (suc T) ≡ T = latest_now both.receiver_paced c e in
      let a : T ≡ before Pr 0 T * Pr + 0 = jobs_at both.receiver_paced c e in
      let o : latest Pr T ≡ T - Pr = omega arith in
      let s : up_to Ps 0 (latest Pr T) ≡ up_to Ps 0 T = rw o (slower Ps Pr T both.sender_paced.period_pos (divides g) here off) in
      record {
        u_buffer = rw (l, ← s) u.u_buffer;
        u_wait = rw (l, ← s) (λ _ p. absurd (true_false (sym resting ∙ (u.u_wait (later both.sender_paced c h) p).0)));
        u_input = λ p. absurd (false_true p);
      }
    where
      off : T % Ps ≡ 0 → ⊥
      off q = freed_false both.sender_paced c h (q ∙ sym (zero-mod Ps))

      here : T % Pr ≡ 0
      here = freed_true both.receiver_paced c e ∙ zero-mod Pr

      divides : (Ps ∣ Pr) ⊎ (Pr ∣ Ps) → Pr ∣ Ps
      divides (inr d) = d
      divides (inl d) = absurd (off (mod-eq-zero_of_dvd Ps (dvd_trans Ps d (dvd_of_mod-eq-zero Pr here))))

      resting : idle xr ≡ true
      resting = idle-at_dispatch both.receiver_paced c both.receiver_fact okr e

  pub undelayed-ticks : {b i : ℕ} → (Ps ∣ Pr) ⊎ (Pr ∣ Ps) → UndelayedFact Ps Pr T ws xr b i →
      UndelayedFact Ps Pr (suc T) ws (cond (freed t Pr) phase.Waiting xr) b i
  undelayed-ticks {b = b} {i = i} g u =
      by_test (freed t Pr)
      (λ e. rw e (by_test (freed t Ps) (λ h. together b i e h) (λ h. alone g e h u)))
      (λ e. rw e (let l = latest_same both.receiver_paced c e in record {
        u_buffer = rw l u.u_buffer;
        u_wait = rw l (λ _. u.u_wait (later both.receiver_paced c e));
        u_input = rw l u.u_input;
      }))

-- ---------------------------------------------------------------------------------------------------------------------------
-- The receiver starts or ends, and the sender ends

pub delayed_starts : {Ps Ds Pr T b i : ℕ} {ws : List ℕ} {xr : Phase} → idle xr ≡ false → DelayedFact Ps Ds Pr T ws xr b i →
    DelayedFact Ps Ds Pr T ws phase.Started b i
delayed_starts w d = record { d_buffer = d.d_buffer; d_input = λ _. d.d_input w }

pub delayed_receiver_ends : {Ps Ds Pr T b i : ℕ} {ws : List ℕ} {xr : Phase} → DelayedFact Ps Ds Pr T ws xr b i →
    DelayedFact Ps Ds Pr T ws phase.Idle b i
delayed_receiver_ends d = record { d_buffer = d.d_buffer; d_input = λ p. absurd (true_false p) }

module _ {Ps Ds Pr Dr M T : ℕ} {ws wr : List ℕ} {xs xr : Phase} {os or ds dr : ℕ}
    (both : Ends Ps Ds Pr Dr M T ws wr xs xr os or ds dr) where
  -- the jobs that a receiver at work counts are among those delivered: on an undelayed row if its sender is idle
  undelayed-delivered : idle xs ≡ true → idle xr ≡ false → meant Ps Pr T ≤ length ws
  undelayed-delivered q w =
      omega (arith, both.sender_fact.rests q, latest_counts Ps 0 Pr T both.sender_paced.period_pos both.receiver_paced.period_pos (omega arith) (working both.receiver_fact w))

  pub delayed_delivered : idle xr ≡ false → up_to Ps Ds (latest Pr T) ≤ length ws
  delayed_delivered w =
      omega (arith, both.sender_fact.in_time, latest_counts Ps Ds Pr T both.sender_paced.period_pos both.receiver_paced.period_pos both.sender_paced.deadline_le (working both.receiver_fact w))

  pub undelayed-starts : {b i : ℕ} → idle xs ≡ true → idle xr ≡ false → UndelayedFact Ps Pr T ws xr b i → UndelayedFact Ps Pr T ws phase.Started b b
  undelayed-starts q w u = record {
    u_buffer = u.u_buffer;
    u_wait = λ h p. (refl, (u.u_wait h p).1);
    u_input = λ _. (undelayed-delivered q w, u.u_buffer (undelayed-delivered q w));
  }

  pub undelayed-receiver_ends : {b i : ℕ} → idle xs ≡ true → idle xr ≡ false → UndelayedFact Ps Pr T ws xr b i → UndelayedFact Ps Pr T ws phase.Idle b i
  undelayed-receiver_ends q w u = record {
    u_buffer = u.u_buffer;
    u_wait = λ h p. absurd (omega (arith, undelayed-delivered q w));
    u_input = λ p. absurd (false_true p);
  }

  -- the sender ends with the word w: no delayed row is touched
  pub delayed_sender_ends : {b i : ℕ} → (w : ℕ) → DelayedFact Ps Ds Pr T ws xr b i → DelayedFact Ps Ds Pr T (ws ++ (w ∷ [])) xr b i
  delayed_sender_ends w d = record {
    d_buffer = d.d_buffer ∙ sym (said_more ws w _ both.sender_fact.in_time);
    d_input = λ q. d.d_input q ∙ sym (said_more ws w _ (delayed_delivered q));
  }

  -- recorded cycles tell dispatches apart
  told-apart : 0 < T → dr ≡ ds → latest Pr T ≡ latest Ps T
  told-apart h e =
      let m : latest Pr T % M ≡ latest Ps T % M = sym (both.receiver_fact.at_dispatch h) ∙ e ∙ both.sender_fact.at_dispatch h in
      let pr : Pr ≤ M = le_of_dvd both.receiver_paced.multiple_pos both.receiver_paced.divides in
      let ps : Ps ≤ M = le_of_dvd both.sender_paced.multiple_pos both.sender_paced.divides in
      let lr = latest_lt Pr T both.receiver_paced.period_pos h in
      let ls = latest_lt Ps T both.sender_paced.period_pos h in
      let ar = before_above Pr 0 T both.receiver_paced.period_pos in
      let sa = before_above Ps 0 T both.sender_paced.period_pos in
      elim (lt_or (latest Pr T) (latest Ps T)) [
        | inl l ↦ same-mod M (latest Pr T) (latest Ps T) (omega arith) (omega arith) m
        | inr l ↦ sym (same-mod M (latest Ps T) (latest Pr T) (omega arith) (omega arith) (sym m))
      ]

  module _ {b i : ℕ} (w : ℕ) (busy : idle xs ≡ false) (u : UndelayedFact Ps Pr T ws xr b i) where
    own : latest Ps T ≡ length ws * Ps
    own = omega (arith, ap (λ (x : ℕ). x * Ps) (both.sender_fact.works busy))

    -- the receiver has the same recorded cycle: the job that is meant has ended
    posted : dr ≡ ds → UndelayedFact Ps Pr T (ws ++ (w ∷ [])) xr w i
    posted e =
        let l : latest Pr T ≡ latest Ps T = told-apart (working both.sender_fact busy) e in
        let x : meant Ps Pr T ≡ suc (length ws) =
        same_count Ps (meant Ps Pr T) (suc (length ws))
        (omega (arith, own, up_to-within Ps 0 (latest Pr T) both.sender_paced.period_pos (omega arith)))
        (omega (arith, own, up_to-above Ps 0 (latest Pr T) both.sender_paced.period_pos)) in
        let n = length_more ws w in
        record {
          u_buffer = λ _. rw x (sym (said-last ws w));
          u_wait = λ _ p. absurd (omega arith);
          u_input = λ s. absurd (omega (arith, (u.u_input s).0));
        }

    -- it has another one: the job that is meant ended before, or is yet to end
    passed : (dr ≡ ds → ⊥) → UndelayedFact Ps Pr T (ws ++ (w ∷ [])) xr b i
    passed ne = record {
      u_buffer = λ p. elim (lt_or (length ws) (meant Ps Pr T)) [
        | inl l ↦ absurd (ne (both.receiver_fact.at_dispatch h ∙ ap (λ (x : ℕ). x % M) (meets l p) ∙ sym (both.sender_fact.at_dispatch h)))
        | inr l ↦ u.u_buffer l ∙ sym (said_more ws w _ l)
      ];
      u_wait = λ t p. u.u_wait t (omega (arith, n));
      u_input = λ s. (omega (arith, n, (u.u_input s).0), (u.u_input s).1 ∙ sym (said_more ws w _ (u.u_input s).0));
    }
      where
        h : 0 < T
        h = working both.sender_fact busy

        n : length (ws ++ (w ∷ [])) ≡ suc (length ws)
        n = length_more ws w

        meets : length ws < meant Ps Pr T → meant Ps Pr T ≤ length (ws ++ (w ∷ [])) → latest Pr T ≡ latest Ps T
        meets l p =
            let x : meant Ps Pr T ≡ suc (length ws) = omega (arith, n) in
            omega (arith, own, (u.u_wait h l).1, ap (λ (y : ℕ). y * Ps) x)

    pub undelayed-sender_ends : UndelayedFact Ps Pr T (ws ++ (w ∷ [])) xr (cond (eqb dr ds) w b) i
    undelayed-sender_ends = by_test (eqb dr ds) (λ e. rw e (posted (eqb-true _ _ e))) (λ e. rw e (passed (eqb-false _ _ e)))

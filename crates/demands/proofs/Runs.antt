-- A tick and a completion that meet their contracts have the rules' runs: each step is the one of the rules, and the state that it gives can
-- be given again. So what is demanded of the rules' runs holds of theirs.
use mathlib.Core.Path.{◌≡◌, refl, sym, ◌∙◌, ap, subst}
use mathlib.Core.List.{List, [], ◌∷◌}
use Prim.Native.Nat.{ℕ}
use lib.ListN.{take}
use Rattle.rules.specs.declared.State.{State}
use Rattle.rules.specs.declared.Step.{Step}
use Rattle.rules.specs.Runs.{Call, Call.tick, Call.complete, Sent, Moment, after_tick, after_word, after_by, after, Run, JobAt, Job, Consistent}
use Rattle.rules.proofs.Answers.{step_is}
use Rattle.rules.proofs.Runs.Moments.{sent_take}
use Rattle.demands.specs.Demands.{Demand}
use Rattle.demands.specs.Programs.{Held, Ticker, MeetsTick, Completer, MeetsComplete}

-- ---------------------------------------------------------------------------------------------------------------------------
-- The runs

module _ (f : Ticker) (g : Completer) (ticks : MeetsTick f) (completes : MeetsComplete g) where
  pub runs_as_ruled : (cs : List Call) (m : Moment) → Held m.state → Sent cs → after_by f.run g.run m cs ≡ after m cs
  runs_as_ruled [] m h t = refl
  runs_as_ruled (tick ∷ cs) m h t =
      runs_as_ruled cs (after_tick m (f.run m.state)) (f.gives m.state h) t
      ∙ ap (λ (r : Step). after (after_tick m r) cs) (step_is _ _ (ticks m.state h))
  runs_as_ruled (complete w ∷ cs) m h t =
      runs_as_ruled cs (after_word m w (g.run m.state w)) (g.gives m.state w h t.0) t.1
      ∙ ap (λ (r : Step). after (after_word m w r) cs) (step_is _ _ (completes m.state w h t.0))

-- ---------------------------------------------------------------------------------------------------------------------------
-- The demand on runs that are the same for all calls that can be made

module _ (s : State) (run other : Run) (same : (cs : List Call) → Sent cs → run cs ≡ other cs) (d : Demand s run) where
  job_to : (cs : List Call) → Sent cs → (i k : ℕ) (x : ℕ → ℕ) → Job s run cs i k x → Job s other cs i k x
  job_to cs h i k x (n, j) = (n, subst (λ (m : Moment). JobAt s m i k x) (same (take n cs) (sent_take n cs h)) j)

  job_from : (cs : List Call) → Sent cs → (i k : ℕ) (x : ℕ → ℕ) → Job s other cs i k x → Job s run cs i k x
  job_from cs h i k x (n, j) = (n, subst (λ (m : Moment). JobAt s m i k x) (sym (same (take n cs) (sent_take n cs h))) j)

  consistent_from : (ca cb : List Call) → Sent ca → Sent cb → Consistent s other ca cb → Consistent s run ca cb
  consistent_from ca cb ha hb agree i k x y ja jb alike =
      rw (same ca ha, same cb hb) (agree i k x y (job_to ca ha i k x ja) (job_to cb hb i k y jb) alike)

  pub demand_same : Demand s other
  demand_same = record {
    order_kept = λ cs h. rw (same cs h) at (d.order_kept cs h);
    numbered = λ cs h. rw (same cs h) at (d.numbered cs h);
    recorded = λ cs h. rw (same cs h) at (d.recorded cs h);
    named = λ cs h. rw (same cs h) at (d.named cs h);
    sampled = λ cs h. rw (same cs h) at (d.sampled cs h);
    two_runs = λ ca cb ha hb agree i k x y ja jb.
        d.two_runs ca cb ha hb (consistent_from ca cb ha hb agree) i k x y (job_from ca ha i k x ja) (job_from cb hb i k y jb);
    in_range = λ cs h. rw (same cs h) at (d.in_range cs h);
    runner_started = λ cs h. rw (same cs h) at (d.runner_started cs h);
    delivered_started = λ cs h i k l.
        let j = d.delivered_started cs h i k (rw (same cs h) l) in
        (j.0, job_to cs h i k j.0 j.1);
  }

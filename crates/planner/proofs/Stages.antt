-- The stages of the planner: each number of 01's list is tested when none before it stands, so the first place where its test holds
-- is the refusal; and where no test holds, what is worked out is 01's plan.
use mathlib.Core.Path.{◌≡◌, refl, ap, sym, ◌∙◌, subst}
use mathlib.Core.Bool.{Bool, true, false}
use mathlib.Core.List.{List}
use Prim.Native.Nat.{ℕ, suc, ◌≤◌, ◌<◌}
use native.Mathlib.Omega.{arith}
use lib.ListN.{get_or, length}
use borrow.Author.Tests.{ltb-true, lt-ltb}
use Rattle.rules.specs.Sizes.{most_tasks, most_multiple}
use Rattle.rules.specs.Tables.{count, rows, sender, receiver}
use Rattle.rules.specs.Chains.{Link, Acyclic}
use Rattle.rules.specs.Counting.{column}
use Rattle.rules.specs.Order.{Common, IsDeadline, IsCriticality}
use Rattle.rules.specs.Refusals.{Refusal, Sound}
use Rattle.rules.specs.Plan.{ZeroFrom, Accepts, PlanIs}
use Rattle.rules.specs.declared.Plan.{Plan}
use Rattle.rules.specs.declared.Refusal as code
use Rattle.rules.specs.declared.Refusal.TheVariants as refusal
use Rattle.rules.proofs.Tests.{true_false}
use Rattle.rules.proofs.Counting.{replicate_at, column-at, column-past, column-length}
use Rattle.rules.proofs.Chains.{Upto, upto_reached, upto_reaches}
use Rattle.rules.proofs.Refusals.{NoneUnder, Tables, none_more, none_at_all, refused-whole, tables_of, tables_under, link_within, no_circle}
use Rattle.planner.specs.declared.places.Tables as lent
use Rattle.planner.specs.Places.{AllJoined, misfit_at, stray_at, uneven_at, raised_at}
use Rattle.planner.specs.Rounds.{Named, Square, circles}
use Rattle.planner.specs.Multiples.{Sized, MultipleAt}
use Rattle.planner.specs.Internal.{between, deadline_over, criticality_over, Workable}
use Rattle.planner.specs.Stages.{refused_plan, Clear, Refused, WorkedOut, Planned}
use Rattle.planner.proofs.Tested.{Told, sizes_told, joins-told, uneven-told, raised-told}
use Rattle.planner.proofs.Multiples.{multiple_right}
use Rattle.planner.proofs.Internals.{workable, deadline-right, criticality-right}

module _ (tw cw : List ℕ) where
  -- -------------------------------------------------------------------------------------------------------------------------
  -- A refusal

  -- by a test of each place: 3, 4, 5 and 7
  module _ (number n : ℕ) (test : ℕ → Bool) (told : Told tw cw number n test) (none : NoneUnder tw cw number) where
    pub place_refused : (p : ℕ) → (p < n) × (test p ≡ true) × ((q : ℕ) → q < p → test q ≡ false) → Refusal tw cw number p
    place_refused p w = record {
      stands = told.said p (w.0, w.1);
      first = λ q h b. true_false (sym (told.says q b).1 ∙ w.2 q h);
      lowest = none;
    }

    pub place_passed : ((p : ℕ) → p < n → test p ≡ false) → NoneUnder tw cw (suc number)
    place_passed w = none_more tw cw number none (λ q b. let t = told.says q b in true_false (sym t.1 ∙ w q t.0))

  module _ (ts : Tables tw cw) where
    pub rows_named : Named cw
    rows_named c h =
        let w = ts.joins c h in
        let m = ts.lengths.tasks_most in
        (omega (arith, w.sender_task), omega (arith, w.receiver_task))

    -- by the square: 6
    pub circles-told : (sq : List (List ℕ)) → Square (Link cw) (count tw) sq → Told tw cw 6 (count tw) (circles sq)
    circles-told sq s = record {
      says = λ q b. (
        b.0,
        lt-ltb 0 (between sq q q)
            (upto_reached (Link cw) (count tw) ts.lengths.some (link_within tw cw ts) q q (between sq q q) (upto q b.0) b.1),
      );
      said = λ q w. (w.0, upto_reaches (Link cw) (count tw) q q (between sq q q) (upto q w.0) (ltb-true 0 (between sq q q) w.1));
    }
      where
        upto : (q : ℕ) → q < count tw → Upto (Link cw) (count tw) q q (between sq q q)
        upto q h = s q h q (omega (arith, ts.lengths.tasks_most))

  -- by the common multiple: 8
  module _ (none : NoneUnder tw cw 8) where
    pub multiple_refused : ((c : ℕ) → 0 < c → c ≤ most_multiple → Common tw c → ⊥) → Refusal tw cw 8 0
    multiple_refused over = refused-whole tw cw 8 none (refl, over)

    pub multiple_passed : (c : ℕ) → MultipleAt tw c → Sound tw cw
    multiple_passed c m = none_at_all tw cw (none_more tw cw 8 none (λ q b. b.1 c m.some m.small m.common))

  -- -------------------------------------------------------------------------------------------------------------------------
  -- A plan

  column-zero_from : (f : ℕ → ℕ) (l : List ℕ) → l ≡ column f (count tw) 0 most_tasks → ZeroFrom (count tw) l
  column-zero_from f l e = (ap length e ∙ column-length f (count tw) 0 most_tasks, λ p h. rw e (column-past f (count tw) 0 most_tasks p h))

  module _
      (sound : Sound tw cw) (sq : List (List ℕ)) (s : Square (Link cw) (count tw) sq) (c : ℕ) (m : MultipleAt tw c) (r : Plan)
      (w : WorkedOut tw sq c r)
    where
      ts : Tables tw cw
      ts = tables_of tw cw sound

      free : Acyclic (Link cw)
      free = no_circle tw cw ts (sound 6)

      column-is : (f : ℕ → ℕ) (l : List ℕ) (i : ℕ) → l ≡ column f (count tw) 0 most_tasks → i < count tw → f i ≡ get_or l i 0
      column-is f l i e h = rw e (sym (column-at f (count tw) 0 most_tasks i h ts.lengths.tasks_most))

      pub accepts : Accepts tw cw r
      accepts = record {
        sound = sound;
        deadlines_are = λ i h.
            subst (IsDeadline tw cw i) (column-is (λ q. deadline_over tw sq q (count tw)) r.deadlines i w.deadlines_are h)
            (deadline-right tw cw ts sq s free i h);
        criticalities_are = λ i h.
            subst (IsCriticality tw cw i)
            (column-is (λ q. criticality_over tw sq q (count tw)) r.criticalities i w.criticalities_are h)
            (criticality-right tw cw ts sq s free i h);
        order_is = w.ordered.in_order;
        multiple_is = rw w.multiple_is (multiple_right tw c m);
        order_past = w.ordered.past;
        deadlines_past = column-zero_from (λ i. deadline_over tw sq i (count tw)) r.deadlines w.deadlines_are;
        criticalities_past = column-zero_from (λ i. criticality_over tw sq i (count tw)) r.criticalities w.criticalities_are;
      }

-- ---------------------------------------------------------------------------------------------------------------------------
-- The planner's own stages

module _ (t : lent.Tables) where
  abbrev tw : List ℕ
  tw = t.tasks.now

  abbrev cw : List ℕ
  cw = t.connections.now

  -- what is found first by a test
  abbrev FirstBy : (ℕ → Bool) → ℕ → ℕ → Type 0
  FirstBy test n p = (p < n) × (test p ≡ true) × ((q : ℕ) → q < p → test q ≡ false)

  abbrev NoneBy : (ℕ → Bool) → ℕ → Type 0
  NoneBy test n = (p : ℕ) → p < n → test p ≡ false

  -- 3 and 4
  pub misfit_refused : Clear t 3 → (p : ℕ) → FirstBy (misfit_at t) (count tw) p → Refused t (refusal.TaskValue p)
  misfit_refused none p w = place_refused tw cw 3 (count tw) (misfit_at t) (sizes_told t) none p w

  misfit_passed : Clear t 3 → NoneBy (misfit_at t) (count tw) → Clear t 4
  misfit_passed none w = place_passed tw cw 3 (count tw) (misfit_at t) (sizes_told t) none w

  module _ (none : Clear t 3) (fit : NoneBy (misfit_at t) (count tw)) where
    pub stray_refused : (p : ℕ) → FirstBy (stray_at t) (rows cw) p → Refused t (refusal.ConnectionValue p)
    stray_refused p w = place_refused tw cw 4 (rows cw) (stray_at t) (joins-told t) (misfit_passed none fit) p w

    pub stray_passed : NoneBy (stray_at t) (rows cw) → Clear t 5
    stray_passed w = place_passed tw cw 4 (rows cw) (stray_at t) (joins-told t) (misfit_passed none fit) w

  -- 5 to 8 and the plan, n being the count of the tasks
  module _ (none : Clear t 5) where
    held : Tables tw cw
    held = tables_under tw cw none

    pub all_joined : AllJoined t
    all_joined p h =
        let w = held.joins p h in
        record {
          row = h;
          sender_task = w.sender_task;
          receiver_task = w.receiver_task;
          sender_period = (held.sizes (sender cw p) w.sender_task).period_low;
          receiver_period = (held.sizes (receiver cw p) w.receiver_task).period_low;
        }

    pub all_sized : Sized tw
    all_sized = held.sizes

    pub all_named : Named cw
    all_named = rows_named tw cw held

    pub square_able : (n : ℕ) → n ≡ count tw → n ≤ most_tasks
    square_able n e = omega (arith, held.lengths.tasks_most)

    pub uneven_refused : (p : ℕ) → FirstBy (uneven_at t) (rows cw) p → Refused t (refusal.Uneven p)
    uneven_refused p w = place_refused tw cw 5 (rows cw) (uneven_at t) (uneven-told t) none p w

    module _ (n : ℕ) (e : n ≡ count tw) (sq : List (List ℕ)) (s : Square (Link cw) n sq) where
      square : Square (Link cw) (count tw) sq
      square = subst (λ (k : ℕ). Square (Link cw) k sq) e s

      circle : Told tw cw 6 n (circles sq)
      circle = subst (λ (k : ℕ). Told tw cw 6 k (circles sq)) (sym e) (circles-told tw cw held sq square)

      pub all_workable : Workable tw sq
      all_workable = workable tw cw held sq square

      module _ (even : NoneBy (uneven_at t) (rows cw)) where
        six : Clear t 6
        six = place_passed tw cw 5 (rows cw) (uneven_at t) (uneven-told t) none even

        pub circle_refused : (p : ℕ) → FirstBy (circles sq) n p → Refused t (refusal.Circle p)
        circle_refused p w = place_refused tw cw 6 n (circles sq) circle six p w

        module _ (straight : NoneBy (circles sq) n) where
          seven : Clear t 7
          seven = place_passed tw cw 6 n (circles sq) circle six straight

          pub raised_refused : (p : ℕ) → FirstBy (raised_at t) (rows cw) p → Refused t (refusal.Raised p)
          raised_refused p w = place_refused tw cw 7 (rows cw) (raised_at t) (raised-told t) seven p w

          module _ (level : NoneBy (raised_at t) (rows cw)) where
            eight : Clear t 8
            eight = place_passed tw cw 7 (rows cw) (raised_at t) (raised-told t) seven level

            pub over_refused : ((c : ℕ) → 0 < c → c ≤ most_multiple → Common tw c → ⊥) → Refused t refusal.Multiple
            over_refused over = multiple_refused tw cw eight over

            pub plan_accepted : (c : ℕ) → MultipleAt tw c → (r : Plan) → WorkedOut tw sq c r → Planned t r
            plan_accepted c m r w = record { accepted = w.accepted; accepts = accepts tw cw (multiple_passed tw cw eight c m) sq square c m r w }

  -- zeros throughout, with the refusal
  pub plan_refused : (f : code.Refusal) (r : Plan) → Refused t f → r ≡ refused_plan f → PlanIs tw cw r
  plan_refused f r because e =
      subst (PlanIs tw cw) (sym e)
      (record {
        because = because;
        order_none = (refl, λ p h. replicate_at {A = ℕ} most_tasks p 0);
        deadlines_none = (refl, λ p h. replicate_at {A = ℕ} most_tasks p 0);
        criticalities_none = (refl, λ p h. replicate_at {A = ℕ} most_tasks p 0);
        multiple_none = refl;
      })

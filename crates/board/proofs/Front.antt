-- The first 614 of lent words, lent on as an array: what they held of the tables, and the words once a state stands in them.
use Rattle.std.proofs.Common.{◌≡◌, refl, ap, sym, ◌∙◌, ℕ, ◌-◌, ◌≤◌, List, [], ◌++◌, length, take, drop, arith}
use Rattle.std.proofs.lemmas.List.{drop_all, append-nil, drop-take}
use lib.Seq.{length-take-le, take-take}
use Rattle.rules.specs.declared.State.{State}
use Rattle.board.specs.Layout.{tasks_at, phases_at, state_size}
use Rattle.board.specs.Rows.{Part}
use Rattle.board.specs.StateWords.{stored_in}

module _ (ws w : List ℕ) (enough : state_size ≤ length ws) (first : w ≡ take state_size ws) where
  pub front_length : length w ≡ state_size
  front_length = ap length first ∙ length-take-le state_size ws enough

  pub stored_front : (new : List ℕ) (s : State) → new ≡ stored_in w s → new ++ drop state_size ws ≡ stored_in ws s
  stored_front new s e =
      let none : drop state_size w ≡ [] = drop_all state_size w (omega (arith, front_length)) in
      rw (e, none, append-nil) refl

  pub part_front : (l : List ℕ) → Part ws tasks_at (phases_at - tasks_at) l → Part w tasks_at (phases_at - tasks_at) l
  part_front l p = record {
    is = p.is ∙ sym (ap (λ (v : List ℕ). take (phases_at - tasks_at) (drop tasks_at v)) first ∙ ap (take (phases_at - tasks_at)) (drop-take tasks_at (state_size - tasks_at) ws) ∙ take-take (phases_at - tasks_at) (state_size - tasks_at) (drop tasks_at ws) (omega arith));
  }

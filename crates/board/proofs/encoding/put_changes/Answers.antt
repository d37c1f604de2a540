-- A list in front and one behind, around the tables, which stand.
use Rattle.std.proofs.Common.{◌-◌, ◌≡◌, length, rules, arith}
use Rattle.board.specs.Layout.{tasks_at, phases_at, state_size}
use Rattle.board.proofs.Layers.{lays_around}
use Rattle.board.proofs.encoding.put_changes.Goals as goal

pub returns : goal.returns
returns c =
    let room : length c.args.words.now ≡ state_size = search rules in
    lays_around tasks_at (phases_at - tasks_at) (state_size - phases_at) _ _ _ _ _ _ c.put_head.ensures c.requires.1
    c.put_moving.ensures (omega (arith, room))

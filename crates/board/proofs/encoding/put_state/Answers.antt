-- Three lists that meet, from place 0 on.
use Rattle.std.proofs.Common.{◌≡◌, length, rules, arith}
use Rattle.board.specs.Layout.{state_size}
use Rattle.board.proofs.Layers.{lays_more, lays_front}
use Rattle.board.proofs.encoding.put_state.Goals as goal

pub returns : goal.returns
returns c =
    let room : length c.args.words.now ≡ state_size = search rules in
    lays_front _ _ _ _
    (lays_more _ _ _ _ _ _ _ _ (lays_more _ _ _ _ _ _ _ _ c.put_head.ensures c.put_tables.ensures) c.put_moving.ensures)
    (omega (arith, room))

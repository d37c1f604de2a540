-- One byte more: it ends the line, whose answer is put behind the others, or it is kept.
use Rattle.std.proofs.Common.{◌≡◌, ℕ, arith, get_or}
use Rattle.step.proofs.Turns.{turn_start, turn_ends, turn_keeps}
use Rattle.step.proofs.serving.Desk.serve.Goals.{then-byte-eq-LINE_END, else-byte-eq-LINE_END}
use Rattle.step.proofs.serving.Desk.serve.Goals as goal

pub loop-byte-init : goal.loop-byte-init
loop-byte-init c = turn_start _ _ _ _

pub loop-byte-preserved : goal.loop-byte-preserved
loop-byte-preserved c =
    let t = c.loop-byte.invariant in
    let b : ℕ = get_or c.args.bytes.now c.loop-byte.byte-index 0 in
    elim c.if-byte-eq-LINE_END.branch [
      | then-byte-eq-LINE_END w ↦
          let ends : b ≡ 10 = omega arith in
          rw (w.self-is, w.out-is, w.end-is)
          (turn_ends t c.loop-byte-test.true _ _ _ _ ends (rw w.asked.ensures at w.obey-end.ensures) w.obey-end.auto.out w.new-self.ensures)
      | else-byte-eq-LINE_END w ↦
          rw (w.self-is, w.out-is, w.end-is) (turn_keeps t c.loop-byte-test.true _ w.if-byte-eq-LINE_END.false w.keep.ensures)
    ]

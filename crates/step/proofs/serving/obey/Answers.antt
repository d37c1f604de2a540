-- A bad line changes nothing; a call is answered by the executive's own statement, and its line is 50 bytes at most, so it is put whole.
use Rattle.std.proofs.Common.{refl, arith}
use Rattle.text.proofs.Lengths.{most_answer, answer_length, line_put}
use Rattle.step.specs.Session.{obeyed}
use Rattle.step.proofs.Turns.{prints_step}
use Rattle.step.proofs.serving.obey.Goals as goal

pub returns-in_default : goal.returns-in_default
unfolding obeyed
returns-in_default c =
    rw c.in_default.is (record { state = refl; line = line_put most_answer (omega arith) (omega arith) c.bad_line.ensures })

pub returns : goal.returns
unfolding obeyed
returns c =
    rw c.in-Ok.is
    (prints_step _ _ c.called.ensures
    (record { state = refl; line = line_put most_answer (answer_length c.called.result) (omega arith) c.answer_line.ensures }))

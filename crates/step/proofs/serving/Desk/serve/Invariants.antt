-- The desk is the moment behind the bytes so far, and what they print stands in front of the buffer.
use Rattle.step.specs.Serving.{moment_of}
use Rattle.step.proofs.Turns.{Turn}
use Rattle.step.proofs.serving.Desk.serve.Given as goal

abbrev pub invariant-loop-byte : goal.invariant-loop-byte
invariant-loop-byte l = Turn l.bytes l.initial.out (moment_of l.initial.self) l.out l.self.state l.self.line l.end l.byte-index

-- After k rounds the marks are the ends of the chains of exactly k connections and the row has the longest of at most k.
use Rattle.rules.specs.Chains.{Link}
use Rattle.planner.proofs.Rounds.{Rounds}
use Rattle.planner.proofs.chains.Links.chains_from.Given as goal

abbrev pub invariant-loop-k : goal.invariant-loop-k
invariant-loop-k l = Rounds (Link l.self.connections.now) l.i l.k l.marks l.best

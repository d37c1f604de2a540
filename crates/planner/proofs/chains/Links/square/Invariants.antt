-- The rows below i are worked out.
use Rattle.std.proofs.Common.{◌≡◌, [], ℕ, ◌<◌, length, get_or}
use Rattle.rules.specs.Chains.{Link}
use Rattle.planner.specs.Rounds.{ChainsFrom}
use Rattle.planner.proofs.chains.Links.square.Given as goal

abbrev pub invariant-loop-i : goal.invariant-loop-i
invariant-loop-i l = record {
  long : length l.chains ≡ 32;
  so_far : (q : ℕ) → q < l.i → ChainsFrom (Link l.self.connections.now) l.n q (get_or l.chains q []);
}

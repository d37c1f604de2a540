-- `all` says whether all places before `i` fit.
use Rattle.std.proofs.Common.{◌≡◌, ℕ, ◌<◌, Bool}
use Rattle.rules.specs.Counting.{all_below}
use Rattle.executive.proofs.range.all_fit.Given as goal

abbrev pub invariant-loop-i : goal.invariant-loop-i
invariant-loop-i g l =
    (p : ℕ → Bool) → ((i : ℕ) (b : Bool) → i < l.count → goal.F-post g l.fits i b → b ≡ p i) → l.all ≡ all_below p l.i

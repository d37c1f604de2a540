-- Invariant: the first k rows stand in the buffer from the place on, in at most 84 bytes each, so that the next one fits. Measure: the rows
-- that are left.
use Rattle.std.proofs.Common.{◌≡◌, ◌-◌, ◌*◌, ◌≤◌, length}
use Rattle.text.specs.Buffers.{Put}
use Rattle.list.specs.Listing.{rows_of}
use Rattle.list.proofs.rows.Given as goal

abbrev pub invariant-loop-k : goal.invariant-loop-k
invariant-loop-k l =
    (l.k ≤ l.n) × (length l.out ≡ length l.fn.out) × Put (84 * l.k) l.fn.out l.at (rows_of l.plan.order l.plan.deadlines l.plan.criticalities l.k) l.end l.out

abbrev pub decreases-loop-k : goal.decreases-loop-k
decreases-loop-k l = l.n - l.k

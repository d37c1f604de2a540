-- The places before the task's name tasks, and the marks are those of the tasks that they name.
use Rattle.std.proofs.Common.{◌≡◌, true, length}
use Rattle.rules.specs.Counting.{all_below}
use Rattle.rules.specs.Range.{place_fits}
use Rattle.executive.proofs.Marks.{MarkedBy, named_in}
use Rattle.executive.proofs.range.order_fits.Given as goal

abbrev pub invariant-loop-task : goal.invariant-loop-task
invariant-loop-task l =
    (length l.named ≡ 32) × (all_below (place_fits l.state) l.task-index ≡ true) × MarkedBy (named_in l.state l.task-index) l.named

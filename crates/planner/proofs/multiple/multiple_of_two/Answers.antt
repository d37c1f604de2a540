use Rattle.std.proofs.Common.{refl, arith}
use Rattle.planner.proofs.Multiples.{trying_first, trying_more, trying_found, met, unmet}
use Rattle.planner.proofs.multiple.multiple_of_two.Goals as goal

pub loop-multiple-init : goal.loop-multiple-init
loop-multiple-init c = record { by = refl; so_far = trying_first _ _ (omega arith) }

pub loop-multiple-preserved : goal.loop-multiple-preserved
loop-multiple-preserved c = record {
  by = refl;
  so_far = trying_more _ _ _ c.loop-multiple.invariant.so_far (omega arith) c.if-multiple-smaller-eq0.false;
}

pub returns-then-multiple-smaller-eq0 : goal.returns-then-multiple-smaller-eq0
returns-then-multiple-smaller-eq0 c =
    met _ _ _ _ c.max-larger.ensures c.min-smaller.ensures _
    (trying_found _ _ _ c.loop-multiple.invariant.so_far (omega arith) c.if-multiple-smaller-eq0.true)

pub returns : goal.returns
returns c = unmet _ _ _ _ c.max-larger.ensures c.min-smaller.ensures _ c.loop-multiple.invariant.so_far (omega arith)

-- a step more would be over the largest multiple
pub returns-else-multiple-smaller-eq0 : goal.returns-else-multiple-smaller-eq0
returns-else-multiple-smaller-eq0 c =
    unmet _ _ _ _ c.max-larger.ensures c.min-smaller.ensures _
    (trying_more _ _ _ c.loop-multiple.invariant.so_far (omega arith) c.if-multiple-smaller-eq0.false) (omega arith)

use Rattle.std.proofs.Common.{rules}
use borrow.Author.Tests.{tests}
use Rattle.planner.specs.Places.{stray_at}
use Rattle.planner.proofs.Tested.{first_found}
use Rattle.planner.proofs.places.Tables.first_stray.Goals as goal

pub returns : goal.returns
returns c =
    first_found (stray_at c.args.self) _ _ _ _ c.find.result c.rows.ensures c.find.ensures.ran (λ x b q k. search (rules, tests))

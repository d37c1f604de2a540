use Rattle.std.proofs.Common.{rules}
use borrow.Author.Tests.{tests}
use Rattle.planner.specs.Places.{uneven_at}
use Rattle.planner.proofs.Tested.{first_found}
use Rattle.planner.proofs.places.Tables.first_uneven.Goals as goal

pub returns : goal.returns
returns c =
    first_found (uneven_at c.args.self) _ _ _ _ c.find.result c.rows.ensures c.find.ensures.ran (λ x b q k. search (rules, tests))

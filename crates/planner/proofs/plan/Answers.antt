use Rattle.planner.proofs.Stages.{plan_refused}
use Rattle.planner.proofs.plan.Goals as goal

pub returns-in-Err : goal.returns-in-Err
returns-in-Err c =
    plan_refused (record { tasks = c.args.tasks; connections = c.args.connections }) _ _ c.in-Err.ensures c.refused.ensures

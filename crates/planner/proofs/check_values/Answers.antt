-- 3 and 4 by the first place where each stands.
use Rattle.planner.proofs.Stages.{misfit_refused, stray_refused, stray_passed}
use Rattle.planner.proofs.check_values.Goals as goal

pub returns-in-Some : goal.returns-in-Some
returns-in-Some c = misfit_refused c.args.tables c.requires _ c.in-Some.ensures

pub returns-in-Some-first_stray : goal.returns-in-Some-first_stray
returns-in-Some-first_stray c = stray_refused c.args.tables c.requires c.in_default.ensures _ c.in-Some-first_stray.ensures

pub returns : goal.returns
returns c = stray_passed c.args.tables c.requires c.in_default.ensures c.in_default-first_stray.ensures

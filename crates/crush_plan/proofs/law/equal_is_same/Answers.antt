use Rattle.crush_plan.proofs.SamePlans.{same_plan-Decides}
use Rattle.crush_plan.proofs.law.equal_is_same.Goals as goal

pub returns : goal.returns
returns c = same_plan-Decides

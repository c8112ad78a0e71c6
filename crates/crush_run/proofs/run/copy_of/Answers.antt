use Rattle.crush_run.proofs.Runs.{copy_stands}
use Rattle.crush_run.proofs.run.copy_of.Goals as goal

pub returns : goal.returns
returns c = copy_stands _ _ c.try_copy.ensures.setting c.try_copy.ensures.stands

use Rattle.crush_model.proofs.Passing.{Lawful-passes}
use Rattle.crush_model.proofs.Tested.{Lawful-tested}
use Rattle.crush_model.proofs.law.lawful_is_what_passes.Goals as goal

pub returns : goal.returns
returns c t = (Lawful-tested t, Lawful-passes t)

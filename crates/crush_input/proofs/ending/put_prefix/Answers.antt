use Rattle.crush_units.proofs.Appending.{prefix_of_writes}
use Rattle.crush_input.proofs.ending.put_prefix.Goals as goal

pub returns : goal.returns
returns g c = prefix_of_writes c.put.result _ _ _ c.put.ensures.writes

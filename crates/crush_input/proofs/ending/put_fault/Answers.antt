use Rattle.crush_units.proofs.Appending.{prefix_of_writes}
use Rattle.crush_input.proofs.ending.put_fault.Goals as goal

pub returns : goal.returns
returns g c = prefix_of_writes c.write_run_fault.result _ _ _ (rw c.none.ensures at c.write_run_fault.ensures)

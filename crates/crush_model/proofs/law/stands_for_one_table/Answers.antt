use Rattle.crush_model.proofs.Stands.{stands_for_rows, stands_same, same_stands}
use Rattle.crush_model.proofs.law.stands_for_one_table.Goals as goal

pub returns : goal.returns
returns c f = (stands_for_rows f, stands_same f, same_stands f)

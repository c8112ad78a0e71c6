use Rattle.crush_model.proofs.Relocated.{relocate}
use Rattle.crush_model.proofs.law.moves_are_of_one_row.Goals as goal

pub returns : goal.returns
returns c t l i p n r = relocate t i p n r l

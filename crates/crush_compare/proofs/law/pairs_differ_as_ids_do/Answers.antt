use Rattle.crush_compare.proofs.IdPairs.{differences_of_ids}
use Rattle.crush_compare.proofs.law.pairs_differ_as_ids_do.Goals as goal

pub returns : goal.returns
returns c = differences_of_ids

use Rattle.crush_compare.proofs.IdPairs.{each_id_once}
use Rattle.crush_compare.proofs.law.pairs_have_each_id_once.Goals as goal

pub returns : goal.returns
returns c = each_id_once

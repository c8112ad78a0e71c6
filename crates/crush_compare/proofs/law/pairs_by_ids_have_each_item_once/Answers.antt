use Rattle.crush_compare.proofs.IdPairs.{each_item_once}
use Rattle.crush_compare.proofs.law.pairs_by_ids_have_each_item_once.Goals as goal

pub returns : goal.returns
returns c = each_item_once

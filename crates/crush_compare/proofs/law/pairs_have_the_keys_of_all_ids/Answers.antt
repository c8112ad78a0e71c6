use Rattle.crush_compare.proofs.IdPairs.{keys_of_all_ids}
use Rattle.crush_compare.proofs.law.pairs_have_the_keys_of_all_ids.Goals as goal

pub returns : goal.returns
returns c = keys_of_all_ids

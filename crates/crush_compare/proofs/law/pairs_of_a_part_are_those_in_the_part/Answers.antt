use Rattle.crush_compare.proofs.PartPairs.{part_of_pairs}
use Rattle.crush_compare.proofs.law.pairs_of_a_part_are_those_in_the_part.Goals as goal

pub returns : goal.returns
returns c = part_of_pairs

use Rattle.crush_model.proofs.Climbs.{climb-above}
use Rattle.crush_model.proofs.KidSums.{sum_below-kids}
use Rattle.crush_model.proofs.law.sums_are_those_of_items.Goals as goal

pub returns : goal.returns
returns c = record { sums = sum_below-kids; ends = climb-above }

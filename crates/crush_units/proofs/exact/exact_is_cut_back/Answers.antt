use Rattle.crush_units.proofs.ExactWeights.{exact_cut_again}
use Rattle.crush_units.proofs.exact.exact_is_cut_back.Goals as goal

pub returns : goal.returns
returns c = exact_cut_again

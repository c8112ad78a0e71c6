use Rattle.crush_units.proofs.ExactWeights.{exact_read_again}
use Rattle.crush_units.proofs.exact.exact_is_read_back.Goals as goal

pub returns : goal.returns
returns c = exact_read_again

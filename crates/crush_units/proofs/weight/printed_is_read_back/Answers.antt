use Rattle.crush_units.proofs.ReadBack.{read_again}
use Rattle.crush_units.proofs.weight.printed_is_read_back.Goals as goal

pub returns : goal.returns
returns c = read_again

use Rattle.std.proofs.Common.{rules}
use Rattle.crush_units.proofs.weight.Weight.read.Goals as goal

pub returns : goal.returns
returns c = search rules

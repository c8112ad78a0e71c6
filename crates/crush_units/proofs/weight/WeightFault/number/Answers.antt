use Rattle.std.proofs.Common.{rules}
use Rattle.crush_units.proofs.weight.WeightFault.number.Goals as goal

pub returns-in-TooLarge : goal.returns-in-TooLarge
returns-in-TooLarge c = search rules

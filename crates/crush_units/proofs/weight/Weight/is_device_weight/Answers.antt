use Rattle.std.proofs.Common.{rules}
use Rattle.crush_units.proofs.weight.Weight.is_device_weight.Goals as goal

pub returns : goal.returns
returns c = search rules

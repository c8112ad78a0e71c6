use Rattle.std.proofs.Common.{refl}
use Rattle.crush_units.proofs.weight.Weight.from_units.Goals as goal

pub returns : goal.returns
returns c = refl

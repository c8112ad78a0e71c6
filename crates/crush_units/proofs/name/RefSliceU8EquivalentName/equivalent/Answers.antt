use Rattle.std.proofs.Common.{rules}
use Rattle.crush_units.proofs.name.RefSliceU8EquivalentName.equivalent.Goals as goal

pub returns : goal.returns
returns g c = search rules

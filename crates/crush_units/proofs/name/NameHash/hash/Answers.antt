use Rattle.std.proofs.Common.{rules}
use Rattle.crush_units.proofs.name.NameHash.hash.Goals as goal

pub returns : goal.returns
returns g c = search rules

use Rattle.std.proofs.Common.{rules}
use Rattle.crush_units.proofs.name.NamePartialEq.eq.Goals as goal

pub returns : goal.returns
returns g c = search rules

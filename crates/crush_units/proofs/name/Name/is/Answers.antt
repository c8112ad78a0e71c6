use Rattle.std.proofs.Common.{rules}
use Rattle.crush_units.proofs.name.Name.is.Goals as goal

pub returns-clause-value : goal.returns-clause-value
returns-clause-value g c = search rules

use Rattle.std.proofs.Common.{rules}
use Rattle.crush_units.proofs.name.NameFault.number.Goals as goal

pub returns-in-TooLong : goal.returns-in-TooLong
returns-in-TooLong c = search rules

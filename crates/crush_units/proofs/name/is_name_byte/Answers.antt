use Rattle.std.proofs.Common.{rules}
use Rattle.crush_units.proofs.name.is_name_byte.Goals as goal

pub returns-in_default-4 : goal.returns-in_default-4
returns-in_default-4 c = search rules

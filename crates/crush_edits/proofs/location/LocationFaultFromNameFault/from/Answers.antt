use Rattle.std.proofs.Common.{rules}
use Rattle.crush_edits.proofs.location.LocationFaultFromNameFault.from.Goals as goal

pub returns-in_default : goal.returns-in_default
returns-in_default c = search rules

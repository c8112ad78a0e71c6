use Rattle.std.proofs.Common.{rules}
use Rattle.crush_edits.proofs.location.LocationFault.number.Goals as goal

pub returns-in-TooMany : goal.returns-in-TooMany
returns-in-TooMany c = search rules

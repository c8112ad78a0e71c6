use Rattle.std.proofs.Common.{rules}
use Rattle.crush_units.proofs.id.ItemId.number.Goals as goal

pub returns-in-Device-clause-value : goal.returns-in-Device-clause-value
returns-in-Device-clause-value c = search rules

use Rattle.std.proofs.Common.{rules}
use Rattle.crush_units.proofs.id.ItemId.is_same.Goals as goal

pub returns-clause-value : goal.returns-clause-value
returns-clause-value c = search rules

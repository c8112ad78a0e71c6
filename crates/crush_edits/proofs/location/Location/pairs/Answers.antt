use Rattle.std.proofs.Common.{rules}
use Rattle.crush_edits.proofs.location.Location.pairs.Goals as goal

pub returns-clause-value : goal.returns-clause-value
returns-clause-value c = search rules

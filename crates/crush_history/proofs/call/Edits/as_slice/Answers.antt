use Rattle.std.proofs.Common.{rules}
use Rattle.crush_history.proofs.call.Edits.as_slice.Goals as goal

pub returns-clause-value : goal.returns-clause-value
returns-clause-value c = search rules

use Rattle.std.proofs.Common.{rules}
use Rattle.crush_history.proofs.call.Edits.push.Goals as goal

pub returns : goal.returns
returns c = search rules

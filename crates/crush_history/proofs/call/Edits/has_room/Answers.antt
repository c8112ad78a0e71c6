use Rattle.std.proofs.Common.{rules}
use Rattle.crush_history.proofs.call.Edits.has_room.Goals as goal

pub returns : goal.returns
returns c = search rules

use Rattle.crush_since.proofs.SinceItself.{nothing_since_itself}
use Rattle.crush_since.proofs.since.nothing_changes_since_itself.Goals as goal

pub returns : goal.returns
returns c = nothing_since_itself

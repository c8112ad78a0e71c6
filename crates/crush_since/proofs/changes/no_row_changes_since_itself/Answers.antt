use Rattle.crush_since.proofs.ChangesItself.{no_row_since_itself}
use Rattle.crush_since.proofs.changes.no_row_changes_since_itself.Goals as goal

pub returns : goal.returns
returns c = no_row_since_itself

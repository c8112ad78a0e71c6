use Rattle.crush_since.proofs.NamesItself.{nothing_by_names_since_itself}
use Rattle.crush_since.proofs.names.law.nothing_changes_by_names_since_itself.Goals as goal

pub returns : goal.returns
returns c = nothing_by_names_since_itself

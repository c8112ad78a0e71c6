use Rattle.crush_since.proofs.PartRowLaws.{all_changes}
use Rattle.crush_since.proofs.changes.all_changes_are_a_part.Goals as goal

pub returns : goal.returns
returns c = all_changes

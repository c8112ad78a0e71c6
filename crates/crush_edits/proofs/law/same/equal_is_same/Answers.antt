use Rattle.crush_edits.proofs.SameEdits.{same_pair-Decides, same_pairs-Decides, same_edit-Decides}
use Rattle.crush_edits.proofs.law.same.equal_is_same.Goals as goal

pub returns : goal.returns
returns c = record { pairs = same_pair-Decides; locations = same_pairs-Decides; edits = same_edit-Decides }

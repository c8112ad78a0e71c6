use Rattle.crush_edits.proofs.Changes.{class_changes}
use Rattle.crush_edits.proofs.Others.{class_fits}
use Rattle.crush_edits.proofs.law.others.classes_are_set.Goals as goal

pub returns : goal.returns
returns c = record { changes = class_changes; fits = class_fits }

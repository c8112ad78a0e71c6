use Rattle.crush_edits.proofs.Changes.{other_without}
use Rattle.crush_edits.proofs.Others.{remove_lawful, remove_fits}
use Rattle.crush_edits.proofs.law.others.rows_are_taken_out.Goals as goal

pub returns : goal.returns
returns c = record { changes = other_without; lawful = remove_lawful; fits = remove_fits }

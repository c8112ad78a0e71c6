use Rattle.crush_edits.proofs.Edits.{edit_keeps, batch_keeps}
use Rattle.crush_edits.proofs.Made.{made_are_buckets}
use Rattle.crush_edits.proofs.law.edit.edits_keep_lawful.Goals as goal

pub returns : goal.returns
returns c = record { edit = edit_keeps; batch = batch_keeps; made = made_are_buckets }

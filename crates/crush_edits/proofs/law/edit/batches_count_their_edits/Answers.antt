use Rattle.crush_edits.proofs.Batches.{batch_counts, batch_stops}
use Rattle.crush_edits.proofs.law.edit.batches_count_their_edits.Goals as goal

pub returns : goal.returns
returns c = record { counts = batch_counts; stops = batch_stops }

use Rattle.crush_edits.proofs.Others.{added_is_row, added_changes, added_lawful, added_counts, added_fits, full_has_no_room}
use Rattle.crush_edits.proofs.law.others.buckets_are_added.Goals as goal

pub returns : goal.returns
returns c = record { row = added_is_row; changes = added_changes; lawful = added_lawful; counts = added_counts; fits = added_fits; full = full_has_no_room }

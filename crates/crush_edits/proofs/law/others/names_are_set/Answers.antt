use Rattle.crush_edits.proofs.Changes.{other_name, other_swap}
use Rattle.crush_edits.proofs.Others.{name_fits, swap_fits}
use Rattle.crush_edits.proofs.law.others.names_are_set.Goals as goal

pub returns : goal.returns
returns c = record { changes = other_name; fits = name_fits; swap_changes = other_swap; swap_fits = swap_fits }

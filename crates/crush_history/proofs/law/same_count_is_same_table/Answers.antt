use Rattle.crush_history.proofs.Unchanged.{no_change_keeps, same_count_same_table}
use Rattle.crush_history.proofs.law.same_count_is_same_table.Goals as goal

pub returns : goal.returns
returns c = record { call = no_change_keeps; history = same_count_same_table }

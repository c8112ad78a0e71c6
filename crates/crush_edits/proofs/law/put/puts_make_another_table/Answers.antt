use Rattle.crush_edits.proofs.PutLaws.{changes, changes_new}
use Rattle.crush_edits.proofs.law.put.puts_make_another_table.Goals as goal

pub returns : goal.returns
returns c = record { there = changes; new = changes_new }

use Rattle.crush_units.proofs.Appending.{nothing_is_less}
use Rattle.crush_json.proofs.Written.{some_text}
use Rattle.crush_json.proofs.write.tree.write_tree_document.Goals as goal

-- if memory runs out, nothing is written
pub returns-in_default-clause-writes : goal.returns-in_default-clause-writes
returns-in_default-clause-writes g c = λ t stands. nothing_is_less _ _ (some_text _)

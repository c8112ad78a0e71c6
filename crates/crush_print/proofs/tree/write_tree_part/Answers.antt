use Rattle.crush_units.proofs.Appending.{nothing_is_less}
use Rattle.crush_print.proofs.WalkLaws.{tree_part_text_is_some}
use Rattle.crush_print.proofs.tree.write_tree_part.Goals as goal

-- if memory runs out, nothing is written
pub returns-then-is_err-clause-writes : goal.returns-then-is_err-clause-writes
returns-then-is_err-clause-writes g c = λ t stands. nothing_is_less _ _ (tree_part_text_is_some c.args.map.now.setting c.args.part t)

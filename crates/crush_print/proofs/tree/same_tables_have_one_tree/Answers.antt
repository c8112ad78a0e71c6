use Rattle.crush_print.proofs.SameTree.{tree_text-same}
use Rattle.crush_print.proofs.tree.same_tables_have_one_tree.Goals as goal

pub returns : goal.returns
returns c = tree_text-same

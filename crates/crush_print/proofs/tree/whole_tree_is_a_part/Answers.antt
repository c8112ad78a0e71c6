use Rattle.std.proofs.Common.{refl}
use Rattle.crush_print.specs.TreePart.{part_steps}
use Rattle.crush_print.proofs.tree.whole_tree_is_a_part.Goals as goal

pub returns : goal.returns
unfolding part_steps
returns c = λ t. refl

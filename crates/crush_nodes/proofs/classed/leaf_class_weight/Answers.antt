use Rattle.std.proofs.Common.{rules}
use Rattle.crush_nodes.proofs.classed.leaf_class_weight.Goals as goal

pub returns-else-is : goal.returns-else-is
returns-else-is g c = search rules

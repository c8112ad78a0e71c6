use Rattle.std.proofs.Common.{rules}
use Rattle.crush_print.proofs.classes.leaf_weight.Goals as goal

pub returns-else-is : goal.returns-else-is
returns-else-is g c = search rules

use Rattle.std.proofs.Common.{rules}
use Rattle.crush_hierarchy.proofs.hierarchy.renamed.tell_new_name.Goals as goal

pub returns : goal.returns
returns g c = search rules

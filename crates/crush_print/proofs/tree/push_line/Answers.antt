use Rattle.std.proofs.Common.{rules}
use Rattle.crush_print.specs.TreeText.{step_line}
use Rattle.crush_print.proofs.tree.push_line.Goals as goal

pub returns : goal.returns
unfolding step_line
returns c = search rules

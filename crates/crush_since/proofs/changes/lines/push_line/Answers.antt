use Rattle.std.proofs.Common.{rules}
use Rattle.crush_since.specs.ChangeText.{change_line}
use Rattle.crush_since.proofs.changes.lines.push_line.Goals as goal

pub returns : goal.returns
unfolding change_line
returns c = search rules

use Rattle.std.proofs.Common.{rules}
use Rattle.crush_edits.proofs.location.Pair.try_copy.Goals as goal

pub returns : goal.returns
returns c = search rules

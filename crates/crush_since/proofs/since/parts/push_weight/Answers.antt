use Rattle.std.proofs.Common.{rules}
use Rattle.crush_since.proofs.since.parts.push_weight.Goals as goal

pub returns : goal.returns
returns c = search rules

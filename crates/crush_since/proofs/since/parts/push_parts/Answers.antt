use Rattle.std.proofs.Common.{rules}
use Rattle.crush_since.proofs.since.parts.push_parts.Goals as goal

pub returns-in-Some-after-2 : goal.returns-in-Some-after-2
returns-in-Some-after-2 c = search rules

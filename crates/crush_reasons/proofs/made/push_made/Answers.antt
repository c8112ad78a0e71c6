use Rattle.std.proofs.Common.{rules}
use Rattle.crush_reasons.proofs.made.push_made.Goals as goal

pub returns-then-not-makes_more : goal.returns-then-not-makes_more
returns-then-not-makes_more c = search rules

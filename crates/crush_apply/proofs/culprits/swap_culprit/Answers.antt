use Rattle.std.proofs.Common.{rules}
use Rattle.crush_apply.proofs.culprits.swap_culprit.Goals as goal

pub returns-in-Some : goal.returns-in-Some
returns-in-Some g c = search rules

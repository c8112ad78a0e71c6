use Rattle.std.proofs.Common.{arith}
use Rattle.std.proofs.lemmas.Grind.{common_steps}
use Rattle.crush_reasons.proofs.place.push_at_line.Goals as goal

pub returns : goal.returns
returns c = grind (arith, common_steps)

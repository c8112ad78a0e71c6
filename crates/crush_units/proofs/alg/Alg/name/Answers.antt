use Rattle.std.proofs.Common.{rules}
use Rattle.crush_units.proofs.alg.Alg.name.Goals as goal

pub returns-in-Straw2 : goal.returns-in-Straw2
returns-in-Straw2 c = search rules

use Rattle.std.proofs.Common.{rules}
use Rattle.crush_units.proofs.alg.Alg.read.Goals as goal

pub returns-then-eq-2-clause-value : goal.returns-then-eq-2-clause-value
returns-then-eq-2-clause-value c = search rules

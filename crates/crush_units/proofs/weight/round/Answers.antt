use Rattle.std.proofs.Common.{rules}
use Rattle.crush_units.proofs.weight.round.Goals as goal

pub returns-then-units-from : goal.returns-then-units-from
returns-then-units-from c = search rules

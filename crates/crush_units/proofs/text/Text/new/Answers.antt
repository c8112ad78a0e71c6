use Rattle.std.proofs.Common.{rules}
use Rattle.crush_units.proofs.text.Text.new.Goals as goal

pub returns-clause-inside : goal.returns-clause-inside
returns-clause-inside g c = search rules

use Rattle.std.proofs.Common.{rules}
use Rattle.crush_units.proofs.text.Short.as_bytes.Goals as goal

pub returns : goal.returns
returns c = search rules

use Rattle.std.proofs.Common.{rules}
use Rattle.crush_map.proofs.map.CrushMap.kind_of.Goals as goal

pub returns : goal.returns
returns g c = search rules

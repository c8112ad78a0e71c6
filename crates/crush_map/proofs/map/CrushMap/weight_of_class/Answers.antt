use Rattle.std.proofs.Common.{rules}
use Rattle.crush_map.proofs.map.CrushMap.weight_of_class.Goals as goal

pub returns-in_err-locate : goal.returns-in_err-locate
returns-in_err-locate g c = search rules

use Rattle.crush_since.proofs.AlikeLaws.{nothing_stays_where_alike}
use Rattle.crush_since.proofs.names.law.nothing_stays_where_maps_are_alike.Goals as goal

pub returns : goal.returns
returns c = nothing_stays_where_alike

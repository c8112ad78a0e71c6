use Rattle.std.proofs.Common.{List}
use Rattle.crush_model.specs.Table.{Row}
use Rattle.crush_model.specs.Stands.{Stands}
use Rattle.crush_apply.proofs.Ends.{Left}
use Rattle.crush_apply.proofs.route.stops.route_end.Given as goal

-- no stop so far ends the route: the stops that are left decide which one does
abbrev pub invariant-loop-k : goal.invariant-loop-k
invariant-loop-k g l = (t : List Row) → Stands l.hierarchy t → Left t l.at l.stops l.k

use Rattle.std.proofs.Common.{◌≡◌, List, drop}
use Rattle.crush_model.specs.Stands.{Stands}
use Rattle.crush_model.specs.Table.{Row}
use Rattle.crush_apply.specs.Culprit.{end_name}
use Rattle.crush_apply.specs.Stopped.{stops_data}
use Rattle.crush_apply.proofs.route.stops.first_there.Given as goal

-- the stops that are left have the same first name that the table has as all stops
abbrev pub invariant-loop-stop : goal.invariant-loop-stop
invariant-loop-stop g l = (t : List Row) → Stands l.hierarchy t → end_name t (stops_data l.at l.stops) ≡ end_name t (stops_data l.at (drop l.stop-index l.stops))

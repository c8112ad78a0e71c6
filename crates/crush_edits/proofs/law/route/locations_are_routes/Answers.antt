use Rattle.crush_edits.proofs.Routes.{route_fresh, route_next}
use Rattle.crush_edits.proofs.Stops.{location_route, no_stop_named}
use Rattle.crush_edits.proofs.law.route.locations_are_routes.Goals as goal

pub returns : goal.returns
returns c = record { route = location_route; other = no_stop_named; fresh = route_fresh; leads = route_next }

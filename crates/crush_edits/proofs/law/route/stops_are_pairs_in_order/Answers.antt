use Rattle.crush_edits.proofs.Stops.{stops_step, stops_rise, stops_are_pairs}
use Rattle.crush_edits.proofs.law.route.stops_are_pairs_in_order.Goals as goal

pub returns : goal.returns
returns c = record { step = stops_step; rise = stops_rise; pairs = stops_are_pairs }

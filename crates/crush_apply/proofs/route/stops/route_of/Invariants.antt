use Rattle.std.proofs.Common.{◌≤◌, length}
use Rattle.std.specs.Prelude.{All}
use Rattle.crush_apply.specs.Stopped.{IsPairOf}
use Rattle.crush_apply.proofs.Stopped.{Left}
use Rattle.crush_apply.proofs.route.stops.route_of.Given as goal

-- adding the stops of the pairs that are left gives all stops, and there are at most as many stops as pairs so far
abbrev pub invariant-loop-index : goal.invariant-loop-index
invariant-loop-index l = record {
  left : Left l.setting l.pairs l.index l.stops.items;
  pairs : All (IsPairOf l.pairs) l.stops.items;
  few : length l.stops.items ≤ l.index;
}

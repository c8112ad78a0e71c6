use Rattle.std.proofs.Common.{◌≡◌}
use Rattle.crush_reasons.specs.Place.{from_line}
use Rattle.crush_reasons.proofs.place.from_line.Given as goal

abbrev pub invariant-loop-done : goal.invariant-loop-done
invariant-loop-done l = l.rest ≡ from_line l._done l.bytes

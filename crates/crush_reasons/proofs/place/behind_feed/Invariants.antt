use Rattle.std.proofs.Common.{◌≡◌, ◌≤◌, take}
use Rattle.crush_reasons.specs.Place.{behind_feed}
use Rattle.crush_reasons.proofs.place.behind_feed.Given as goal

abbrev pub invariant-loop-byte : goal.invariant-loop-byte
invariant-loop-byte l = record { few : l.behind ≤ l.byte-index; value : l.behind ≡ behind_feed (take l.byte-index l.bytes) }

use Rattle.std.proofs.Common.{◌≡◌, ◌+◌, ◌≤◌, ◌-◌, drop, length}
use Rattle.crush_reasons.specs.Near.{shared}
use Rattle.crush_reasons.proofs.near.shared.Given as goal

abbrev pub invariant-bytes : goal.invariant-bytes
invariant-bytes l = record {
  within : l.count ≤ length l.a;
  same : shared l.a l.b ≡ l.count + shared (drop l.count l.a) (drop l.count l.b);
}

abbrev pub decreases-bytes : goal.decreases-bytes
decreases-bytes l = length l.a - l.count

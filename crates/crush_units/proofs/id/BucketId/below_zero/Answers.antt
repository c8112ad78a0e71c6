use Rattle.std.proofs.Common.{rules}
use Rattle.crush_units.proofs.id.BucketId.below_zero.Goals as goal

pub returns-else-distance-gt0 : goal.returns-else-distance-gt0
returns-else-distance-gt0 c = search rules

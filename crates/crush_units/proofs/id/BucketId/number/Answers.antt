use Rattle.std.proofs.Common.{rules}
use Rattle.crush_units.proofs.id.BucketId.number.Goals as goal

pub returns : goal.returns
returns c = search rules

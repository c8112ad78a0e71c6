use Rattle.crush_plan.proofs.Going.{stays_here, goes_then}
use Rattle.crush_plan.proofs.moves.place_buckets.Goals as goal

pub loop-bucket-init : goal.loop-bucket-init
loop-bucket-init g c = stays_here _

pub loop-bucket-preserved : goal.loop-bucket-preserved
loop-bucket-preserved g c = goes_then _ _ _ c.loop-bucket.invariant c.in_ok-place_bucket.ensures

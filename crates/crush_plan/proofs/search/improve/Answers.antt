use Rattle.crush_plan.proofs.Going.{stays_here, goes_then}
use Rattle.crush_plan.proofs.search.improve.Goals as goal

pub loop-round-init : goal.loop-round-init
loop-round-init g c = stays_here _

pub loop-round-preserved : goal.loop-round-preserved
loop-round-preserved g c = goes_then _ _ _ c.loop-round.invariant c.in_ok-after.ensures

use Rattle.crush_plan.proofs.Going.{stays_here, goes_then}
use Rattle.crush_plan.proofs.weights.set_one_by_one.Goals as goal

pub loop-change-init : goal.loop-change-init
loop-change-init g c = stays_here _

pub loop-change-preserved : goal.loop-change-preserved
loop-change-preserved g c = goes_then _ _ _ c.loop-change.invariant c.in_ok-set_weight.ensures

use Rattle.crush_plan.proofs.Going.{stays_here, goes_then}
use Rattle.crush_plan.proofs.weights.set_below.Goals as goal

pub loop-subtree-init : goal.loop-subtree-init
loop-subtree-init g c = stays_here _

pub loop-subtree-preserved : goal.loop-subtree-preserved
loop-subtree-preserved g c = goes_then _ _ _ c.loop-subtree.invariant c.in_ok-reweight_below.ensures

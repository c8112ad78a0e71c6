use Rattle.crush_plan.proofs.Going.{stays_here, goes_then}
use Rattle.crush_plan.proofs.classes.make_steps.Goals as goal

pub loop-step-init : goal.loop-step-init
loop-step-init g c = stays_here _

pub loop-step-preserved : goal.loop-step-preserved
loop-step-preserved g c = goes_then _ _ _ c.loop-step.invariant c.in_ok-make_step.ensures

use Rattle.crush_plan.proofs.Going.{stays_here, goes_then}
use Rattle.crush_plan.proofs.renames.rename_chains.Goals as goal

pub loop-pair-init : goal.loop-pair-init
loop-pair-init g c = stays_here _

pub loop-pair-preserved : goal.loop-pair-preserved
loop-pair-preserved g c = goes_then _ _ _ c.loop-pair.invariant c.in_ok-rename_chain.ensures

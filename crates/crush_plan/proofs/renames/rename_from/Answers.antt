use Rattle.crush_plan.proofs.Going.{stays_here, goes_then}
use Rattle.crush_plan.proofs.renames.rename_from.Goals as goal

pub loop-turn-init : goal.loop-turn-init
loop-turn-init g c = stays_here _

pub loop-turn-preserved : goal.loop-turn-preserved
loop-turn-preserved g c = goes_then _ _ _ c.loop-turn.invariant c.in_ok-rename_one.ensures

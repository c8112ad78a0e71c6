use Rattle.std.specs.Prelude.{length}
use Rattle.crush_model.specs.Forest.{ForestData}
use Rattle.crush_apply.specs.UndoLog.{RollsBack, CanRollBack}
use Rattle.crush_apply.proofs.undo_log.roll_back.Given as goal

abbrev pub invariant-loop-undo : goal.invariant-loop-undo
invariant-loop-undo g l = CanRollBack l.log.items l.hierarchy
    × ((f : ForestData) → RollsBack l.fn.log.items l.fn.hierarchy f → RollsBack l.log.items l.hierarchy f)

abbrev pub decreases-loop-undo : goal.decreases-loop-undo
decreases-loop-undo g l = length l.log.items

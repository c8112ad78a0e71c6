use Rattle.crush_plan.specs.Draft.{GoesOn}
use Rattle.crush_plan.proofs.renames.rename_cycles.Given as goal

abbrev pub invariant-loop-pair : goal.invariant-loop-pair
invariant-loop-pair g l = GoesOn l.goal l.fn.draft l.draft

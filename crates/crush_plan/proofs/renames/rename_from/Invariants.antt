use Rattle.crush_plan.specs.Draft.{GoesOn}
use Rattle.crush_plan.proofs.renames.rename_from.Given as goal

abbrev pub invariant-loop-turn : goal.invariant-loop-turn
invariant-loop-turn g l = GoesOn l.goal l.fn.draft l.draft

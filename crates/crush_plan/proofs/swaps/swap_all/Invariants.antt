use Rattle.crush_plan.specs.Draft.{GoesOn}
use Rattle.crush_plan.proofs.swaps.swap_all.Given as goal

abbrev pub invariant-loop-pair : goal.invariant-loop-pair
invariant-loop-pair g l = GoesOn l.goal l.fn.draft l.draft

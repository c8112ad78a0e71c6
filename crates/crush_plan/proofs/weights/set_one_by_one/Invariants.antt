use Rattle.crush_plan.specs.Draft.{GoesOn}
use Rattle.crush_plan.proofs.weights.set_one_by_one.Given as goal

abbrev pub invariant-loop-change : goal.invariant-loop-change
invariant-loop-change g l = GoesOn l.goal l.fn.draft l.draft

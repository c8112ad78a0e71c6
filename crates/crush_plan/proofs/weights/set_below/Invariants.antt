use Rattle.crush_plan.specs.Draft.{GoesOn}
use Rattle.crush_plan.proofs.weights.set_below.Given as goal

abbrev pub invariant-loop-subtree : goal.invariant-loop-subtree
invariant-loop-subtree g l = GoesOn l.goal l.fn.draft l.draft

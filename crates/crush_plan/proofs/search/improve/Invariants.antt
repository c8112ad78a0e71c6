use Rattle.crush_plan.specs.Draft.{GoesOn}
use Rattle.crush_plan.proofs.search.improve.Given as goal

abbrev pub invariant-loop-round : goal.invariant-loop-round
invariant-loop-round g l = GoesOn l.goal l.fn.draft l.draft

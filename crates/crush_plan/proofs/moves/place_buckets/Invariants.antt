use Rattle.crush_plan.specs.Draft.{GoesOn}
use Rattle.crush_plan.proofs.moves.place_buckets.Given as goal

abbrev pub invariant-loop-bucket : goal.invariant-loop-bucket
invariant-loop-bucket g l = GoesOn l.goal l.fn.draft l.draft

use Rattle.crush_plan.specs.Draft.{GoesOn}
use Rattle.crush_plan.proofs.classes.make_steps.Given as goal

abbrev pub invariant-loop-step : goal.invariant-loop-step
invariant-loop-step g l = GoesOn l.goal l.fn.draft l.draft

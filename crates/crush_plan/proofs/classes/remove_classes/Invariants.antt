use Rattle.crush_plan.specs.Draft.{GoesOn}
use Rattle.crush_plan.proofs.classes.remove_classes.Given as goal

abbrev pub invariant-loop-device : goal.invariant-loop-device
invariant-loop-device g l = GoesOn l.goal l.fn.draft l.draft

use Rattle.crush_plan.specs.Draft.{GoesOn}
use Rattle.crush_plan.proofs.devices.add_devices.Given as goal

abbrev pub invariant-loop-device : goal.invariant-loop-device
invariant-loop-device g l = GoesOn l.goal l.fn.draft l.draft

use Rattle.std.proofs.Common.{◌≡◌, drop, map}
use Rattle.crush_print.specs.WalkStep.{walk_step_data}
use Rattle.crush_reasons.specs.Near.{first_near}
use Rattle.crush_reasons.proofs.near.first_near.Given as goal

abbrev pub invariant-loop-step : goal.invariant-loop-step
invariant-loop-step l = first_near l.name (map walk_step_data l.steps) ≡ first_near l.name (map walk_step_data (drop l.step-index l.steps))

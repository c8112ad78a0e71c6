use Rattle.std.proofs.Common.{◌≡◌, drop}
use Rattle.crush_builder.specs.Built.{Draft}
use Rattle.crush_builder.specs.Building.{IsDraft}
use Rattle.crush_builder.specs.Rules.{steps_fault}
use Rattle.crush_builder.proofs.builder.MapBuilder.steps_fault.Given as goal

-- no step before `place` has a fault, so the first fault of all steps is that of the steps from `place` on
abbrev pub invariant-loop-place : goal.invariant-loop-place
invariant-loop-place g l = (d : Draft) → IsDraft l.self d → steps_fault d 0 l.steps ≡ steps_fault d l.place (drop l.place l.steps)

use Rattle.std.proofs.Common.{◌≡◌, take}
use Rattle.std.specs.Prelude.{map}
use Rattle.crush_edits.specs.SettingSeen.{step_data}
use Rattle.crush_builder.specs.Built.{Draft}
use Rattle.crush_builder.specs.Building.{IsDraft}
use Rattle.crush_builder.specs.Rules.{kept_step}
use Rattle.crush_builder.proofs.builder.MapBuilder.kept_steps.Given as goal

-- the steps before the index have been stored
abbrev pub invariant-loop-step : goal.invariant-loop-step
invariant-loop-step g l = (d : Draft) → IsDraft l.self d → map step_data l.kept.items ≡ map (kept_step d) (take l.step-index l.steps)

use Rattle.std.proofs.Common.{◌≡◌, ◌++◌, List, map, take}
use Rattle.std.specs.Prelude.{None}
use Rattle.crush_print.specs.WalkStep.{walk_step_data}
use Rattle.crush_items.specs.Tree.{WalkStepData}
use Rattle.crush_print.specs.TreePart.{down_to}
use Rattle.crush_print.proofs.part.steps_down_to.Given as goal

-- the steps that were kept so far are right, whatever steps follow
abbrev pub invariant-loop-step : goal.invariant-loop-step
invariant-loop-step g l = (rest : List WalkStepData) → down_to l.kind None (map walk_step_data (take l.step-index l.steps) ++ rest) ≡ map walk_step_data l.kept.items ++ down_to l.kind l.closed rest

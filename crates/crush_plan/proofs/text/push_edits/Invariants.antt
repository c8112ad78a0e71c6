use Rattle.std.proofs.Common.{◌≡◌, ◌++◌, take}
use Rattle.std.specs.Prelude.{flat_map}
use Rattle.crush_plan.specs.PlanText.{script_line}
use Rattle.crush_plan.proofs.text.push_edits.Given as goal

abbrev pub invariant-loop-edit : goal.invariant-loop-edit
invariant-loop-edit l = l.text.items ≡ l.fn.text.items ++ flat_map script_line (take l.edit-index l.edits)

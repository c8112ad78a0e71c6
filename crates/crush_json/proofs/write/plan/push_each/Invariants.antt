use Rattle.crush_json.specs.PlanDocument.{command}
use Rattle.json.specs.Tree.{json_tokens}
use Rattle.std.proofs.Common.{take, ◌++◌, ◌≡◌}
use Rattle.std.specs.Prelude.{flat_map}
use Rattle.crush_json.proofs.write.plan.push_each.Given as goal

abbrev pub invariant-loop-edit : goal.invariant-loop-edit
invariant-loop-edit l = l.out ≡ l.fn.out ++ flat_map (λ e. json_tokens (command e)) (take l.edit-index l.edits)

use Rattle.crush_json.specs.Tokens.{tokens_of_all}
use Rattle.crush_json.specs.TreeDocument.{node_if}
use Rattle.crush_json.specs.ItemDocuments.{AreBuckets}
use Rattle.crush_model.specs.Table.{Row}
use Rattle.crush_print.specs.WalkStep.{walk_step_data}
use Rattle.std.proofs.Common.{List, take, ◌++◌, ◌≡◌}
use Rattle.std.specs.Prelude.{flat_map}
use Rattle.crush_json.proofs.tree.push_each.Given as goal

abbrev pub invariant-loop-step : goal.invariant-loop-step
invariant-loop-step g l = (t : List Row) → AreBuckets (λ b. b.now) t l.buckets → l.out ≡ l.fn.out ++ flat_map (λ x. tokens_of_all (node_if l.setting t l.stray (walk_step_data x))) (take l.step-index l.steps)

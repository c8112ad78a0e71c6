use Rattle.crush_json.proofs.Listed.{array_done, flattened_seen}
use Rattle.crush_json.specs.TreeDocument.{node_documents, node_if}
use Rattle.crush_print.specs.WalkStep.{walk_step_data}
use Rattle.json.specs.Token.{Token}
use Rattle.std.proofs.Common.{List, ap, map, ◌++◌, ◌∙◌}
use Rattle.crush_json.proofs.tree.push_nodes.Goals as goal

pub returns : goal.returns
unfolding node_documents
returns g c = λ t are.
    array_done (node_documents c.args.setting.now t c.args.stray (map walk_step_data c.args.steps.now)) c.end_array.result c.args.out.now c.begin_array.new.self c.push_each.new.out c.end_array.new.self c.in_ok-begin_array.ensures
    (c.in_ok-push_each.ensures t are ∙ ap (λ (l : List Token). c.begin_array.new.self ++ l) (flattened_seen walk_step_data (node_if c.args.setting.now t c.args.stray) c.args.steps.now)) c.end_array.ensures

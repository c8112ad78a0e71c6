use Rattle.crush_json.proofs.Chains.{as_told, then}
use Rattle.crush_json.specs.Tokens.{tokens_of}
use Rattle.crush_json.specs.TreeDocument.{node_documents, tree_document}
use Rattle.crush_json.specs.Values.{list}
use Rattle.crush_print.specs.WalkStep.{walk_step_data}
use Rattle.json.specs.Token.{Token, begin_object, end_object, key}
use Rattle.std.proofs.Common.{List, [], map, refl, ◌++◌, ◌∷◌}
use Rattle.std.specs.Prelude.{codes, false, true}
use Rattle.crush_json.proofs.tree.push_tree.Goals as goal

pub returns : goal.returns
unfolding tree_document
returns g c = λ t are.
    let r = c.end_object.result in
    let opens : List Token = begin_object ∷ [] in
    let first : List Token = key (codes "nodes") ∷ [] in
    let nodes : List Token = tokens_of (list (node_documents c.args.setting.now t false (map walk_step_data c.args.steps.now))) in
    let second : List Token = key (codes "stray") ∷ [] in
    let stray : List Token = tokens_of (list (node_documents c.args.setting.now t true (map walk_step_data c.args.steps.now))) in
    let closes : List Token = end_object ∷ [] in
    as_told r c.args.out.now c.end_object.new.self (opens ++ (first ++ (nodes ++ (second ++ (stray ++ closes))))) (tokens_of (tree_document c.args.setting.now t (map walk_step_data c.args.steps.now)))
    (then r c.args.out.now c.begin_object.new.self c.end_object.new.self opens (first ++ (nodes ++ (second ++ (stray ++ closes)))) c.in_ok-begin_object.ensures (then r c.begin_object.new.self c.key.new.self c.end_object.new.self first (nodes ++ (second ++ (stray ++ closes))) c.in_ok-key.ensures (then r c.key.new.self c.push_nodes.new.out c.end_object.new.self nodes (second ++ (stray ++ closes)) (c.in_ok-push_nodes.ensures t are) (then r c.push_nodes.new.out c.key-2.new.self c.end_object.new.self second (stray ++ closes) c.in_ok-key-2.ensures (then r c.key-2.new.self c.push_nodes-2.new.out c.end_object.new.self stray closes (c.in_ok-push_nodes-2.ensures t are) c.end_object.ensures)))))
    refl

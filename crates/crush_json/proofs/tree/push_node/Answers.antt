use Rattle.crush_json.proofs.Chains.{as_told, then}
use Rattle.crush_json.proofs.TreeLaws.{node_told}
use Rattle.crush_json.specs.Tokens.{children_tokens, item_tokens, member_tokens, text_tokens_if, tokens_of}
use Rattle.crush_json.specs.TreeDocument.{node_document}
use Rattle.crush_json.specs.Values.{natural}
use Rattle.crush_nodes.specs.SeenView.{view_data}
use Rattle.json.specs.Token.{Token, begin_object, end_object}
use Rattle.std.proofs.Common.{List, [], ap, ◌++◌, ◌∙◌, ◌∷◌}
use Rattle.std.specs.Prelude.{codes}
use Rattle.crush_json.proofs.tree.push_node.Goals as goal

pub returns : goal.returns
returns g c = λ t are.
    let r = c.end_object.result in
    let v = view_data c.args.item.now in
    let opens : List Token = begin_object ∷ [] in
    let children : List Token = children_tokens t v.id in
    let depth : List Token = member_tokens (codes "depth") (natural c.args.depth) in
    let class : List Token = text_tokens_if (codes "device_class") v.class in
    let told : List Token = item_tokens c.args.setting.now v in
    let closes : List Token = end_object ∷ [] in
    as_told r c.args.out.now c.end_object.new.self (opens ++ (children ++ (depth ++ (class ++ (told ++ closes))))) (tokens_of (node_document c.args.setting.now t c.args.depth v))
    (then r c.args.out.now c.begin_object.new.self c.end_object.new.self opens (children ++ (depth ++ (class ++ (told ++ closes)))) c.in_ok-begin_object.ensures (then r c.begin_object.new.self c.push_children.new.out c.end_object.new.self children (depth ++ (class ++ (told ++ closes))) (c.in_ok-push_children.ensures t are) (then r c.push_children.new.out c.natural.new.self c.end_object.new.self depth (class ++ (told ++ closes)) c.in_ok-natural.ensures (then r c.natural.new.self c.text_if.new.self c.end_object.new.self class (told ++ closes) c.in_ok-text_if.ensures (then r c.text_if.new.self c.push_item.new.out c.end_object.new.self told closes c.in_ok-push_item.ensures c.end_object.ensures)))))
    (node_told c.args.setting.now t c.args.depth v)

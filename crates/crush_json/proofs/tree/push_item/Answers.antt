use Rattle.crush_json.proofs.Chains.{as_told, then}
use Rattle.crush_json.specs.Tokens.{item_tokens, member_tokens}
use Rattle.crush_json.specs.Values.{natural, whole}
use Rattle.crush_nodes.specs.SeenView.{view_data}
use Rattle.crush_units.specs.Id.{item_number}
use Rattle.json.specs.Token.{Token}
use Rattle.serde_json.specs.Data.{string}
use Rattle.std.proofs.Common.{List, ◌++◌}
use Rattle.std.specs.Prelude.{codes}
use Rattle.crush_json.proofs.tree.push_item.Goals as goal

pub returns : goal.returns
returns c =
    let r = c.natural-2.result in
    let v = view_data c.args.item.now in
    let id : List Token = member_tokens (codes "id") (whole (item_number v.id)) in
    let name : List Token = member_tokens (codes "name") (string v.name) in
    let kind : List Token = member_tokens (codes "type") (string c.type_name.result.now) in
    let number : List Token = member_tokens (codes "type_id") (natural c.number.result) in
    let weight : List Token = member_tokens (codes "weight") (natural c.units.result) in
    as_told r c.args.out.now c.natural-2.new.self (id ++ (name ++ (kind ++ (number ++ weight)))) (item_tokens c.args.setting.now v)
    (then r c.args.out.now c.id.new.self c.natural-2.new.self id (name ++ (kind ++ (number ++ weight))) c.in_ok-id.ensures (then r c.id.new.self c.text.new.self c.natural-2.new.self name (kind ++ (number ++ weight)) c.in_ok-text.ensures (then r c.text.new.self c.text-2.new.self c.natural-2.new.self kind (number ++ weight) c.in_ok-text-2.ensures (then r c.text-2.new.self c.natural.new.self c.natural-2.new.self number weight c.in_ok-natural.ensures c.natural-2.ensures))))
    (λ i. member_tokens (codes "id") (whole (item_number v.id)) ++ (member_tokens (codes "name") (string v.name) ++ (member_tokens (codes "type") (string (c.type_name.ensures i)) ++ (member_tokens (codes "type_id") (natural (c.number.ensures.value i)) ++ member_tokens (codes "weight") (natural (c.units.ensures.value i))))))

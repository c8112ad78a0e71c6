use Rattle.crush_json.proofs.Chains.{then, as_told}
use Rattle.crush_json.specs.Tokens.{member_tokens}
use Rattle.crush_json.specs.Values.{natural}
use Rattle.crush_nodes.specs.SeenView.{view_data}
use Rattle.crush_print.specs.MapText.{kind_text}
use Rattle.json.specs.Token.{Token}
use Rattle.serde_json.specs.Data.{string}
use Rattle.std.proofs.Common.{List, ◌++◌}
use Rattle.std.specs.Prelude.{codes}
use Rattle.crush_json.proofs.buckets.push_kind.Goals as goal

pub returns : goal.returns
returns c =
    let r = c.text-2.result in
    let v = view_data c.args.item.now in
    let told = c.kind_name.ensures in
    let name : List Token = member_tokens (codes "name") (string v.name) in
    let number : List Token = member_tokens (codes "type_id") (natural c.number.result) in
    let kind : List Token = member_tokens (codes "type_name") (string c.kind_name.result.now) in
    as_told r c.args.out.now c.text-2.new.self (name ++ (number ++ kind)) (member_tokens (codes "name") (string v.name) ++ member_tokens (codes "type_id") (natural v.kind) ++ member_tokens (codes "type_name") (string (kind_text c.args.setting.now v.kind)))
    (then r c.args.out.now c.text.new.self c.text-2.new.self name (number ++ kind) c.in_ok-text.ensures (then r c.text.new.self c.natural.new.self c.text-2.new.self number kind c.in_ok-natural.ensures c.text-2.ensures))
    (λ i. member_tokens (codes "name") (string v.name) ++ (member_tokens (codes "type_id") (natural (c.number.ensures.value i)) ++ member_tokens (codes "type_name") (string (told i))))

use Rattle.crush_items.specs.ItemData.{ItemData}
use Rattle.crush_items.specs.SeenItem.{seen_data}
use Rattle.crush_json.proofs.Chains.{as_told, then}
use Rattle.crush_json.proofs.SinceLaws.{seen_told}
use Rattle.crush_json.specs.ChangeDocument.{seen_document}
use Rattle.crush_json.specs.PairDocument.{class_ids_tokens_if, seen_entry}
use Rattle.crush_json.specs.Tokens.{member_tokens, tokens_of}
use Rattle.crush_json.specs.Tokens.{text_tokens_if}
use Rattle.crush_json.specs.Values.{natural}
use Rattle.crush_nodes.specs.Seen.{shadow_data}
use Rattle.json.specs.Token.{Token, begin_object, end_object}
use Rattle.serde_json.specs.Data.{string}
use Rattle.std.proofs.Common.{List, [], ◌∷◌, ◌++◌, ◌∙◌, map}
use Rattle.std.specs.Option.{option_map}
use Rattle.std.specs.Prelude.{codes}
use Rattle.crush_json.proofs.changes.push_seen.Goals as goal

pub returns : goal.returns
returns g c =
    let r = c.end_object.result in
    let x : ItemData = seen_data c.args.item.now in
    let ids = map shadow_data c.args.class_ids.now in
    let opens : List Token = begin_object ∷ [] in
    let alg : List Token = text_tokens_if (codes "alg") (option_map (λ name. name.now) c.alg_name.result) in
    let class : List Token = text_tokens_if (codes "class") x.view.class in
    let numbers : List Token = class_ids_tokens_if x.view.id ids in
    let name : List Token = member_tokens (codes "name") (string x.view.name) in
    let parent : List Token = text_tokens_if (codes "parent") x.holder in
    let kind : List Token = member_tokens (codes "type") (string c.type_name.result.now) in
    let weight : List Token = member_tokens (codes "weight") (natural c.units.result) in
    let closes : List Token = end_object ∷ [] in
    as_told r c.args.out.now c.end_object.new.self (opens ++ (alg ++ (class ++ (numbers ++ (name ++ (parent ++ (kind ++ (weight ++ closes)))))))) (tokens_of (seen_document c.args.setting.now (seen_entry x ids)))
    (then r c.args.out.now c.begin_object.new.self c.end_object.new.self opens (alg ++ (class ++ (numbers ++ (name ++ (parent ++ (kind ++ (weight ++ closes))))))) c.in_ok-begin_object.ensures (then r c.begin_object.new.self c.text_if.new.self c.end_object.new.self alg (class ++ (numbers ++ (name ++ (parent ++ (kind ++ (weight ++ closes)))))) c.in_ok-text_if.ensures (then r c.text_if.new.self c.text_if-2.new.self c.end_object.new.self class (numbers ++ (name ++ (parent ++ (kind ++ (weight ++ closes))))) c.in_ok-text_if-2.ensures (then r c.text_if-2.new.self c.push_class_ids_if.new.out c.end_object.new.self numbers (name ++ (parent ++ (kind ++ (weight ++ closes)))) c.in_ok-push_class_ids_if.ensures (then r c.push_class_ids_if.new.out c.text.new.self c.end_object.new.self name (parent ++ (kind ++ (weight ++ closes))) c.in_ok-text.ensures (then r c.text.new.self c.text_if-3.new.self c.end_object.new.self parent (kind ++ (weight ++ closes)) c.in_ok-text_if-3.ensures (then r c.text_if-3.new.self c.text-2.new.self c.end_object.new.self kind (weight ++ closes) c.in_ok-text-2.ensures (then r c.text-2.new.self c.natural.new.self c.end_object.new.self weight closes c.in_ok-natural.ensures c.end_object.ensures))))))))
    ((λ i. begin_object ∷ (text_tokens_if (codes "alg") (c.alg_name.ensures i) ++ (class ++ (numbers ++ (name ++ (parent ++ (member_tokens (codes "type") (string (c.type_name.ensures i)) ++ (member_tokens (codes "weight") (natural (c.units.ensures.value i)) ++ closes))))))))
    ∙ seen_told c.args.setting.now (seen_entry x ids))

use Rattle.crush_json.proofs.Chains.{then, as_told}
use Rattle.crush_json.specs.MapDocument.{bucket_document}
use Rattle.crush_json.specs.ItemDocuments.{placed_documents}
use Rattle.crush_nodes.specs.Seen.{items_of}
use Rattle.crush_json.specs.Tokens.{member_tokens, tokens_of}
use Rattle.crush_json.specs.Values.{natural, whole, list}
use Rattle.crush_nodes.specs.SeenView.{view_data}
use Rattle.crush_print.specs.MapText.{kind_text}
use Rattle.crush_units.specs.Id.{item_number}
use Rattle.json.specs.Token.{Token, begin_object, end_object}
use Rattle.json.specs.Token.{key}
use Rattle.serde_json.specs.Data.{string, object, member, no_members}
use Rattle.std.proofs.Common.{List, [], ◌∷◌, ◌++◌}
use Rattle.std.specs.Prelude.{codes}
use Rattle.crush_json.proofs.buckets.push_view.Goals as goal

pub returns : goal.returns
unfolding bucket_document
returns g c =
    let r = c.end_object.result in
    let v = view_data c.args.bucket.now in
    let opens : List Token = begin_object ∷ [] in
    let alg : List Token = member_tokens (codes "alg") (string c.alg_name.result.now) in
    let hash : List Token = member_tokens (codes "hash") (string (codes "rjenkins1")) in
    let id : List Token = member_tokens (codes "id") (whole (item_number v.id)) in
    let items_key : List Token = key (codes "items") ∷ [] in
    let items : List Token = tokens_of (list (placed_documents 0 (items_of c.args.items.now))) in
    let kind : List Token = member_tokens (codes "name") (string v.name) ++ member_tokens (codes "type_id") (natural v.kind) ++ member_tokens (codes "type_name") (string (kind_text c.args.setting.now v.kind)) in
    let weight : List Token = member_tokens (codes "weight") (natural c.units.result) in
    let closes : List Token = end_object ∷ [] in
    as_told r c.args.out.now c.end_object.new.self (opens ++ (alg ++ (hash ++ (id ++ (items_key ++ (items ++ (kind ++ (weight ++ closes)))))))) (tokens_of (bucket_document (kind_text c.args.setting.now v.kind) (placed_documents 0 (items_of c.args.items.now)) v))
    (then r c.args.out.now c.begin_object.new.self c.end_object.new.self opens (alg ++ (hash ++ (id ++ (items_key ++ (items ++ (kind ++ (weight ++ closes))))))) c.in_ok-begin_object.ensures (then r c.begin_object.new.self c.text.new.self c.end_object.new.self alg (hash ++ (id ++ (items_key ++ (items ++ (kind ++ (weight ++ closes)))))) c.in_ok-text.ensures (then r c.text.new.self c.text-2.new.self c.end_object.new.self hash (id ++ (items_key ++ (items ++ (kind ++ (weight ++ closes))))) c.in_ok-text-2.ensures (then r c.text-2.new.self c.id.new.self c.end_object.new.self id (items_key ++ (items ++ (kind ++ (weight ++ closes)))) c.in_ok-id.ensures (then r c.id.new.self c.key.new.self c.end_object.new.self items_key (items ++ (kind ++ (weight ++ closes))) c.in_ok-key.ensures (then r c.key.new.self c.push_items.new.out c.end_object.new.self items (kind ++ (weight ++ closes)) c.in_ok-push_items.ensures (then r c.push_items.new.out c.push_kind.new.out c.end_object.new.self kind (weight ++ closes) c.in_ok-push_kind.ensures (then r c.push_kind.new.out c.natural.new.self c.end_object.new.self weight closes c.in_ok-natural.ensures c.end_object.ensures))))))))
    (λ i. tokens_of (object (member (codes "alg") (string (c.alg_name.ensures i)) (member (codes "hash") (string (codes "rjenkins1")) (member (codes "id") (whole (item_number v.id))
    (member (codes "items") (list (placed_documents 0 (items_of c.args.items.now))) (member (codes "name") (string v.name) (member (codes "type_id") (natural v.kind)
    (member (codes "type_name") (string (kind_text c.args.setting.now v.kind)) (member (codes "weight") (natural (c.units.ensures.value i)) no_members))))))))))

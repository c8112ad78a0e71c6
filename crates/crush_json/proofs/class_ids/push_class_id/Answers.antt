use Rattle.crush_json.proofs.Chains.{as_told, then}
use Rattle.crush_json.specs.ClassIds.{class_id_document}
use Rattle.crush_json.specs.Tokens.{member_tokens, tokens_of}
use Rattle.crush_json.specs.Values.{whole}
use Rattle.crush_nodes.specs.Seen.{shadow_data}
use Rattle.crush_units.specs.Id.{bucket_number, item_number}
use Rattle.crush_units.specs.declared.id.ItemId.TheVariants.{Bucket}
use Rattle.json.specs.Token.{Token, begin_object, end_object}
use Rattle.serde_json.specs.Data.{object, member, no_members, string}
use Rattle.std.proofs.Common.{List, [], ◌∷◌, ◌++◌}
use Rattle.std.specs.Prelude.{codes}
use Rattle.crush_json.proofs.class_ids.push_class_id.Goals as goal

pub returns : goal.returns
unfolding class_id_document
returns g c =
    let r = c.end_object.result in
    let opens : List Token = begin_object ∷ [] in
    let class : List Token = member_tokens (codes "class") (string c.as_str.result.now) in
    let number : List Token = member_tokens (codes "id") (whole (item_number (Bucket c.args.id.now.id))) in
    let closes : List Token = end_object ∷ [] in
    as_told r c.args.out.now c.end_object.new.self (opens ++ (class ++ (number ++ closes))) (tokens_of (class_id_document (shadow_data c.args.id.now)))
    (then r c.args.out.now c.begin_object.new.self c.end_object.new.self opens (class ++ (number ++ closes)) c.in_ok-begin_object.ensures (then r c.begin_object.new.self c.text.new.self c.end_object.new.self class (number ++ closes) c.in_ok-text.ensures (then r c.text.new.self c.id.new.self c.end_object.new.self number closes c.in_ok-id.ensures c.end_object.ensures)))
    (λ i. tokens_of (object (member (codes "class") (string (c.as_str.ensures.value i)) (member (codes "id") (whole (bucket_number c.args.id.now.id)) no_members))))

use Rattle.crush_json.proofs.Chains.{then, as_told}
use Rattle.crush_json.specs.MapDocument.{item_document}
use Rattle.crush_json.specs.Tokens.{member_tokens, tokens_of}
use Rattle.crush_json.specs.Values.{natural, whole}
use Rattle.crush_nodes.specs.SeenView.{view_data}
use Rattle.crush_units.specs.Id.{item_number}
use Rattle.json.specs.Token.{Token, begin_object, end_object}
use Rattle.serde_json.specs.Data.{object, member, no_members}
use Rattle.std.proofs.Common.{List, [], ◌∷◌, ◌++◌}
use Rattle.std.specs.Prelude.{codes}
use Rattle.crush_json.proofs.buckets.push_item_view.Goals as goal

pub returns : goal.returns
unfolding item_document
returns c =
    let r = c.end_object.result in
    let v = view_data c.args.item.now in
    let opens : List Token = begin_object ∷ [] in
    let id : List Token = member_tokens (codes "id") (whole (item_number v.id)) in
    let pos : List Token = member_tokens (codes "pos") (natural c.args.place) in
    let weight : List Token = member_tokens (codes "weight") (natural c.units.result) in
    let closes : List Token = end_object ∷ [] in
    as_told r c.args.out.now c.end_object.new.self (opens ++ (id ++ (pos ++ (weight ++ closes)))) (tokens_of (item_document c.args.place v))
    (then r c.args.out.now c.begin_object.new.self c.end_object.new.self opens (id ++ (pos ++ (weight ++ closes))) c.in_ok-begin_object.ensures (then r c.begin_object.new.self c.id.new.self c.end_object.new.self id (pos ++ (weight ++ closes)) c.in_ok-id.ensures (then r c.id.new.self c.natural.new.self c.end_object.new.self pos (weight ++ closes) c.in_ok-natural.ensures (then r c.natural.new.self c.natural-2.new.self c.end_object.new.self weight closes c.in_ok-natural-2.ensures c.end_object.ensures))))
    (λ i. tokens_of (object (member (codes "id") (whole (item_number v.id)) (member (codes "pos") (natural c.args.place) (member (codes "weight") (natural (c.units.ensures.value i)) no_members)))))

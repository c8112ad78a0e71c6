use Rattle.crush_json.proofs.Chains.{as_told, then}
use Rattle.crush_json.specs.PlanDocument.{aside_document}
use Rattle.crush_json.specs.Tokens.{member_tokens}
use Rattle.crush_json.specs.Values.{natural}
use Rattle.json.specs.Token.{Token, begin_object, end_object, key}
use Rattle.std.proofs.Common.{List, [], ◌∷◌, ◌++◌, refl}
use Rattle.std.specs.Prelude.{codes}
use Rattle.crush_json.proofs.write.plan.push_aside.Goals as goal

pub returns : goal.returns
unfolding aside_document
returns c =
    let r = c.end_object.result in
    let name : List Token = key (codes "aside") ∷ [] in
    let opens : List Token = begin_object ∷ [] in
    let class_ids : List Token = member_tokens (codes "class_ids") (natural c.args.class_ids) in
    let ids : List Token = member_tokens (codes "ids") (natural c.args.ids) in
    let closes : List Token = end_object ∷ [] in
    as_told r c.args.out.now c.end_object.new.self (name ++ (opens ++ (class_ids ++ (ids ++ closes)))) (member_tokens (codes "aside") (aside_document c.args.ids c.args.class_ids))
    (then r c.args.out.now c.key.new.self c.end_object.new.self name (opens ++ (class_ids ++ (ids ++ closes))) c.in_ok-key.ensures (then r c.key.new.self c.begin_object.new.self c.end_object.new.self opens (class_ids ++ (ids ++ closes)) c.in_ok-begin_object.ensures (then r c.begin_object.new.self c.natural.new.self c.end_object.new.self class_ids (ids ++ closes) c.in_ok-natural.ensures (then r c.natural.new.self c.natural-2.new.self c.end_object.new.self ids closes c.in_ok-natural-2.ensures c.end_object.ensures))))
    refl

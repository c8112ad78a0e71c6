use Rattle.crush_json.proofs.Chains.{as_told, then}
use Rattle.crush_json.specs.PlanDocument.{declassing, one_name}
use Rattle.crush_json.specs.Tokens.{member_tokens, tokens_of}
use Rattle.json.specs.Token.{Token, begin_object, end_object, key}
use Rattle.json.specs.Tree.{json_tokens}
use Rattle.serde_json.specs.Data.{string}
use Rattle.std.proofs.Common.{List, [], refl, ◌++◌, ◌∷◌}
use Rattle.std.specs.Prelude.{codes}
use Rattle.crush_json.proofs.commands.push_declassing.Goals as goal

pub returns : goal.returns
unfolding declassing
returns c =
    let r = c.end_object.result in
    let opens : List Token = begin_object ∷ [] in
    let ids_key : List Token = key (codes "ids") ∷ [] in
    let ids : List Token = tokens_of (one_name c.args.name.now) in
    let prefix : List Token = member_tokens (codes "prefix") (string c.args.prefix.now) in
    let closes : List Token = end_object ∷ [] in
    as_told r c.args.out.now c.end_object.new.self (opens ++ (ids_key ++ (ids ++ (prefix ++ closes)))) (json_tokens (declassing c.args.prefix.now c.args.name.now))
    (then r c.args.out.now c.begin_object.new.self c.end_object.new.self opens (ids_key ++ (ids ++ (prefix ++ closes))) c.in_ok-begin_object.ensures (then r c.begin_object.new.self c.key.new.self c.end_object.new.self ids_key (ids ++ (prefix ++ closes)) c.in_ok-key.ensures (then r c.key.new.self c.push_one_name.new.out c.end_object.new.self ids (prefix ++ closes) c.in_ok-push_one_name.ensures (then r c.push_one_name.new.out c.text.new.self c.end_object.new.self prefix closes c.in_ok-text.ensures c.end_object.ensures))))
    refl

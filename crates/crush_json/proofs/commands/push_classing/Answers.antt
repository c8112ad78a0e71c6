use Rattle.crush_json.proofs.Chains.{as_told, then}
use Rattle.crush_json.specs.PlanDocument.{classing, one_name, text, told}
use Rattle.crush_json.specs.Tokens.{member_tokens, tokens_of}
use Rattle.json.specs.Json as json
use Rattle.json.specs.Token.{Token, begin_object, end_object, key}
use Rattle.json.specs.Tree.{json_tokens}
use Rattle.serde_json.specs.Data.{string}
use Rattle.std.proofs.Common.{List, [], ◌++◌, ◌∷◌}
use Rattle.std.specs.Prelude.{codes}
use Rattle.crush_json.proofs.commands.push_classing.Goals as goal

pub returns : goal.returns
unfolding classing
returns c =
    let r = c.end_object.result in
    let opens : List Token = begin_object ∷ [] in
    let class : List Token = member_tokens (codes "class") (string c.as_str.result.now) in
    let ids_key : List Token = key (codes "ids") ∷ [] in
    let ids : List Token = tokens_of (one_name c.args.name.now) in
    let prefix : List Token = member_tokens (codes "prefix") (string c.args.prefix.now) in
    let closes : List Token = end_object ∷ [] in
    as_told r c.args.out.now c.end_object.new.self (opens ++ (class ++ (ids_key ++ (ids ++ (prefix ++ closes))))) (json_tokens (classing c.args.prefix.now c.args.name.now c.args.class.now))
    (then r c.args.out.now c.begin_object.new.self c.end_object.new.self opens (class ++ (ids_key ++ (ids ++ (prefix ++ closes)))) c.in_ok-begin_object.ensures (then r c.begin_object.new.self c.text.new.self c.end_object.new.self class (ids_key ++ (ids ++ (prefix ++ closes))) c.in_ok-text.ensures (then r c.text.new.self c.key.new.self c.end_object.new.self ids_key (ids ++ (prefix ++ closes)) c.in_ok-key.ensures (then r c.key.new.self c.push_one_name.new.out c.end_object.new.self ids (prefix ++ closes) c.in_ok-push_one_name.ensures (then r c.push_one_name.new.out c.text-2.new.self c.end_object.new.self prefix closes c.in_ok-text-2.ensures c.end_object.ensures)))))
    (λ i. json_tokens (json.object (text (codes "class") (c.as_str.ensures.value i) (told (codes "ids") (one_name c.args.name.now) (text (codes "prefix") c.args.prefix.now json.no_members)))))

use Rattle.crush_json.proofs.Chains.{as_told, then}
use Rattle.crush_json.specs.PlanDocument.{pair_values, placing, text, told, weight}
use Rattle.crush_json.specs.Tokens.{member_tokens, tokens_of, weight_tokens}
use Rattle.crush_json.specs.Values.{list, natural}
use Rattle.json.specs.Json as json
use Rattle.json.specs.Token.{Token, begin_object, end_object, key}
use Rattle.json.specs.Tree.{json_tokens}
use Rattle.serde_json.specs.Data.{string}
use Rattle.std.proofs.Common.{List, [], ◌++◌, ◌∷◌}
use Rattle.std.specs.Prelude.{codes}
use Rattle.crush_json.proofs.commands.push_placing.Goals as goal

pub returns : goal.returns
unfolding placing
returns c =
    let r = c.end_object.result in
    let opens : List Token = begin_object ∷ [] in
    let args_key : List Token = key (codes "args") ∷ [] in
    let pairs : List Token = tokens_of (list (pair_values c.pairs.result.now)) in
    let id : List Token = member_tokens (codes "id") (natural c.number.result) in
    let prefix : List Token = member_tokens (codes "prefix") (string c.args.prefix.now) in
    let heavy : List Token = weight_tokens c.args.weight in
    let closes : List Token = end_object ∷ [] in
    as_told r c.args.out.now c.end_object.new.self (opens ++ (args_key ++ (pairs ++ (id ++ (prefix ++ (heavy ++ closes)))))) (json_tokens (placing c.args.prefix.now c.args.device c.args.weight c.args.at.now))
    (then r c.args.out.now c.begin_object.new.self c.end_object.new.self opens (args_key ++ (pairs ++ (id ++ (prefix ++ (heavy ++ closes))))) c.in_ok-begin_object.ensures (then r c.begin_object.new.self c.key.new.self c.end_object.new.self args_key (pairs ++ (id ++ (prefix ++ (heavy ++ closes)))) c.in_ok-key.ensures (then r c.key.new.self c.push_pairs.new.out c.end_object.new.self pairs (id ++ (prefix ++ (heavy ++ closes))) c.in_ok-push_pairs.ensures (then r c.push_pairs.new.out c.natural.new.self c.end_object.new.self id (prefix ++ (heavy ++ closes)) c.in_ok-natural.ensures (then r c.natural.new.self c.text.new.self c.end_object.new.self prefix (heavy ++ closes) c.in_ok-text.ensures (then r c.text.new.self c.weight.new.self c.end_object.new.self heavy closes c.in_ok-weight.ensures c.end_object.ensures))))))
    (λ i. json_tokens (json.object (told (codes "args") (list (pair_values (c.pairs.ensures.value i))) (told (codes "id") (natural (c.number.ensures.value i)) (text (codes "prefix") c.args.prefix.now (weight c.args.weight))))))

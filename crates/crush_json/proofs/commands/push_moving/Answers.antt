use Rattle.crush_json.proofs.Chains.{as_told, then}
use Rattle.crush_json.specs.PlanDocument.{moving, pair_values, text, told}
use Rattle.crush_json.specs.Tokens.{member_tokens, tokens_of}
use Rattle.crush_json.specs.Values.{list}
use Rattle.json.specs.Json as json
use Rattle.json.specs.Token.{Token, begin_object, end_object, key}
use Rattle.json.specs.Tree.{json_tokens}
use Rattle.serde_json.specs.Data.{string}
use Rattle.std.proofs.Common.{List, [], ◌++◌, ◌∷◌}
use Rattle.std.specs.Prelude.{codes}
use Rattle.crush_json.proofs.commands.push_moving.Goals as goal

pub returns : goal.returns
unfolding moving
returns c =
    let r = c.end_object.result in
    let opens : List Token = begin_object ∷ [] in
    let args_key : List Token = key (codes "args") ∷ [] in
    let pairs : List Token = tokens_of (list (pair_values c.pairs.result.now)) in
    let name : List Token = member_tokens (codes "name") (string c.as_str.result.now) in
    let prefix : List Token = member_tokens (codes "prefix") (string c.args.prefix.now) in
    let closes : List Token = end_object ∷ [] in
    as_told r c.args.out.now c.end_object.new.self (opens ++ (args_key ++ (pairs ++ (name ++ (prefix ++ closes))))) (json_tokens (moving c.args.prefix.now c.args.name.now c.args.at.now))
    (then r c.args.out.now c.begin_object.new.self c.end_object.new.self opens (args_key ++ (pairs ++ (name ++ (prefix ++ closes)))) c.in_ok-begin_object.ensures (then r c.begin_object.new.self c.key.new.self c.end_object.new.self args_key (pairs ++ (name ++ (prefix ++ closes))) c.in_ok-key.ensures (then r c.key.new.self c.push_pairs.new.out c.end_object.new.self pairs (name ++ (prefix ++ closes)) c.in_ok-push_pairs.ensures (then r c.push_pairs.new.out c.text.new.self c.end_object.new.self name (prefix ++ closes) c.in_ok-text.ensures (then r c.text.new.self c.text-2.new.self c.end_object.new.self prefix closes c.in_ok-text-2.ensures c.end_object.ensures)))))
    (λ i. json_tokens (json.object (told (codes "args") (list (pair_values (c.pairs.ensures.value i))) (text (codes "name") (c.as_str.ensures.value i) (text (codes "prefix") c.args.prefix.now json.no_members)))))

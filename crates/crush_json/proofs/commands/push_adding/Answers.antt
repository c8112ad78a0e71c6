use Rattle.crush_json.proofs.Chains.{as_told, then}
use Rattle.crush_json.specs.PlanDocument.{adding, text}
use Rattle.crush_json.specs.Tokens.{member_tokens}
use Rattle.json.specs.Json as json
use Rattle.json.specs.Token.{Token, begin_object, end_object}
use Rattle.json.specs.Tree.{json_tokens}
use Rattle.serde_json.specs.Data.{string}
use Rattle.std.proofs.Common.{List, [], ◌++◌, ◌∷◌}
use Rattle.std.specs.Prelude.{codes}
use Rattle.crush_json.proofs.commands.push_adding.Goals as goal

pub returns : goal.returns
unfolding adding
returns c =
    let r = c.end_object.result in
    let opens : List Token = begin_object ∷ [] in
    let name : List Token = member_tokens (codes "name") (string c.as_str.result.now) in
    let prefix : List Token = member_tokens (codes "prefix") (string c.args.prefix.now) in
    let kind : List Token = member_tokens (codes "type") (string c.as_str-2.result.now) in
    let closes : List Token = end_object ∷ [] in
    as_told r c.args.out.now c.end_object.new.self (opens ++ (name ++ (prefix ++ (kind ++ closes)))) (json_tokens (adding c.args.prefix.now c.args.name.now c.args.kind.now))
    (then r c.args.out.now c.begin_object.new.self c.end_object.new.self opens (name ++ (prefix ++ (kind ++ closes))) c.in_ok-begin_object.ensures (then r c.begin_object.new.self c.text.new.self c.end_object.new.self name (prefix ++ (kind ++ closes)) c.in_ok-text.ensures (then r c.text.new.self c.text-2.new.self c.end_object.new.self prefix (kind ++ closes) c.in_ok-text-2.ensures (then r c.text-2.new.self c.text-3.new.self c.end_object.new.self kind closes c.in_ok-text-3.ensures c.end_object.ensures))))
    (λ i. json_tokens (json.object (text (codes "name") (c.as_str.ensures.value i) (text (codes "prefix") c.args.prefix.now (text (codes "type") (c.as_str-2.ensures.value i) json.no_members)))))

use Rattle.crush_edits.specs.SettingSeen.{rule_data, step_data}
use Rattle.crush_json.proofs.Chains.{then, as_told}
use Rattle.crush_json.specs.RuleDocument.{rule_document, served, step_document}
use Rattle.crush_json.specs.Tokens.{member_tokens, tokens_of}
use Rattle.crush_json.specs.Values.{natural, list}
use Rattle.json.specs.Token.{Token, begin_object, end_object}
use Rattle.json.specs.Token.{key}
use Rattle.serde_json.specs.Data.{string, object, member, no_members}
use Rattle.std.proofs.Common.{List, [], ◌∷◌, ◌++◌, map}
use Rattle.std.specs.Prelude.{codes}
use Rattle.crush_json.proofs.rules.push_rule.Goals as goal

pub returns : goal.returns
unfolding rule_document
returns g c = λ t stands.
    let r = c.end_object.result in
    let rule = c.args.rule.now in
    let opens : List Token = begin_object ∷ [] in
    let id : List Token = member_tokens (codes "rule_id") (natural rule.id) in
    let name : List Token = member_tokens (codes "rule_name") (string c.as_str.result.now) in
    let steps_key : List Token = key (codes "steps") ∷ [] in
    let steps : List Token = tokens_of (list (map (step_document t) (map step_data c.as_slice.result.now))) in
    let kind : List Token = member_tokens (codes "type") (served rule.kind) in
    let closes : List Token = end_object ∷ [] in
    as_told r c.args.out.now c.end_object.new.self (opens ++ (id ++ (name ++ (steps_key ++ (steps ++ (kind ++ closes)))))) (tokens_of (rule_document t (rule_data rule)))
    (then r c.args.out.now c.begin_object.new.self c.end_object.new.self opens (id ++ (name ++ (steps_key ++ (steps ++ (kind ++ closes))))) c.in_ok-begin_object.ensures (then r c.begin_object.new.self c.natural.new.self c.end_object.new.self id (name ++ (steps_key ++ (steps ++ (kind ++ closes)))) c.in_ok-natural.ensures (then r c.natural.new.self c.text.new.self c.end_object.new.self name (steps_key ++ (steps ++ (kind ++ closes))) c.in_ok-text.ensures (then r c.text.new.self c.key.new.self c.end_object.new.self steps_key (steps ++ (kind ++ closes)) c.in_ok-key.ensures (then r c.key.new.self c.push_steps.new.out c.end_object.new.self steps (kind ++ closes) (c.in_ok-push_steps.ensures t stands) (then r c.push_steps.new.out c.push_served.new.out c.end_object.new.self kind closes c.in_ok-push_served.ensures c.end_object.ensures))))))
    (λ i. tokens_of (object (member (codes "rule_id") (natural rule.id) (member (codes "rule_name") (string (c.as_str.ensures.value i))
    (member (codes "steps") (list (map (step_document t) (map step_data (c.as_slice.ensures.value i)))) (member (codes "type") (served rule.kind) no_members))))))

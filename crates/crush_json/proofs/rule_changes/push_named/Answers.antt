use Rattle.crush_json.proofs.Chains.{as_told, then}
use Rattle.crush_json.specs.RuleChanges.{named_rule_document}
use Rattle.crush_json.specs.Tokens.{member_tokens, tokens_of}
use Rattle.json.specs.Token.{Token, begin_object, end_object}
use Rattle.serde_json.specs.Data.{string}
use Rattle.std.proofs.Common.{List, [], ◌∷◌, ◌++◌, refl}
use Rattle.std.specs.Prelude.{codes}
use Rattle.crush_json.proofs.rule_changes.push_named.Goals as goal

pub returns : goal.returns
unfolding named_rule_document
returns c =
    let r = c.end_object.result in
    let opens : List Token = begin_object ∷ [] in
    let change : List Token = member_tokens (codes "change") (string c.args.change.now) in
    let name : List Token = member_tokens (codes "name") (string c.args.name.now) in
    let closes : List Token = end_object ∷ [] in
    as_told r c.args.out.now c.end_object.new.self (opens ++ (change ++ (name ++ closes))) (tokens_of (named_rule_document c.args.change.now c.args.name.now))
    (then r c.args.out.now c.begin_object.new.self c.end_object.new.self opens (change ++ (name ++ closes)) c.in_ok-begin_object.ensures (then r c.begin_object.new.self c.text.new.self c.end_object.new.self change (name ++ closes) c.in_ok-text.ensures (then r c.text.new.self c.text-2.new.self c.end_object.new.self name closes c.in_ok-text-2.ensures c.end_object.ensures)))
    refl

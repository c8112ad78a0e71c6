use Rattle.crush_json.proofs.Chains.{as_told, then}
use Rattle.crush_json.specs.RuleChanges.{order_document}
use Rattle.crush_json.specs.Tokens.{member_tokens, tokens_of}
use Rattle.json.specs.Token.{Token, begin_object, end_object}
use Rattle.serde_json.specs.Data.{string}
use Rattle.std.proofs.Common.{List, [], ◌∷◌, ◌++◌, refl}
use Rattle.std.specs.Prelude.{codes}
use Rattle.crush_json.proofs.rule_changes.push_other_order.Goals as goal

pub returns : goal.returns
unfolding order_document
returns c =
    let r = c.end_object.result in
    let opens : List Token = begin_object ∷ [] in
    let change : List Token = member_tokens (codes "change") (string (codes "other order")) in
    let closes : List Token = end_object ∷ [] in
    as_told r c.args.out.now c.end_object.new.self (opens ++ (change ++ closes)) (tokens_of order_document)
    (then r c.args.out.now c.begin_object.new.self c.end_object.new.self opens (change ++ closes) c.in_ok-begin_object.ensures (then r c.begin_object.new.self c.text.new.self c.end_object.new.self change closes c.in_ok-text.ensures c.end_object.ensures))
    refl

use Rattle.crush_json.proofs.Chains.{as_told, then}
use Rattle.crush_json.proofs.SinceLaws.{takes_nothing_told}
use Rattle.crush_json.specs.RuleChanges.{takes_nothing_document}
use Rattle.crush_json.specs.Tokens.{member_tokens, tokens_of}
use Rattle.crush_json.specs.Tokens.{text_tokens_if}
use Rattle.json.specs.Token.{Token, begin_object, end_object}
use Rattle.serde_json.specs.Data.{string}
use Rattle.std.proofs.Common.{List, [], ◌∷◌, ◌++◌}
use Rattle.std.specs.Option.{option_map}
use Rattle.std.specs.Prelude.{codes}
use Rattle.crush_json.proofs.rule_changes.push_takes_nothing.Goals as goal

pub returns : goal.returns
returns c =
    let r = c.end_object.result in
    let name = option_map (λ c. c.now) c.args.class in
    let opens : List Token = begin_object ∷ [] in
    let bucket : List Token = member_tokens (codes "bucket") (string c.args.bucket.now) in
    let change : List Token = member_tokens (codes "change") (string (codes "takes nothing")) in
    let class : List Token = text_tokens_if (codes "class") name in
    let rule : List Token = member_tokens (codes "name") (string c.args.rule.now) in
    let closes : List Token = end_object ∷ [] in
    as_told r c.args.out.now c.end_object.new.self (opens ++ (bucket ++ (change ++ (class ++ (rule ++ closes))))) (tokens_of (takes_nothing_document c.args.rule.now c.args.bucket.now name))
    (then r c.args.out.now c.begin_object.new.self c.end_object.new.self opens (bucket ++ (change ++ (class ++ (rule ++ closes)))) c.in_ok-begin_object.ensures (then r c.begin_object.new.self c.text.new.self c.end_object.new.self bucket (change ++ (class ++ (rule ++ closes))) c.in_ok-text.ensures (then r c.text.new.self c.text-2.new.self c.end_object.new.self change (class ++ (rule ++ closes)) c.in_ok-text-2.ensures (then r c.text-2.new.self c.text_if.new.self c.end_object.new.self class (rule ++ closes) c.in_ok-text_if.ensures (then r c.text_if.new.self c.text-3.new.self c.end_object.new.self rule closes c.in_ok-text-3.ensures c.end_object.ensures)))))
    (takes_nothing_told c.args.rule.now c.args.bucket.now name)

use Rattle.crush_json.proofs.Chains.{as_told, then}
use Rattle.crush_json.specs.RuleChanges.{rule_change_documents}
use Rattle.crush_json.specs.Tokens.{member_tokens, tokens_of}
use Rattle.crush_json.specs.Values.{list}
use Rattle.crush_since.specs.Since.{PlainMap, plain_map}
use Rattle.json.specs.Token.{Token, key}
use Rattle.std.proofs.Common.{List, [], ◌∷◌, ◌++◌, refl}
use Rattle.std.specs.Prelude.{codes}
use Rattle.crush_json.proofs.since.push_rules.Goals as goal

pub returns : goal.returns
returns g c = λ t u was is.
    let r = c.push_rule_changes.result in
    let old : PlainMap = plain_map c.args.old.now.setting t in
    let new : PlainMap = plain_map c.args.new.now.setting u in
    let name : List Token = key (codes "rules") ∷ [] in
    let told : List Token = tokens_of (list (rule_change_documents old new)) in
    as_told r c.args.out.now c.push_rule_changes.new.out (name ++ told) (member_tokens (codes "rules") (list (rule_change_documents old new)))
    (then r c.args.out.now c.key.new.self c.push_rule_changes.new.out name told c.in_ok-key.ensures (c.push_rule_changes.ensures t u was is))
    refl

use Rattle.crush_json.proofs.Chains.{then, as_told}
use Rattle.crush_json.specs.MapDocument.{kind_documents, tunables_document}
use Rattle.crush_json.specs.RuleDocument.{rule_documents}
use Rattle.crush_json.specs.Tokens.{member_tokens, tokens_of}
use Rattle.crush_json.specs.Values.{list}
use Rattle.json.specs.Token.{Token, key}
use Rattle.std.proofs.Common.{List, [], ◌∷◌, ◌++◌, sym, ◌∙◌, append_assoc}
use Rattle.std.specs.Prelude.{codes}
use Rattle.crush_json.proofs.map.push_setting.Goals as goal

pub returns : goal.returns
returns g c = λ t stands.
    let r = c.push_kinds.result in
    let s = c.args.map.now.setting in
    let e = c.setting-setting.ensures in
    let first : List Token = key (codes "rules") ∷ [] in
    let rules : List Token = tokens_of (list (rule_documents s t)) in
    let second : List Token = key (codes "tunables") ∷ [] in
    let tunables : List Token = tokens_of (tunables_document c.setting-setting.result.now) in
    let third : List Token = key (codes "types") ∷ [] in
    let types : List Token = tokens_of (list (kind_documents c.setting-setting.result.now)) in
    as_told r c.args.out.now c.push_kinds.new.out (first ++ (rules ++ (second ++ (tunables ++ (third ++ types))))) (member_tokens (codes "rules") (list (rule_documents s t)) ++ member_tokens (codes "tunables") (tunables_document s) ++ member_tokens (codes "types") (list (kind_documents s)))
    (then r c.args.out.now c.key.new.self c.push_kinds.new.out first (rules ++ (second ++ (tunables ++ (third ++ types)))) c.in_ok-key.ensures (then r c.key.new.self c.push_rules.new.out c.push_kinds.new.out rules (second ++ (tunables ++ (third ++ types))) (c.in_ok-push_rules.ensures t stands) (then r c.push_rules.new.out c.key-2.new.self c.push_kinds.new.out second (tunables ++ (third ++ types)) c.in_ok-key-2.ensures (then r c.key-2.new.self c.push_tunables.new.out c.push_kinds.new.out tunables (third ++ types) c.in_ok-push_tunables.ensures (then r c.push_tunables.new.out c.key-3.new.self c.push_kinds.new.out third types c.in_ok-key-3.ensures c.push_kinds.ensures)))))
    ((λ i. member_tokens (codes "rules") (list (rule_documents s t)) ++ (member_tokens (codes "tunables") (tunables_document (e i)) ++ member_tokens (codes "types") (list (kind_documents (e i)))))
    ∙ sym (append_assoc (member_tokens (codes "rules") (list (rule_documents s t))) (member_tokens (codes "tunables") (tunables_document s)) (member_tokens (codes "types") (list (kind_documents s)))))

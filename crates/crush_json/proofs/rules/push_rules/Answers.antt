use Rattle.std.proofs.Common.{List, ◌++◌, ap, ◌∙◌, map}
use Rattle.std.specs.Prelude.{flat_map}
use Rattle.json.specs.Token.{Token}
use Rattle.crush_edits.specs.Setting.{RuleData, SettingData}
use Rattle.crush_print.specs.MapText.{ascending}
use Rattle.crush_json.specs.RuleDocument.{rule_documents, rule_ids, rules_at}
use Rattle.crush_json.specs.Tokens.{tokens_of_all}
use Rattle.crush_json.proofs.Listed.{array_done, flattened}
use Rattle.crush_json.proofs.rules.push_rules.Goals as goal

pub returns : goal.returns
unfolding rule_documents rule_ids
returns g c = λ t stands.
    let told = rules_at c.args.map.now.setting t in
    let rules = c.rules.ensures ∙ ap (λ (s : SettingData). s.rules) c.setting.ensures in
    let ids = c.as_slice.ensures.value ∙ c.in_ok-ids.ensures ∙ ap (λ rs. ascending (map (λ (r : RuleData). r.id) rs)) rules in
    array_done (rule_documents c.args.map.now.setting t) c.end_array.result c.args.out.now c.begin_array.new.self c.push_each.new.out c.end_array.new.self c.in_ok-begin_array.ensures
    (c.in_ok-push_each.ensures t stands ∙ ap (λ (l : List Token). c.begin_array.new.self ++ l) (flattened told c.as_slice.result.now ∙ ap (λ ns. tokens_of_all (flat_map told ns)) ids)) c.end_array.ensures

use Rattle.std.proofs.Common.{false, ap, ◌∙◌, ◌++◌, map}
use Rattle.std.proofs.lemmas.Result.{on_ok_weaker}
use Rattle.crush_edits.specs.SettingSeen.{rule_data}
use Rattle.crush_since.specs.Rules.{beside, change_unless, rule_differs, rule_named, rule_new}
use Rattle.crush_since.specs.RulesByName.{same_rule_by}
use Rattle.crush_since.specs.RulesSeen.{rule_change_data}
use Rattle.crush_since.proofs.since.rules.push_new_rule.Goals as goal

pub returns-in-Some : goal.returns-in-Some
returns-in-Some g c = λ t u a b.
    let rules = map rule_data c.args.before.now in
    let same_rule = same_rule_by c.args.identity t u in
    let rule = rule_data c.args.rule.now in
    on_ok_weaker c.push_unless.result
    (λ is. is ∙ ap (λ l. map rule_change_data c.args.changes.now.items ++ l)
    ((λ k. change_unless (c.is_same_rule-same.ensures t u a b k) (rule_differs (c.as_str-name.ensures.value k))) ∙ ap (λ o. beside same_rule o rule) (c.in-Some.ensures ∙ ap (λ n. rule_named n rules) c.as_str-name.ensures.value)))
    c.push_unless.ensures

pub returns-in-None : goal.returns-in-None
returns-in-None g c = λ t u a b.
    let rules = map rule_data c.args.before.now in
    let same_rule = same_rule_by c.args.identity t u in
    let rule = rule_data c.args.rule.now in
    on_ok_weaker c.push_unless-in-None.result
    (λ is. is ∙ ap (λ l. map rule_change_data c.args.changes.now.items ++ l)
    (ap (λ n. change_unless false (rule_new n)) c.as_str-name.ensures.value ∙ ap (λ o. beside same_rule o rule) (c.in-None.ensures ∙ ap (λ n. rule_named n rules) c.as_str-name.ensures.value)))
    c.push_unless-in-None.ensures

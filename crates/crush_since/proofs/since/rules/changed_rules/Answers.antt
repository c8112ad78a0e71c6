use Rattle.std.proofs.Common.{ap, ◌∙◌, ◌++◌, map}
use Rattle.std.specs.Prelude.{flat_map}
use Rattle.crush_edits.specs.SettingSeen.{rule_data}
use Rattle.crush_since.specs.Rules.{new_rule, gone_rule}
use Rattle.crush_since.specs.RulesByName.{same_rule_by}
use Rattle.crush_since.specs.RulesSeen.{rule_change_data}
use Rattle.crush_since.proofs.since.rules.changed_rules.Goals as goal

pub returns : goal.returns
returns g c = λ t u x y.
    let a = map rule_data c.args.before.now in
    let b = map rule_data c.args.after.now in
    let found = flat_map (new_rule (same_rule_by c.args.identity t u) a) b in
    c.in_ok-push_gone_rules.ensures ∙ ap (λ l. l ++ flat_map (gone_rule b) a) (c.in_ok-push_new_rules.ensures t u x y ∙ ap (λ l. map rule_change_data l ++ found) c.new-changes.ensures.items)

use Rattle.std.proofs.Common.{map}
use Rattle.crush_edits.specs.SettingSeen.{rule_data}
use Rattle.crush_print.proofs.WalkLaws.{one_more}
use Rattle.crush_since.specs.Rules.{new_rule}
use Rattle.crush_since.specs.RulesByName.{same_rule_by}
use Rattle.crush_since.proofs.RuleLaws.{seen_more}
use Rattle.crush_since.proofs.since.rules.push_new_rules.Goals as goal

pub loop-rule-preserved : goal.loop-rule-preserved
loop-rule-preserved g c = λ t u a b.
    one_more _ _ _ _ _ _ (c.loop-rule.invariant t u a b) (c.in_ok-push_new_rule.ensures t u a b)
    (seen_more (new_rule (same_rule_by c.args.identity t u) (map rule_data c.args.before.now)) rule_data c.args.after.now c.loop-rule.rule-index c.rule-item.result c.loop-rule-test.true c.rule-item.is)

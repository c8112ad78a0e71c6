use Rattle.std.proofs.Common.{map}
use Rattle.crush_edits.specs.SettingSeen.{rule_data}
use Rattle.crush_print.proofs.WalkLaws.{one_more}
use Rattle.crush_since.specs.Rules.{gone_rule}
use Rattle.crush_since.proofs.RuleLaws.{seen_more}
use Rattle.crush_since.proofs.since.rules.push_gone_rules.Goals as goal

pub loop-rule-preserved : goal.loop-rule-preserved
loop-rule-preserved c =
    one_more _ _ _ _ _ _ c.loop-rule.invariant c.in_ok-push_gone_rule.ensures (seen_more (gone_rule (map rule_data c.args.after.now)) rule_data c.args.before.now c.loop-rule.rule-index c.rule-item.result c.loop-rule-test.true c.rule-item.is)

use Rattle.crush_edits.specs.SettingSeen.{rule_data}
use Rattle.crush_print.specs.RuleLines.{rule_lines}
use Rattle.crush_print.proofs.ItemLines.{lines_more, one_more}
use Rattle.crush_print.proofs.printer.rules.push_all_rules.Goals as goal

pub loop-rule-preserved : goal.loop-rule-preserved
loop-rule-preserved g c = λ t stands.
    one_more _ _ _ _ _ _ (c.loop-rule.invariant t stands) (c.in_ok-push_rule.ensures t stands)
    (lines_more (rule_lines t) rule_data c.args.rules.now c.loop-rule.rule-index c.rule-item.result c.loop-rule-test.true c.rule-item.is)

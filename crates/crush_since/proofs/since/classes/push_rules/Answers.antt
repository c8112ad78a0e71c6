use Rattle.std.proofs.Common.{map, ap, ◌∙◌, ◌++◌}
use Rattle.std.specs.Prelude.{flat_map}
use Rattle.crush_edits.specs.SettingSeen.{rule_data, step_data}
use Rattle.crush_print.proofs.WalkLaws.{one_more}
use Rattle.crush_since.proofs.RuleLaws.{seen_more}
use Rattle.crush_edits.specs.Setting.{RuleData}
use Rattle.crush_since.specs.Classes.{entry_class, step_class, rule_classes, reweighed_line, untaken_line}
use Rattle.crush_since.specs.CollectedSeen.{item_data, use_data}
use Rattle.crush_since.proofs.since.classes.push_rules.Goals as goal

pub loop-rule-preserved : goal.loop-rule-preserved
loop-rule-preserved c =
    one_more _ _ _ _ _ _ c.loop-rule.invariant (c.in_ok-push_steps.ensures ∙ ap (λ l. map item_data c.loop-rule.items.items ++ flat_map step_class (map step_data l)) c.as_slice.ensures.value) (seen_more (λ (r : RuleData). flat_map step_class r.steps) rule_data c.args.rules.now c.loop-rule.rule-index c.rule-item.result c.loop-rule-test.true c.rule-item.is)

use Rattle.crush_edits.specs.SettingSeen.{step_data}
use Rattle.crush_print.proofs.WalkLaws.{one_more}
use Rattle.crush_since.proofs.RuleLaws.{seen_more}
use Rattle.crush_since.specs.Classes.{entry_class, step_class, rule_classes, reweighed_line, untaken_line}
use Rattle.crush_since.specs.CollectedSeen.{item_data, use_data}
use Rattle.crush_since.proofs.since.classes.push_steps.Goals as goal

pub loop-step-preserved : goal.loop-step-preserved
loop-step-preserved c =
    one_more _ _ _ _ _ _ c.loop-step.invariant c.in_ok-push_step.ensures (seen_more step_class step_data c.args.steps.now c.loop-step.step-index c.step-item.result c.loop-step-test.true c.step-item.is)

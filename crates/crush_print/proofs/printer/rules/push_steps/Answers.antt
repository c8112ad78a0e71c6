use Rattle.crush_edits.specs.SettingSeen.{step_data}
use Rattle.crush_print.specs.RuleLines.{step_line}
use Rattle.crush_print.proofs.ItemLines.{lines_more, one_more}
use Rattle.crush_print.proofs.printer.rules.push_steps.Goals as goal

pub loop-step-preserved : goal.loop-step-preserved
loop-step-preserved g c = λ t stands.
    one_more _ _ _ _ _ _ (c.loop-step.invariant t stands) (c.in_ok-push_step.ensures t stands)
    (lines_more (step_line t) step_data c.args.steps.now c.loop-step.step-index c.step-item.result c.loop-step-test.true c.step-item.is)

use Rattle.crush_print.specs.TreeLine.{line_data}
use Rattle.crush_print.specs.TreeText.{step_line}
use Rattle.crush_print.proofs.WalkLaws.{one_more, more_steps}
use Rattle.crush_print.proofs.tree.push_lines.Goals as goal

pub loop-line-preserved : goal.loop-line-preserved
loop-line-preserved c =
    one_more _ _ _ _ _ _ c.loop-line.invariant c.in_ok-push_line.ensures
    (more_steps (λ s. step_line c.args.setting.now c.args.widths.now (line_data s)) c.args.lines.now c.loop-line.line-index c.line-item.result c.loop-line-test.true c.line-item.is)

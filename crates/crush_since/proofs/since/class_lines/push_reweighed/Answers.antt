use Rattle.crush_print.proofs.WalkLaws.{one_more}
use Rattle.crush_since.specs.Classes.{reweighed_line}
use Rattle.crush_since.specs.ClassesSeen.{class_change_data}
use Rattle.crush_since.proofs.RuleLaws.{seen_more}
use Rattle.crush_since.proofs.since.class_lines.push_reweighed.Goals as goal

pub loop-index-preserved : goal.loop-index-preserved
loop-index-preserved c =
    one_more _ _ _ _ _ _ c.loop-index.invariant c.in_ok-push_reweighed_line.ensures (seen_more reweighed_line class_change_data c.args.changes.now c.loop-index.index c.change_at-class.result.now c.loop-index-test.true c.change_at-class.ensures)

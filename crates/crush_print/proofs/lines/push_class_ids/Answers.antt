use Rattle.crush_nodes.specs.Seen.{shadow_data}
use Rattle.crush_print.specs.Lines.{class_id_line}
use Rattle.crush_print.proofs.ItemLines.{lines_more, one_more}
use Rattle.crush_print.proofs.lines.push_class_ids.Goals as goal

pub loop-id-preserved : goal.loop-id-preserved
loop-id-preserved g c =
    one_more _ _ _ _ _ _ c.loop-id.invariant c.in_ok-push_class_id.ensures
    (lines_more class_id_line shadow_data c.args.ids.now c.loop-id.id-index c.id-item.result c.loop-id-test.true c.id-item.is)

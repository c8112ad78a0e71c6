use Rattle.crush_print.proofs.ItemLines.{item_lines-more, one_more}
use Rattle.crush_print.proofs.lines.push_items.Goals as goal

pub loop-node-preserved : goal.loop-node-preserved
loop-node-preserved g c = one_more _ _ _ _ _ _ c.loop-node.invariant c.in_ok-push_item.ensures (item_lines-more c.args.form c.args.items.now c.loop-node.node-index c.node-item.result c.loop-node-test.true c.node-item.is)

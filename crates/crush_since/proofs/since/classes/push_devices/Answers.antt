use Rattle.crush_print.proofs.WalkLaws.{one_more, more_steps}
use Rattle.crush_since.specs.Classes.{entry_class}
use Rattle.crush_items.specs.Items.{item_entry}
use Rattle.crush_since.proofs.since.classes.push_devices.Goals as goal

pub loop-item-preserved : goal.loop-item-preserved
loop-item-preserved g c =
    one_more _ _ _ _ _ _ c.loop-item.invariant c.in_ok-push_device.ensures (more_steps (λ x. entry_class c.args.source (item_entry x)) c.args.listed.now c.loop-item.item-index c.item-item.result c.loop-item-test.true c.item-item.is)

use Rattle.std.specs.Prelude.{None}
use Rattle.crush_model.specs.ItemRows.{device_row}
use Rattle.crush_nodes.specs.Seen.{leaf_data}
use Rattle.crush_print.specs.Lines.{device_line}
use Rattle.crush_print.proofs.ItemLines.{one_more, prints_more}
use Rattle.crush_print.proofs.printer.devices.push_leaves.Goals as goal

pub loop-device-preserved : goal.loop-device-preserved
loop-device-preserved g c =
    one_more _ _ _ _ _ _ c.loop-device.invariant c.in_ok-push_device.ensures
    (prints_more (λ r. device_line (device_row None (leaf_data r.now))) c.args.devices.now c.loop-device.device-index c.device-item.result c.loop-device-test.true c.device-item.is)

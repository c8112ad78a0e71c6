use Rattle.std.proofs.Common.{◌≡◌, ◌++◌, take}
use Rattle.std.specs.Prelude.{None, flat_map}
use Rattle.crush_model.specs.ItemRows.{device_row}
use Rattle.crush_nodes.specs.Seen.{leaf_data}
use Rattle.crush_print.specs.Lines.{device_line}
use Rattle.crush_print.proofs.printer.devices.push_leaves.Given as goal

abbrev pub invariant-loop-device : goal.invariant-loop-device
invariant-loop-device g l = l.out.items ≡ l.fn.out.items ++ flat_map (λ r. device_line (device_row None (leaf_data r.now))) (take l.device-index l.devices)

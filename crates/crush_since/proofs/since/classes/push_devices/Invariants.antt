use Rattle.std.proofs.Common.{◌≡◌, ◌++◌, take, map}
use Rattle.std.specs.Prelude.{flat_map}
use Rattle.crush_edits.specs.SettingSeen.{rule_data, step_data}
use Rattle.crush_since.specs.Classes.{entry_class, step_class, rule_classes, reweighed_line, untaken_line}
use Rattle.crush_since.specs.CollectedSeen.{item_data, use_data}
use Rattle.crush_items.specs.Items.{item_entry}
use Rattle.crush_since.proofs.since.classes.push_devices.Given as goal

abbrev pub invariant-loop-item : goal.invariant-loop-item
invariant-loop-item g l = map item_data l.items.items ≡ map item_data l.fn.items.items ++ flat_map (λ x. entry_class l.source (item_entry x)) (take l.item-index l.listed)

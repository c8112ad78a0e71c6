use Rattle.std.proofs.Common.{◌≡◌, ◌++◌, take, map}
use Rattle.crush_model.specs.Items.{size_of}
use Rattle.crush_nodes.specs.Seen.{leaf_data, items_of}
use Rattle.crush_print.specs.ItemsText.{leaves}
use Rattle.crush_json.proofs.items.+find_devices.Given as goal

abbrev pub decreases-find_devices : goal.decreases-find_devices
decreases-find_devices g l = size_of (items_of l.nodes.now)

abbrev pub invariant-loop-node : goal.invariant-loop-node
invariant-loop-node g l = map (λ r. leaf_data r.now) l.found.items ≡ map (λ r. leaf_data r.now) l.fn.found.items ++ leaves (items_of (take l.node-index l.nodes))

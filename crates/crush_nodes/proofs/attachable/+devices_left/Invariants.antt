use Rattle.std.proofs.Common.{◌≡◌, ◌+◌, ◌∷◌, [], take}
use Rattle.crush_model.specs.Items.{size_of}
use Rattle.crush_nodes.specs.Search.{devices_in}
use Rattle.crush_nodes.specs.Seen.{items_of}
use Rattle.crush_nodes.proofs.attachable.+devices_left.Given as goal

abbrev pub decreases-devices_left : goal.decreases-devices_left
decreases-devices_left g l = size_of (items_of (l.node.now ∷ []))

abbrev pub invariant-loop-item : goal.invariant-loop-item
invariant-loop-item g l = l.left + devices_in (items_of (take l.item-index l.items)) ≡ l.fn.most

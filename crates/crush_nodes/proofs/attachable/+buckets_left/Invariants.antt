use Rattle.std.proofs.Common.{◌≡◌, ◌+◌, ◌∷◌, [], take}
use Rattle.crush_model.specs.Items.{size_of}
use Rattle.crush_nodes.specs.Seen.{items_of}
use Rattle.crush_nodes.proofs.attachable.+buckets_left.Given as goal

abbrev pub decreases-buckets_left : goal.decreases-buckets_left
decreases-buckets_left g l = size_of (items_of (l.node.now ∷ []))

abbrev pub invariant-loop-item : goal.invariant-loop-item
invariant-loop-item g l = l.left + (1 + size_of (items_of (take l.item-index l.items))) ≡ l.fn.most

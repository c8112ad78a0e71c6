use Rattle.std.proofs.Common.{◌≡◌, [], ◌∷◌, ◌++◌, take}
use Rattle.crush_model.specs.Items.{size_of}
use Rattle.crush_nodes.specs.Seen.{items_of}
use Rattle.crush_reasons.specs.Sums.{sums_of}
use Rattle.crush_reasons.proofs.sums.+push_node.Given as goal

abbrev pub decreases-push_node : goal.decreases-push_node
decreases-push_node g l = size_of (items_of (l.node.now ∷ []))

abbrev pub invariant-loop-item : goal.invariant-loop-item
invariant-loop-item g l = l.sums.items ≡ l.fn.sums.items ++ sums_of (items_of (take l.item-index l.below))

use Rattle.std.proofs.Common.{◌≡◌, ◌+◌, ◌∷◌, [], drop}
use Rattle.crush_model.specs.Items.{size_of}
use Rattle.crush_nodes.specs.Classed.{class_sum_in}
use Rattle.crush_nodes.specs.Seen.{items_of}
use Rattle.crush_nodes.proofs.classed.+class_weight_in.Given as goal

abbrev pub decreases-class_weight_in : goal.decreases-class_weight_in
decreases-class_weight_in g l = size_of (items_of (l.node.now ∷ []))

abbrev pub invariant-loop-item : goal.invariant-loop-item
invariant-loop-item g l = l.sum + class_sum_in l.class (items_of (drop l.item-index l.items)) ≡ class_sum_in l.class (items_of l.items)

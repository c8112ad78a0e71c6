use Rattle.std.proofs.Common.{◌≡◌, [], ◌∷◌, ◌++◌, take}
use Rattle.std.specs.Prelude.{None}
use Rattle.crush_model.specs.Items.{size_of}
use Rattle.crush_nodes.specs.Seen.{items_of}
use Rattle.crush_print.specs.ClassItems.{class_weight_in, class_weights_in}
use Rattle.crush_print.proofs.classes.+push_weights.Given as goal

abbrev pub decreases-push_weights : goal.decreases-push_weights
decreases-push_weights g l = size_of (items_of (l.node.now ∷ []))

abbrev pub invariant-loop-item : goal.invariant-loop-item
invariant-loop-item g l =
    (l.own ≡ class_weight_in l.class (items_of (take l.item-index l.items)))
    × (l.weights.items ≡ l.fn.weights.items ++ (None ∷ class_weights_in l.class (items_of (take l.item-index l.items))))

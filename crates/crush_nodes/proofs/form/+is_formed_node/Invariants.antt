use Rattle.std.proofs.Common.{◌≡◌, ◌∷◌, [], take, drop}
use Rattle.crush_model.specs.Items.{size_of}
use Rattle.crush_nodes.specs.Attachable.{are_formed, AreTyped}
use Rattle.crush_nodes.specs.Seen.{items_of}
use Rattle.crush_nodes.proofs.form.+is_formed_node.Given as goal

abbrev pub decreases-is_formed_node : goal.decreases-is_formed_node
decreases-is_formed_node g l = size_of (items_of (l.node.now ∷ []))

abbrev pub invariant-loop-item : goal.invariant-loop-item
invariant-loop-item g l = record {
  tested : are_formed (items_of l.items) ≡ are_formed (items_of (drop l.item-index l.items));
  typed : AreTyped (items_of (take l.item-index l.items));
}

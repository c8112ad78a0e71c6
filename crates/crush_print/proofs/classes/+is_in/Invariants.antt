use Rattle.std.proofs.Common.{◌≡◌, [], ◌∷◌, false, take}
use Rattle.std.specs.Prelude.{is_some}
use Rattle.crush_model.specs.Items.{size_of}
use Rattle.crush_nodes.specs.Seen.{items_of}
use Rattle.crush_print.specs.ClassItems.{class_weight_in}
use Rattle.crush_print.proofs.classes.+is_in.Given as goal

abbrev pub decreases-is_in : goal.decreases-is_in
decreases-is_in g l = size_of (items_of (l.node.now ∷ []))

abbrev pub invariant-loop-item : goal.invariant-loop-item
invariant-loop-item g l = is_some (class_weight_in l.class (items_of (take l.item-index l.items))) ≡ false

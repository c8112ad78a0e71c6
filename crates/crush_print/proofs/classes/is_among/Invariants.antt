use Rattle.std.proofs.Common.{◌≡◌, false, take}
use Rattle.std.specs.Prelude.{is_some}
use Rattle.crush_nodes.specs.Seen.{items_of}
use Rattle.crush_print.specs.ClassItems.{class_weight_in}
use Rattle.crush_print.proofs.classes.is_among.Given as goal

abbrev pub invariant-loop-node : goal.invariant-loop-node
invariant-loop-node g l = is_some (class_weight_in l.class (items_of (take l.node-index l.nodes))) ≡ false

use Rattle.std.proofs.Common.{◌≡◌, [], ◌∷◌, ◌++◌, take}
use Rattle.std.specs.Prelude.{flat_map}
use Rattle.crush_nodes.specs.Seen.{items_of}
use Rattle.crush_print.specs.ClassItems.{class_weights_in}
use Rattle.crush_print.proofs.classes.push_all_weights.Given as goal

abbrev pub invariant-loop-node : goal.invariant-loop-node
invariant-loop-node g l = l.weights.items ≡ l.fn.weights.items ++ flat_map (λ r. class_weights_in l.class (items_of (r.now ∷ []))) (take l.node-index l.nodes)

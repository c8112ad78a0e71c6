use Rattle.std.proofs.Common.{◌≡◌, ◌∷◌, [], drop}
use Rattle.crush_model.specs.Items.{size_of}
use Rattle.crush_nodes.specs.Apart.{shares_a_key}
use Rattle.crush_nodes.specs.Seen.{items_of}
use Rattle.crush_nodes.proofs.apart.+node_shares_a_key.Given as goal

abbrev pub decreases-node_shares_a_key : goal.decreases-node_shares_a_key
decreases-node_shares_a_key g l = size_of (items_of (l.node.now ∷ []))

abbrev pub invariant-loop-item : goal.invariant-loop-item
invariant-loop-item g l = shares_a_key (items_of l.items) (items_of l.others) ≡ shares_a_key (items_of (drop l.item-index l.items)) (items_of l.others)

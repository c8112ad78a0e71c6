use Rattle.std.proofs.Common.{◌≡◌, ◌++◌, take}
use Rattle.crush_model.specs.Items.{size_of}
use Rattle.crush_nodes.specs.Seen.{items_of}
use Rattle.crush_walks.specs.Runs.{weights_in, weights_of}
use Rattle.crush_walks.proofs.runs.+push_weights.Given as goal

abbrev pub decreases-push_weights : goal.decreases-push_weights
decreases-push_weights g l = size_of (items_of l.items.now)

abbrev pub invariant-loop-node : goal.invariant-loop-node
invariant-loop-node g l = weights_of l.runs.items ≡ weights_of l.fn.runs.items ++ weights_in (items_of (take l.node-index l.items))

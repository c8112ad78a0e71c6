use Rattle.std.proofs.Common.{◌≡◌, ◌+◌, take}
use Rattle.crush_model.specs.Stored.{weight_sum}
use Rattle.crush_nodes.specs.Seen.{items_of}
use Rattle.crush_nodes.proofs.stored.is_sum_of.Given as goal

abbrev pub invariant-loop-node : goal.invariant-loop-node
invariant-loop-node g l = l.left + weight_sum (items_of (take l.node-index l.items)) ≡ l.fn.sum

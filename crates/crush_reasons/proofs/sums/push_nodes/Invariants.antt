use Rattle.std.proofs.Common.{◌≡◌, ◌++◌, take}
use Rattle.crush_nodes.specs.Seen.{items_of}
use Rattle.crush_reasons.specs.Sums.{sums_of}
use Rattle.crush_reasons.proofs.sums.push_nodes.Given as goal

abbrev pub invariant-loop-node : goal.invariant-loop-node
invariant-loop-node g l = l.sums.items ≡ l.fn.sums.items ++ sums_of (items_of (take l.node-index l.nodes))

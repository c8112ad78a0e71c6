use Rattle.std.proofs.Common.{◌≡◌, take, map}
use Rattle.crush_items.proofs.order.references.Given as goal

abbrev pub invariant-loop-node : goal.invariant-loop-node
invariant-loop-node g l = map (λ r. r.now) l.references.items ≡ take l.node-index l.nodes

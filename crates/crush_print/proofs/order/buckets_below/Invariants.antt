use Rattle.std.proofs.Common.{◌≡◌, [], ◌∷◌, take, map}
use Rattle.std.specs.Prelude.{flat_map}
use Rattle.crush_nodes.specs.Seen.{items_of}
use Rattle.crush_print.specs.ItemsText.{buckets_among}
use Rattle.crush_print.proofs.order.buckets_below.Given as goal

abbrev pub invariant-loop-node : goal.invariant-loop-node
invariant-loop-node g l = map (λ b. b.now) l.found.items ≡ flat_map (λ r. buckets_among (items_of (r.now ∷ []))) (take l.node-index l.nodes)

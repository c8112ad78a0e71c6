use Rattle.std.proofs.Common.{◌≡◌, ◌∷◌, [], drop}
use Rattle.crush_model.specs.Items.{size_of}
use Rattle.crush_nodes.specs.Apart.{have_distinct_keys}
use Rattle.crush_nodes.specs.Seen.{items_of}
use Rattle.crush_nodes.proofs.apart.+has_distinct_keys.Given as goal

abbrev pub decreases-has_distinct_keys : goal.decreases-has_distinct_keys
decreases-has_distinct_keys g l = size_of (items_of (l.node.now ∷ []))

abbrev pub invariant-loop-i : goal.invariant-loop-i
invariant-loop-i g l = have_distinct_keys (items_of l.items) ≡ have_distinct_keys (items_of (drop l.i l.items))

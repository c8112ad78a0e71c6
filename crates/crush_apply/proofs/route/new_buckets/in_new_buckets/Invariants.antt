use Rattle.std.proofs.Common.{◌≡◌, [], ◌∷◌, take}
use Rattle.crush_nodes.specs.Seen.{items_of}
use Rattle.crush_edits.specs.Put.{with_ids}
use Rattle.crush_edits.specs.Boxes.{boxes}
use Rattle.crush_apply.specs.Stopped.{stops_data}
use Rattle.crush_apply.proofs.route.new_buckets.in_new_buckets.Given as goal

-- the item is in new buckets of the stops so far
abbrev pub invariant-loop-k : goal.invariant-loop-k
invariant-loop-k g l = items_of (l.node ∷ []) ≡ boxes 1 (items_of (l.fn.item ∷ [])) (with_ids (take l.k l.ids) (stops_data l.at (take l.k l.stops)))

use Rattle.std.proofs.Common.{◌≡◌, take, map}
use Rattle.crush_items.specs.ById.{places_from}
use Rattle.crush_items.specs.Items.{item_entry}
use Rattle.crush_items.proofs.by_id.places_of.Given as goal

abbrev pub invariant-loop-item : goal.invariant-loop-item
invariant-loop-item g l = (l.places.items ≡ places_from 0 (map item_entry (take l.item-index l.items))) × (l.at ≡ l.item-index)

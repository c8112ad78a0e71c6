use Rattle.std.proofs.Common.{◌≡◌, ◌++◌, List, take, map}
use Rattle.std.specs.Prelude.{None, flat_map}
use Rattle.crush_model.specs.Stands.{Stands}
use Rattle.crush_model.specs.Table.{Row}
use Rattle.crush_items.specs.Entries.{EntryData}
use Rattle.crush_items.specs.Items.{item_entry}
use Rattle.crush_compare.specs.NamedPairs.{old_pair}
use Rattle.crush_compare.specs.PairItems.{items_at}
use Rattle.crush_compare.proofs.by_name.push_gone.Given as goal

-- the pairs appended so far are those of the items visited so far
abbrev pub invariant-loop-item : goal.invariant-loop-item
invariant-loop-item g l =
    (
    (t u : List Row) (fs : List EntryData) → Stands l.new.forest u
    → map (items_at (map item_entry l.items) fs) l.pairs.items ≡ map (items_at (map item_entry l.items) fs) l.fn.pairs.items ++ flat_map (λ x. old_pair l.devices None t u (item_entry x).item) (take l.item-index l.items)
    )
    × (l.at ≡ l.item-index)

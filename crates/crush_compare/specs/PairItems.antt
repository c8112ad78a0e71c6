-- What two maps say about the item of a pair, without its class ids.
use Rattle.std.specs.Prelude.{ℕ, List, Option, option_and_then}
use Rattle.std.specs.List.{slice_get}
use Rattle.std.specs.Option.{option_map}
use Rattle.crush_items.specs.Entries.{EntryData}
use Rattle.crush_items.specs.ItemData.{ItemData}
use Rattle.crush_compare.specs.NamedPairs.{PairData}
use Rattle.crush_compare.specs.declared.by_id.Pair.{Pair}

-- the item at the position `at` of the list es; none if `at` is none or is not a position of the list
abbrev pub item_at : List EntryData → Option ℕ → Option ItemData
item_at es at = option_map (λ e. e.item) (option_and_then (slice_get es) at)

-- the items at the positions of a pair
abbrev pub items_at : List EntryData → List EntryData → Pair → PairData
items_at es fs p = record { before = item_at es p.before; after = item_at fs p.after }

-- Which items and which pairs a `Comparison` of two maps has. The definitions use the tables of the maps. A table is a list with one row for each item of a map.
use Rattle.std.specs.Prelude.{◌≡◌, ℕ, List, Option, None, map}
use Rattle.crush_model.specs.Table.{Row}
use Rattle.crush_items.specs.Items.{HasEntries, item_entry, item_step}
use Rattle.crush_items.specs.Tree.{tree_rows}
use Rattle.crush_units.specs.declared.id.ItemId.{ItemId}
use Rattle.crush_compare.specs.AllIds.{all_ids}
use Rattle.crush_compare.specs.IdPairs.{EntryPair, entries_at, id_entries}
use Rattle.crush_compare.specs.NamedItems.{HasEachOnce}
use Rattle.crush_compare.specs.NamedPairs.{PairData, pairs}
use Rattle.crush_compare.specs.PairItems.{items_at}
use Rattle.crush_compare.specs.PartIds.{part_ids}
use Rattle.crush_compare.specs.declared.by_id.Pair.{Pair}
use Rattle.crush_compare.specs.declared.comparison.Comparison.{Comparison}
use Rattle.crush_compare.specs.declared.identity.Devices.{Devices}

-- what both maps say about the item of a pair
abbrev pub pair_entries : {A B : _} → Comparison A B → Pair → EntryPair
pair_entries both p = entries_at (map item_entry both.old.all.items) (map item_entry both.new.all.items) p

-- what both maps say about the item of a pair, without its class ids
abbrev pub pair_items : {A B : _} → Comparison A B → Pair → PairData
pair_items both p = items_at (map item_entry both.old.all.items) (map item_entry both.new.all.items) p

-- OF TREES: the items of both maps are in the order of the trees of both tables
pub record AreOfTrees {A B : Type 0} (t u : List Row) (both : Comparison A B) : Type 0 where
  pub before : map item_step both.old.all.items ≡ tree_rows t
  pub after : map item_step both.new.all.items ≡ tree_rows u

-- BY IDS: `old` and `new` have the items of the tables t and u. There is one pair for each id that at least one table has, in the order of the ids. The pair has what each table says about the id
pub record IsOfIds {A B : Type 0} (t u : List Row) (both : Comparison A B) : Type 0 where
  pub before : HasEntries t (map item_entry both.old.all.items)
  pub after : HasEntries u (map item_entry both.new.all.items)
  pub pairs : map (pair_entries both) both.pairs.items ≡ map (id_entries t u) (all_ids t u)

-- BY IDS, OF A PART: `old` and `new` have the items of the tables t and u. There is one pair for the item i and one for each item that is below i in at least one table, in the order of the ids. The pair has what each table says about the item's id
pub record IsOfIdsBelow {A B : Type 0} (i : ItemId) (t u : List Row) (both : Comparison A B) : Type 0 where
  pub before : HasEntries t (map item_entry both.old.all.items)
  pub after : HasEntries u (map item_entry both.new.all.items)
  pub pairs : map (pair_entries both) both.pairs.items ≡ map (id_entries t u) (part_ids t u i)

-- BY NAMES: `old` and `new` have the items of the tables t and u, and the pairs are those that `pairs` defines for all items. Each item of either table is in exactly one pair
pub record IsOfNames {A B : Type 0} (by : Devices) (t u : List Row) (both : Comparison A B) : Type 0 where
  pub before : HasEntries t (map item_entry both.old.all.items)
  pub after : HasEntries u (map item_entry both.new.all.items)
  pub pairs : map (pair_items both) both.pairs.items ≡ pairs by None t u
  pub each : HasEachOnce t u (map (pair_items both) both.pairs.items)

-- BY NAMES, IN A PART: `old` and `new` have the items of the tables t and u, and the pairs are those that `pairs` defines for the part that the name `under` selects
pub record IsPartOfNames {A B : Type 0} (by : Devices) (under : Option (List ℕ)) (t u : List Row) (both : Comparison A B) : Type 0 where
  pub before : HasEntries t (map item_entry both.old.all.items)
  pub after : HasEntries u (map item_entry both.new.all.items)
  pub pairs : map (pair_items both) both.pairs.items ≡ pairs by under t u

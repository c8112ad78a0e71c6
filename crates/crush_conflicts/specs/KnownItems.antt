-- The condition that a list has the items of a forest in order, and that an index gives the position of each item in this list by the item's id.
use Rattle.std.specs.Prelude.{◌≡◌, ℕ, ◌<◌, ◌^◌, List, length, map}
use Rattle.crush_model.specs.Forest.{ForestData}
use Rattle.crush_model.specs.Stands.{Stands}
use Rattle.crush_model.specs.Table.{Row}
use Rattle.crush_items.specs.ById.{AreById}
use Rattle.crush_items.specs.Items.{item_entry, item_step}
use Rattle.crush_items.specs.Tree.{tree_rows}
use Rattle.crush_items.specs.declared.by_id.Place.{Place}
use Rattle.crush_items.specs.declared.items.Item.{Item}

-- for each table that the forest represents, the items are those of the table's tree, in the order of this tree, and `places` has the position of each item in this list, sorted by the items' ids
pub record AreItemsOf {A : _} (f : ForestData) (items : List (Item A)) (places : List Place) : Type 0 where
  pub tree : (t : List Row) → Stands f t → map item_step items ≡ tree_rows t
  pub by_id : (t : List Row) → Stands f t → AreById t (map item_entry items) places

-- How a row of the tree that shows what has changed is seen as plain data, and which two tables its two maps have.
use Rattle.std.specs.Prelude.{◌≡◌, ℕ, Bool, List, map}
use Rattle.std.specs.Cmp.Lexicographic.{pointwise}
use Rattle.std.specs.Option.{option_map}
use Rattle.crush_units.specs.declared.id.ItemId.{ItemId}
use Rattle.crush_model.specs.Stands.{Stands}
use Rattle.crush_model.specs.Table.{Row}
use Rattle.crush_items.specs.ById.{AreById}
use Rattle.crush_items.specs.Entries.{EntryData}
use Rattle.crush_items.specs.Items.{item_entry}
use Rattle.crush_items.specs.SeenItem.{seen_data}
use Rattle.crush_compare.specs.Comparison.{AreOfTrees, pair_entries}
use Rattle.crush_compare.specs.IdPairs.{EntryPair, class_ids_of}
use Rattle.crush_compare.specs.declared.comparison.Comparison.{Comparison}
use Rattle.crush_since.specs.Changes.{ChangeData}
use Rattle.crush_since.specs.ItemParts.{same_class_id}
use Rattle.crush_since.specs.declared.changes.both.Both.{Both}
use Rattle.crush_since.specs.declared.changes.rows.TreeRow.{TreeRow}
use Rattle.crush_since.specs.declared.changes.seen.Change.{Change}

abbrev pub change_data : Change → ChangeData
change_data c = record {
  id = c.id;
  depth = c.depth;
  stands = c.stands;
  was = option_map seen_data c.before;
  is = option_map seen_data c.after;
  same_class_ids = c.same_class_ids;
}

-- the row of an item, given what both maps say about the item
abbrev pub entries_change : EntryPair → Bool → ℕ → ItemId → ChangeData
entries_change e stands depth i = record {
  id = i;
  depth = depth;
  stands = stands;
  was = option_map (λ (x : EntryData). x.item) e.before;
  is = option_map (λ (x : EntryData). x.item) e.after;
  same_class_ids = pointwise same_class_id (class_ids_of e.before) (class_ids_of e.after);
}

abbrev pub row_change : {A B : _} → Comparison A B → TreeRow → ChangeData
row_change maps r = entries_change (pair_entries maps r.pair) r.stands r.depth r.id

-- the two maps of `both` have the tables t and u. The lists of places in `both` belong to the items of these maps, and its list of buckets belongs to the old map
pub record AreTables {A B : Type 0} (t u : List Row) (both : Both A B) : Type 0 where
  pub old : Stands both.maps.old.map.now.forest t
  pub new : Stands both.maps.new.map.now.forest u
  pub before : AreById t (map item_entry both.maps.old.all.items) both.before.places.items
  pub after : AreById u (map item_entry both.maps.new.all.items) both.after.places.items
  pub trees : AreOfTrees t u both.maps
  pub buckets : both.buckets ≡ both.maps.old.map.now.forest

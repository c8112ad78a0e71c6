-- The text that says what has changed in a part of two maps, and the tests whether anything has changed.
use Rattle.std.specs.Prelude.{Bool, ℕ, List, ◌++◌, flat_map}
use Rattle.crush_units.specs.declared.id.ItemId.{ItemId}
use Rattle.crush_compare.specs.PartIds.{part_ids}
pub use Rattle.crush_compare.specs.PartIds.{each_once, step_ids, ids_below, part_ids}
use Rattle.crush_since.specs.Changes.{has_some}
use Rattle.crush_since.specs.Settings.{setting_lines}
use Rattle.crush_since.specs.Since.{PlainMap, id_line, item_lines}

-- SINCE PART TEXT: the lines about the item i, and about all items that are below it in at least one of the maps. The lines that aren't about items are left out
unfoldable pub since_part_text : ItemId → PlainMap → PlainMap → List ℕ
since_part_text i old new = flat_map (id_line old new) (part_ids old.table new.table i)

-- TESTS. The first says whether there is a line about an item or a setting. The second says whether there is a line about an item of a part
unfoldable pub is_changed : PlainMap → PlainMap → Bool
is_changed old new = has_some (item_lines old new ++ setting_lines old.setting new.setting)

unfoldable pub is_part_changed : ItemId → PlainMap → PlainMap → Bool
is_part_changed i old new = has_some (since_part_text i old new)

-- The text that says what has changed from one map to another, with a line for each item that differs. docs/user/FORMATS.md describes it in words.
use Rattle.std.specs.Prelude.{ℕ, List, ◌++◌, flat_map, codes}
use Rattle.crush_units.specs.declared.id.ItemId.{ItemId}
use Rattle.crush_units.specs.Weight.{weight_text}
use Rattle.crush_model.specs.Table.{Row, total}
use Rattle.crush_edits.specs.Setting.{SettingData}
use Rattle.crush_compare.specs.AllIds.{all_ids}
use Rattle.crush_compare.specs.Difference.{same_class_ids}
pub use Rattle.crush_compare.specs.AllIds.{once_behind, once}
unfoldable pub use Rattle.crush_compare.specs.AllIds.{all_buckets, all_devices, all_ids}
pub use Rattle.crush_compare.specs.Difference.{same_class_ids}
use Rattle.crush_since.specs.Classes.{class_lines}
use Rattle.crush_since.specs.Emptied.{emptied_lines}
use Rattle.crush_items.specs.ItemData.{item_of}
use Rattle.crush_since.specs.ItemParts.{item_line}
use Rattle.crush_since.specs.Settings.{setting_lines}
use Rattle.crush_since.specs.Tallies.{tally_of, counts_line}
use Rattle.crush_since.specs.declared.since.tally.Tally.{Tally}

-- a map as plain data: its setting and its table
pub record PlainMap : Type 0 where
  pub setting : SettingData
  pub table : List Row

abbrev pub plain_map : SettingData → List Row → PlainMap
plain_map s t = record { setting = s; table = t }

-- the line about the item with the id i; nothing if the two maps say the same about the id
unfoldable pub id_line : PlainMap → PlainMap → ItemId → List ℕ
id_line old new i = item_line old.setting new.setting i (item_of old.table i) (item_of new.table i) (same_class_ids old.table new.table i)

-- the lines of all ids
unfoldable pub item_lines : PlainMap → PlainMap → List ℕ
item_lines old new = flat_map (id_line old new) (all_ids old.table new.table)

-- the line with the total weights of all placed devices in the old map and in the new map
unfoldable pub totals_line : ℕ → ℕ → List ℕ
totals_line before after = codes "total " ++ weight_text before ++ codes " to " ++ weight_text after ++ codes "\n"

-- the lines that follow after the lines of the items: about settings, rules that take nothing, classes, totals and counts
unfoldable pub last_lines : PlainMap → PlainMap → Tally → List ℕ
last_lines old new counts =
    setting_lines old.setting new.setting ++ emptied_lines old.table new.table new.setting ++ class_lines old.table new.table new.setting ++ totals_line (total old.table) (total new.table) ++ counts_line counts

-- SINCE TEXT: the lines of the items, followed by the lines that aren't about single items
unfoldable pub since_text : PlainMap → PlainMap → List ℕ
since_text old new = item_lines old new ++ last_lines old new (tally_of old.table new.table (all_ids old.table new.table))

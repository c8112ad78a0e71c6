-- Laws about the texts that say what has changed.
use Rattle.std.specs.Prelude.{◌≡◌, ◌↔◌, List, [], ◌++◌, codes}
use Rattle.crush_units.specs.declared.id.ItemId.{ItemId}
use Rattle.crush_edits.specs.Setting.{SettingData}
use Rattle.crush_model.specs.Lawful.{Lawful}
use Rattle.crush_model.specs.Table.{Row, row_of, total}
use Rattle.crush_since.specs.ChangeText.{changes_text}
use Rattle.crush_since.specs.Since.{plain_map, item_lines, since_text, totals_line}
use Rattle.crush_since.specs.Tallies.{counts_line, no_tally}

-- if a map is compared with itself, the text has only its last two lines, and all counts are 0
abbrev pub NothingSinceItself : Type 0
NothingSinceItself = (s : SettingData) (t : List Row) → since_text (plain_map s t) (plain_map s t) ≡ totals_line (total t) (total t) ++ counts_line no_tally

-- if two tables are lawful, no item has a line if and only if the tables have equal rows. The order of the rows doesn't matter
abbrev pub NoItemWhereRowsAreEqual : Type 0
NoItemWhereRowsAreEqual = (s p : SettingData) (t u : List Row) → Lawful t → Lawful u → (item_lines (plain_map s t) (plain_map p u) ≡ []) ↔ ((i : ItemId) → row_of t i ≡ row_of u i)

-- if a map whose table is lawful is compared with itself, the tree has no row. The text has only the headings and the last two lines, and all counts are 0
abbrev pub NoRowSinceItself : Type 0
NoRowSinceItself = (s : SettingData) (t : List Row) → Lawful t
    → changes_text (plain_map s t) (plain_map s t) ≡ codes "ID  CLASS  WAS  WEIGHT  TYPE NAME\n" ++ (totals_line (total t) (total t) ++ counts_line no_tally)

-- The text of the tree that shows what has changed from one map to another. docs/user/FORMATS.md describes it in words.
use Rattle.std.specs.Prelude.{ℕ, Bool, true, false, List, [], ◌∷◌, ◌++◌, Option, None, Some, if◌then◌else◌, flat_map, codes, unwrap_or}
use Rattle.std.specs.Option.{option_map}
use Rattle.crush_units.specs.declared.id.ItemId.{ItemId}
use Rattle.crush_units.specs.declared.id.ItemId.TheVariants.{Device, Bucket}
use Rattle.crush_units.specs.Weight.{weight_text}
use Rattle.crush_edits.specs.Setting.{SettingData}
use Rattle.crush_print.specs.Lines.{id_text}
use Rattle.crush_since.specs.Changes.{ChangeData, change_rows}
use Rattle.crush_compare.specs.Equal.{same_option}
use Rattle.crush_items.specs.ItemData.{ItemData}
use Rattle.crush_since.specs.ItemParts.{part, behind, name_part, type_part, class_part, alg_part, class_ids_part}
use Rattle.crush_since.specs.Since.{PlainMap, all_ids, last_lines}
use Rattle.crush_since.specs.Tallies.{tally_of}
use Rattle.crush_print.specs.TreeText.{at_right, at_left, widest, row_text, indent, kind_prefix}
use Rattle.crush_since.specs.declared.changes.widths.ChangeWidths.{ChangeWidths}

-- WEIGHTS: what the item weighed in the row's place; none if the old map didn't have the item there. If the new map has the item there (`stands`), the old map had it there too if and only if the item has the same parent in both maps
abbrev pub weighed_here : Bool → Option ItemData → Option ItemData → Option ℕ
weighed_here stands None after = None
weighed_here false (Some a) after = Some a.view.weight
weighed_here true (Some a) None = None
weighed_here true (Some a) (Some b) = if same_option a.view.parent b.view.parent then Some a.view.weight else None

abbrev pub weighed : ChangeData → Option ℕ
weighed x = weighed_here x.stands x.was x.is

-- what the item weighs in the row's place; none if the new map doesn't have the item there
abbrev pub weighs : ChangeData → Option ℕ
weighs x = if x.stands then option_map (λ (b : ItemData). b.view.weight) x.is else None

-- NOTES: what has changed in an item besides its weight. The row itself shows the item's place, type, class and weight. The definition below, `holder_word`, is the word for the item's parent
abbrev pub holder_word : ItemId → Option (List ℕ) → Option ℕ → List ℕ
holder_word i holder (Some p) = unwrap_or holder []
holder_word (Device d) holder None = codes "(unplaced)"
holder_word (Bucket b) holder None = codes "(root)"

abbrev pub from_part : ItemData → ItemData → List (List ℕ)
from_part a b = part (same_option a.view.parent b.view.parent) (codes "from " ++ holder_word a.view.id a.holder a.view.parent)

-- the notes on an item that both maps have: one for each column that differs, except for the weight and the class ids
abbrev pub column_notes : SettingData → SettingData → ItemData → ItemData → List (List ℕ)
column_notes s p a b = name_part a.view b.view ++ type_part s p a.view b.view ++ from_part a b ++ class_part a.view b.view ++ alg_part a.view b.view

-- the notes on an item that is in this place in the new map
abbrev pub stands_notes : SettingData → SettingData → Option ItemData → Option ItemData → Bool → List (List ℕ)
stands_notes s p before None same = []
stands_notes s p None (Some b) same = codes "made" ∷ []
stands_notes s p (Some a) (Some b) same = column_notes s p a b ++ class_ids_part same

-- the notes on an item that was in this place only in the old map. If the new map has the item in another place, the notes are in the row at that place
abbrev pub stood_notes : Option ItemData → List (List ℕ)
stood_notes None = codes "removed" ∷ []
stood_notes (Some b) = []

abbrev pub notes : SettingData → SettingData → ChangeData → List (List ℕ)
notes s p x = if x.stands then stands_notes s p x.was x.is x.same_class_ids else stood_notes x.is

-- the notes in brackets; nothing if there are no notes
abbrev pub brackets_text : List ℕ → List ℕ
brackets_text text = codes " (" ++ text ++ codes ")"

abbrev pub brackets : List (List ℕ) → List ℕ
brackets [] = []
brackets (p ∷ rest) = brackets_text (p ++ behind rest)

-- WORDS of the columns. If the new map has the item in the row's place, the class, the type and the name are those in the new map, and otherwise those in the old map
abbrev pub id_word : ChangeData → List ℕ
id_word x = id_text x.id

abbrev pub item_class : Option ItemData → List ℕ
item_class None = []
item_class (Some v) = unwrap_or v.view.class []

abbrev pub class_word : ChangeData → List ℕ
class_word x = if x.stands then item_class x.is else item_class x.was

abbrev pub weight_or_dash : Option ℕ → List ℕ
weight_or_dash None = codes "-"
weight_or_dash (Some w) = weight_text w

abbrev pub was_word : ChangeData → List ℕ
was_word x = weight_or_dash (weighed x)

abbrev pub weight_word : ChangeData → List ℕ
weight_word x = weight_or_dash (weighs x)

-- a bucket's type and its name; for a device, only its name
abbrev pub kind_and_name : SettingData → ItemId → Option ItemData → List ℕ
kind_and_name s i None = []
kind_and_name s i (Some v) = kind_prefix s i v.view.kind ++ v.view.name

abbrev pub name_word : SettingData → SettingData → ChangeData → List ℕ
name_word s p x = if x.stands then kind_and_name p x.id x.is else kind_and_name s x.id x.was

-- LINES. This definition puts two columns next to each other, with two spaces between them
abbrev pub side_by_side : List ℕ → List ℕ → List ℕ
side_by_side was weight = was ++ codes "  " ++ weight

-- the widths of the first four columns
abbrev pub widths_of : List ChangeData → ChangeWidths
widths_of rows = record { id = widest id_word 2 rows; class = widest class_word 5 rows; was = widest was_word 3 rows; weight = widest weight_word 6 rows }

-- the headings
unfoldable pub heading : ChangeWidths → List ℕ
heading w = row_text (at_left w.id (codes "ID")) (at_left w.class (codes "CLASS")) (side_by_side (at_left w.was (codes "WAS")) (at_left w.weight (codes "WEIGHT"))) (codes "TYPE NAME")

-- single columns of a row's line, and the whole line
unfoldable pub weights_column : ChangeWidths → ChangeData → List ℕ
weights_column w x = side_by_side (at_right w.was (was_word x)) (at_right w.weight (weight_word x))

unfoldable pub name_column : SettingData → SettingData → ChangeData → List ℕ
name_column s p x = indent x.depth ++ name_word s p x ++ brackets (notes s p x)

unfoldable pub change_line : SettingData → SettingData → ChangeWidths → ChangeData → List ℕ
change_line s p w x = row_text (at_right w.id (id_word x)) (at_right w.class (class_word x)) (weights_column w x) (name_column s p x)

-- the headings and a line for each row. Each column is wide enough for its heading and for its words in all rows
unfoldable pub rows_text : SettingData → SettingData → List ChangeData → List ℕ
rows_text s p rows = heading (widths_of rows) ++ flat_map (change_line s p (widths_of rows)) rows

-- CHANGES TEXT: the text of the tree that shows what has changed, and the lines that follow it
unfoldable pub changes_text : PlainMap → PlainMap → List ℕ
changes_text old new = rows_text old.setting new.setting (change_rows old new) ++ last_lines old new (tally_of old.table new.table (all_ids old.table new.table))

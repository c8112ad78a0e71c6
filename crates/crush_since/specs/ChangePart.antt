-- A part of the tree that shows what has changed: the row of an item and the rows below it, down to the buckets of a given type. docs/user/FORMATS.md describes the part in words.
use Rattle.std.specs.Prelude.{◌≡◌, ℕ, ◌-◌, Bool, false, not, ◌&&◌, ◌||◌, List, [], ◌∷◌, ◌++◌, Option, None, Some, if◌then◌else◌, is_some, nat_lt}
use Rattle.std.specs.Option.{option_map}
use Rattle.crush_units.specs.declared.id.ItemId.{ItemId}
use Rattle.crush_units.specs.Id.{same_id}
use Rattle.crush_items.specs.ItemData.{ItemData}
use Rattle.crush_print.specs.TreePart.{whole_tree}
use Rattle.crush_print.specs.declared.part.TreePart.{TreePart}
use Rattle.crush_since.specs.ChangeText.{changes_text, rows_text}
use Rattle.crush_since.specs.Changes.{ChangeData, change_rows}
use Rattle.crush_since.specs.Equal.{same_option}
use Rattle.crush_since.specs.Since.{PlainMap, all_ids, last_lines}
use Rattle.crush_since.specs.Tallies.{tally_of}

-- UNDER an item. This test says whether a row is at the item's own place. This is the place where the new map has the item or, if the new map doesn't have the item, the place where the old map had it
abbrev pub is_own_row : ItemId → ChangeData → Bool
is_own_row i x = same_id x.id i && (x.stands || not (is_some x.is))

-- a row of the whole tree as a row of the part. The part's top is at the depth `top`, so `top` is subtracted from the row's depth
abbrev pub in_part : ℕ → ChangeData → ChangeData
in_part top x = record { id = x.id; depth = x.depth - top; stands = x.stands; was = x.was; is = x.is; same_class_ids = x.same_class_ids }

-- the rows of the part after its top, up to the first row that isn't deeper than the top
abbrev pub rows_below : ℕ → List ChangeData → List ChangeData
rows_below top [] = []
rows_below top (x ∷ rest) = if nat_lt top x.depth then in_part top x ∷ rows_below top rest else []

-- the row at the item's own place, with the depth 0, followed by the rows below it; nothing if the item has no row at its own place
abbrev pub rows_at : ItemId → List ChangeData → List ChangeData
rows_at i [] = []
rows_at i (x ∷ rest) = if is_own_row i x then in_part x.depth x ∷ rows_below x.depth rest else rows_at i rest

-- if an item is given, the row at the item's own place and the rows below it; otherwise all rows
abbrev pub rows_under : Option ItemId → List ChangeData → List ChangeData
rows_under None rows = rows
rows_under (Some i) rows = rows_at i rows

-- DOWN TO a type. This is the number of the type that a row's item has: in the new map if the new map has the item in the row's place, and otherwise in the old map
abbrev pub row_kind : ChangeData → Option ℕ
row_kind x = option_map (λ (v : ItemData). v.view.kind) (if x.stands then x.is else x.was)

-- whether a row is deeper than the depth `closed` of a bucket, so that the row is below this bucket; false if no depth is given
abbrev pub is_closed : Option ℕ → ℕ → Bool
is_closed None depth = false
is_closed (Some top) depth = nat_lt top depth

-- the depth of the row if its item has the type `kind`, and otherwise none. The item's subtree is then the run of deeper rows right after this row
abbrev pub closed_by : ℕ → ChangeData → Option ℕ
closed_by kind x = if same_option (row_kind x) (Some kind) then Some x.depth else None

-- removes the rows that are below an item of the type `kind`. `closed` is the depth of the last row that was kept, if the item of that row has the type
abbrev pub down_to : ℕ → Option ℕ → List ChangeData → List ChangeData
down_to kind closed [] = []
down_to kind closed (x ∷ rest) = if is_closed closed x.depth then down_to kind closed rest else x ∷ down_to kind (closed_by kind x) rest

-- the rows down to the type if a type is given, and otherwise all rows
abbrev pub cut : Option ℕ → List ChangeData → List ChangeData
cut None rows = rows
cut (Some kind) rows = down_to kind None rows

-- PART ROWS: the rows of the tree that are at or below the part's item, down to the part's type
unfoldable pub part_rows : TreePart → PlainMap → PlainMap → List ChangeData
part_rows part old new = cut part.down_to (rows_under part.under (change_rows old new))

-- the lines that follow after the rows; none if the part has a top item
abbrev pub lines_behind : Option ItemId → PlainMap → PlainMap → List ℕ
lines_behind None old new = last_lines old new (tally_of old.table new.table (all_ids old.table new.table))
lines_behind (Some i) old new = []

-- CHANGES PART TEXT: the text of a part of the tree, and the lines that follow it
unfoldable pub changes_part_text : TreePart → PlainMap → PlainMap → List ℕ
changes_part_text part old new = rows_text old.setting new.setting (part_rows part old new) ++ lines_behind part.under old new

-- the law: the part that has no top item and no type is the whole tree
abbrev pub AllChangesAreAPart : Type 0
AllChangesAreAPart = (old new : PlainMap) → changes_part_text whole_tree old new ≡ changes_text old new

-- The rows of the tree that shows what has changed from one map to another.
use Rattle.std.specs.Prelude.{ℕ, zero, suc, ◌+◌, Bool, true, false, List, [], ◌∷◌, ◌++◌, Option, None, Some, if◌then◌else◌, length, map, flat_map}
use Rattle.std.specs.Option.{option_map_or}
use Rattle.crush_units.specs.declared.id.ItemId.{ItemId}
use Rattle.crush_units.specs.declared.id.ItemId.TheVariants.{Device, Bucket}
use Rattle.crush_model.specs.Table.{Row, kids, is_there}
use Rattle.crush_print.specs.MapText.{root_numbers}
use Rattle.crush_compare.specs.Equal.{same_option}
use Rattle.crush_items.specs.ItemData.{ItemData, item_of}
use Rattle.crush_since.specs.Since.{PlainMap, same_class_ids, id_line}
use Rattle.crush_print.specs.Tree.{unplaced_numbers}

-- a row of the tree. If `stands` is true, the new map has the item in the row's place, and otherwise only the old map had the item in this place. `depth` is the number of buckets above the item. `was` is what the old map says about the item's id, and `is` is what the new map says about it
pub record ChangeData : Type 0 where
  pub id : ItemId
  pub depth : ℕ
  pub stands : Bool
  pub was : Option ItemData
  pub is : Option ItemData
  pub same_class_ids : Bool

abbrev pub change_at : List Row → List Row → Bool → ℕ → ItemId → ChangeData
change_at t u stands depth i = record { id = i; depth = depth; stands = stands; was = item_of t i; is = item_of u i; same_class_ids = same_class_ids t u i }

-- WHAT WAS HERE: the row of an item that only the old map had in this place. If the item is a bucket that the new map doesn't have at all, the rows of the items that this bucket held follow, in the same way. These rows are at most n levels deep
unfoldable pub stood_at : List Row → List Row → ℕ → ℕ → ItemId → List ChangeData
stood_at t u n depth (Device d) = change_at t u false depth (Device d) ∷ []
stood_at t u zero depth (Bucket b) = []
stood_at t u (suc n) depth (Bucket b) = change_at t u false depth (Bucket b) ∷ (if is_there u (Bucket b) then [] else flat_map (stood_at t u n (depth + 1)) (kids t b))

-- whether the new map has the item i in this place. `place` is the parent; none means that the item has no parent
abbrev pub stands_in : List Row → Option ℕ → ItemId → Bool
stands_in u place i = option_map_or (λ (x : ItemData). same_option x.view.parent place) (item_of u i) false

-- the rows of an item that the old map had in this place, and of a list of such items in their order. There are no rows if the new map has the item in the same place. `place` is the parent; none means that the item had no parent
abbrev pub left_at : List Row → List Row → ℕ → Option ℕ → ItemId → List ChangeData
left_at t u depth place i = if stands_in u place i then [] else stood_at t u (length t) depth i

unfoldable pub left_from : List Row → List Row → ℕ → Option ℕ → List ItemId → List ChangeData
left_from t u depth place items = flat_map (left_at t u depth place) items

-- WHAT IS HERE: the row of an item of the new map. It is left out if the item doesn't differ and there are no rows below it
abbrev pub has_some : {X : Type 0} → List X → Bool
has_some [] = false
has_some (x ∷ xs) = true

unfoldable pub is_listed : PlainMap → PlainMap → ItemId → Bool
is_listed old new i = has_some (id_line old new i)

abbrev pub with_below : Bool → ChangeData → List ChangeData → List ChangeData
with_below told row [] = if told then row ∷ [] else []
with_below told row (x ∷ below) = row ∷ (x ∷ below)

-- the rows of an item of the new map and of all items below it, in order, at most n levels deep. After the items of a bucket come the rows of the items that only the old map had in the bucket
unfoldable pub stands_at : PlainMap → PlainMap → ℕ → ℕ → ItemId → List ChangeData
stands_at old new n depth (Device d) = with_below (is_listed old new (Device d)) (change_at old.table new.table true depth (Device d)) []
stands_at old new zero depth (Bucket b) = []
stands_at old new (suc n) depth (Bucket b) =
    with_below (is_listed old new (Bucket b)) (change_at old.table new.table true depth (Bucket b))
    (flat_map (stands_at old new n (depth + 1)) (kids new.table b) ++ left_from old.table new.table (depth + 1) (Some b) (kids old.table b))

-- CHANGE ROWS: first come the rows of the new map's roots, by id from -1 downward, and then the rows of the old map's roots that aren't roots in the new map. The rows of the unplaced devices follow: first those of the new map by ascending id, and then those of the devices that are unplaced only in the old map
unfoldable pub root_rows : PlainMap → PlainMap → List ChangeData
root_rows old new =
    flat_map (λ b. stands_at old new (length new.table) 0 (Bucket b)) (root_numbers new.table) ++ left_from old.table new.table 0 None (map Bucket (root_numbers old.table))

unfoldable pub unplaced_rows : PlainMap → PlainMap → List ChangeData
unplaced_rows old new =
    flat_map (λ d. stands_at old new (length new.table) 0 (Device d)) (unplaced_numbers new.table) ++ left_from old.table new.table 0 None (map Device (unplaced_numbers old.table))

unfoldable pub change_rows : PlainMap → PlainMap → List ChangeData
change_rows old new = root_rows old new ++ unplaced_rows old new

-- The tree of what has changed if only the devices of one class count. docs/user/FORMATS.md describes it in words.
use Rattle.std.specs.Prelude.{ℕ, Bool, false, ◌&&◌, ◌||◌, List, [], ◌∷◌, ◌++◌, Option, if◌then◌else◌, is_some, map, nat_lt, unwrap_or}
use Rattle.std.specs.Option.{option_map, option_map_or}
use Rattle.crush_model.specs.Table.{Row}
use Rattle.crush_items.specs.ItemData.{ItemData}
use Rattle.crush_print.specs.ClassWeights.{weight_of_class}
use Rattle.crush_print.specs.declared.part.TreePart.{TreePart}
use Rattle.crush_since.specs.ChangePart.{lines_behind, part_rows}
use Rattle.crush_since.specs.ChangeText.{rows_text}
use Rattle.crush_since.specs.Changes.{ChangeData}
use Rattle.crush_since.specs.Since.{PlainMap}

-- an item with this weight in place of its own, or with the weight 0 if no weight is given
abbrev pub with_weight : Option ℕ → ItemData → ItemData
with_weight w v = record v { view = record v.view { weight = unwrap_or w 0 } }

-- what the table t says about an item, but with the weight of the class c at this item in place of the item's own weight. The weight is 0 if the item isn't a device of the class and has no such device below it
abbrev pub of_class : List Row → List ℕ → ItemData → ItemData
of_class t c v = with_weight (weight_of_class t c v.view.id) v

-- whether there is an item which is a device of the class in the table t, or which has such a device below it
abbrev pub has_class : List Row → List ℕ → Option ItemData → Bool
has_class t c item = option_map_or (λ (v : ItemData). is_some (weight_of_class t c v.view.id)) item false

-- a row with the weights of the class in place of the item's own weights, in both maps
abbrev pub class_change : List Row → List Row → List ℕ → ChangeData → ChangeData
class_change t u c x = record x { was = option_map (of_class t c) x.was; is = option_map (of_class u c) x.is }

-- whether the item of a row is a device of the class, or has such a device below it, in at least one of the maps
abbrev pub is_of_class : List Row → List Row → List ℕ → ChangeData → Bool
is_of_class t u c x = has_class t c x.was || has_class u c x.is

-- the list has the rows that follow a row of the depth `depth`. The rows below that row are the first rows of the list, up to the first one that isn't deeper than `depth`. The definition says whether `counts` is true for at least one of these first rows
abbrev pub counts_below : {X : Type 0} → (X → Bool) → (X → ℕ) → ℕ → List X → Bool
counts_below counts depth_of depth [] = false
counts_below counts depth_of depth (x ∷ rest) = nat_lt depth (depth_of x) && (counts x || counts_below counts depth_of depth rest)

-- the rows for which `counts` is true, and the rows above such rows
abbrev pub staying : {X : Type 0} → (X → Bool) → (X → ℕ) → List X → List X
staying counts depth_of [] = []
staying counts depth_of (x ∷ rest) =
    if counts x || counts_below counts depth_of (depth_of x) rest then x ∷ staying counts depth_of rest else staying counts depth_of rest

-- CLASS ROWS: the rows whose items are devices of the class, or have such a device below them, in at least one of the maps, and the rows above such rows. Both weights of a row are those of the class
abbrev pub class_rows : List Row → List Row → List ℕ → List ChangeData → List ChangeData
class_rows t u c rows = map (class_change t u c) (staying (is_of_class t u c) (λ (x : ChangeData). x.depth) rows)

-- CLASS CHANGES TEXT: the text of a part of the tree, in which only the devices of the class count, and the lines that follow it. These lines count all devices
unfoldable pub class_changes_text : TreePart → List ℕ → PlainMap → PlainMap → List ℕ
class_changes_text part c old new = rows_text old.setting new.setting (class_rows old.table new.table c (part_rows part old new)) ++ lines_behind part.under old new

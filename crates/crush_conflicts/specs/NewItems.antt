-- New items, which are items whose ids the table t before a run doesn't have. They are found by their names.
use Rattle.std.specs.Prelude.{◌≡◌, ℕ, List, [], ◌∷◌, Option, None, Some, if◌then◌else◌, flat_map, map, option_and_then}
use Rattle.std.specs.Cmp.Lexicographic.{slice_cmp}
use Rattle.std.specs.List.Sorted.{IsPermutation, IsSorted}
use Rattle.std.specs.Ordering.{nat_cmp}
use Rattle.crush_units.specs.declared.id.ItemId.{ItemId}
use Rattle.crush_model.specs.Table.{Row, id_named, is_there}
use Rattle.crush_compare.specs.Equal.{same_text}
use Rattle.crush_items.specs.ItemData.{ItemData, item_of}
use Rattle.crush_items.specs.Tree.{WalkStepData, tree_rows}

-- the name of an item as a list. The list is empty if the table t has the item's id
abbrev pub new_name : List Row → WalkStepData → List (List ℕ)
new_name t step = if is_there t step.item.id then [] else step.item.name ∷ []

-- the names of the items of the table u whose ids the table t doesn't have, in the order of the tree of u
unfoldable pub new_names : List Row → List Row → List (List ℕ)
new_names t u = flat_map (new_name t) (tree_rows u)

-- ALL NEW NAMES of the tables us, in ascending order. If several of these tables have new items with the same name, the list has this name several times
pub record AreNewNames (t : List Row) (us : List (List Row)) (names : List (List ℕ)) : Type 0 where
  pub all : IsPermutation (flat_map (new_names t) us) names
  pub sorted : IsSorted (slice_cmp nat_cmp) names

-- the names, except for each name that is equal to the name before it. `last` is the name before the first name
abbrev pub each_once : Option (List ℕ) → List (List ℕ) → List (List ℕ)
each_once last [] = []
each_once last (n ∷ ns) = if same_text last (Some n) then each_once (Some n) ns else n ∷ each_once (Some n) ns

-- what the table u says about the item with this id. None if the item isn't new, which means that the table t has its id
abbrev pub if_new : List Row → List Row → ItemId → Option ItemData
if_new t u i = if is_there t i then None else item_of u i

-- what the table u says about the new item with this name. None if u has no item with this name, or if that item isn't new
unfoldable pub new_item : List Row → List Row → List ℕ → Option ItemData
new_item t u n = option_and_then (if_new t u) (id_named u n)

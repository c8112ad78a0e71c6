-- The counts of buckets that have different ids in two maps. Such a bucket is counted, but isn't listed as a difference, because no command sets an id.
use Rattle.std.specs.Prelude.{◌≡◌, ℕ, ◌==◌, Bool, not, false, ◌&&◌, List, [], ◌++◌, Option, None, Some, if◌then◌else◌, codes, decimal}
use Rattle.std.specs.Cmp.Lexicographic.{pointwise}
use Rattle.std.specs.List.{count_by}
use Rattle.std.specs.Option.{option_map_or}
use Rattle.crush_units.specs.Id.{same_id}
use Rattle.crush_model.specs.Table.{Row}
use Rattle.crush_items.specs.ItemData.{ItemData, own_class_ids}
use Rattle.crush_compare.specs.SameItem.{same_class_id}
use Rattle.crush_items.specs.Tree.{WalkStepData, tree_rows}
use Rattle.crush_since.specs.declared.names.aside.Counts.{Counts}
use Rattle.crush_compare.specs.declared.identity.Devices.TheVariants.{ById}
use Rattle.crush_compare.specs.Named.{counterpart}
use Rattle.crush_compare.specs.NamedPairs.{PairData, is_of_part, step_item}

-- TESTS: the last argument of each test is a wanted item, and the argument before it is the map's counterpart of this item, if there is one. The tests say whether the counterpart's id differs from the wanted item's id, and whether its class ids differ
abbrev pub has_other_id : Option ItemData → ItemData → Bool
has_other_id None y = false
has_other_id (Some x) y = not (same_id x.view.id y.view.id)

abbrev pub has_other_class_ids : List Row → List Row → Option ItemData → ItemData → Bool
has_other_class_ids t u None y = false
has_other_class_ids t u (Some x) y = not (pointwise same_class_id (own_class_ids t x.view.id) (own_class_ids u y.view.id))

-- the result of a test for the two items of a pair; false if the pair has no wanted item
abbrev pub of_pair : (Option ItemData → ItemData → Bool) → PairData → Bool
of_pair test p = option_map_or (test p.before) p.after false

-- the result of a test for the item that a step of the wanted table's tree visits, and for the item's counterpart
abbrev pub other_id : List Row → List Row → WalkStepData → Bool
other_id t u step = has_other_id (counterpart ById t (step_item u step)) (step_item u step)

abbrev pub other_class_ids : List Row → List Row → WalkStepData → Bool
other_class_ids t u step = has_other_class_ids t u (counterpart ById t (step_item u step)) (step_item u step)

-- whether an item of the wanted table meets a test and is in the part `under` of at least one of the tables. For each test, the record below has the number of such items
abbrev pub is_aside : (List Row → List Row → WalkStepData → Bool) → Option (List ℕ) → List Row → List Row → WalkStepData → Bool
is_aside test under t u step = test t u step && is_of_part ById under t u (step_item u step)

pub record CountsAsideOf (under : Option (List ℕ)) (t u : List Row) (counts : Counts) : Type 0 where
  pub ids : counts.ids ≡ count_by (is_aside other_id under t u) (tree_rows u)
  pub class_ids : counts.class_ids ≡ count_by (is_aside other_class_ids under t u) (tree_rows u)

abbrev pub CountsAside : List Row → List Row → Counts → Type 0
CountsAside t u counts = CountsAsideOf None t u counts

-- ASIDE: the text of the counts. It has a line for each count that isn't 0
abbrev pub aside_line : List ℕ → ℕ → List ℕ
aside_line what n = if n == 0 then [] else what ++ decimal n ++ codes " buckets differ\n"

unfoldable pub aside_text : Counts → List ℕ
aside_text counts = aside_line (codes "ids of ") counts.ids ++ aside_line (codes "class ids of ") counts.class_ids

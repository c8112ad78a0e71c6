-- The pairs of two tables whose items are matched by their names.
use Rattle.std.specs.Prelude.{◌≡◌, ℕ, filter, Bool, false, not, ◌&&◌, ◌||◌, List, [], ◌∷◌, ◌++◌, Option, None, Some, is_some, if◌then◌else◌, flat_map}
use Rattle.std.specs.Option.{option_map_or}
use Rattle.crush_model.specs.Table.{Row}
use Rattle.crush_items.specs.ItemData.{ItemData, with_holder}
use Rattle.crush_items.specs.Tree.{WalkStepData, tree_rows}
use Rattle.crush_compare.specs.declared.identity.Devices.{Devices}
use Rattle.crush_compare.specs.Named.{counterpart, is_in}

-- a pair: what the old table says about an item, and what the new table says about it
pub record PairData : Type 0 where
  pub before : Option ItemData
  pub after : Option ItemData

-- the item that a step of the walk over a table's tree visits
abbrev pub step_item : List Row → WalkStepData → ItemData
step_item t step = with_holder t step.item

-- whether o is an item, and this item is in the part that `under` selects
abbrev pub is_found_in : Option (List ℕ) → List Row → Option ItemData → Bool
is_found_in under t o = option_map_or (λ (x : ItemData). is_in under t x.view.id) o false

-- whether the part has a pair for the item y of the new table: y is in the part of the new table, or y's counterpart is in the part of the old table
abbrev pub is_of_part : Devices → Option (List ℕ) → List Row → List Row → ItemData → Bool
is_of_part by under t u y = is_in under u y.view.id || is_found_in under t (counterpart by t y)

abbrev pub if_listed : Bool → PairData → List PairData
if_listed listed p = if listed then p ∷ [] else []

abbrev pub new_pair : Devices → Option (List ℕ) → List Row → List Row → ItemData → List PairData
new_pair by under t u y = if_listed (is_of_part by under t u y) (record { before = counterpart by t y; after = Some y })

-- whether the part has a pair for the item x of the old table alone: x is in the part of the old table, and x has no counterpart in the new table
abbrev pub is_gone : Devices → Option (List ℕ) → List Row → List Row → ItemData → Bool
is_gone by under t u x = is_in under t x.view.id && not (is_some (counterpart by u x))

abbrev pub old_pair : Devices → Option (List ℕ) → List Row → List Row → ItemData → List PairData
old_pair by under t u x = if_listed (is_gone by under t u x) (record { before = Some x; after = None })

-- PAIRS: first come the items of the new table in the order of its tree, each with its counterpart in the old table if it has one. Then come the items that only the old table has, in the order of the old table's tree
unfoldable pub new_pairs : Devices → Option (List ℕ) → List Row → List Row → List PairData
new_pairs by under t u = flat_map (λ step. new_pair by under t u (step_item u step)) (tree_rows u)

unfoldable pub old_pairs : Devices → Option (List ℕ) → List Row → List Row → List PairData
old_pairs by under t u = flat_map (λ step. old_pair by under t u (step_item t step)) (tree_rows t)

unfoldable pub pairs : Devices → Option (List ℕ) → List Row → List Row → List PairData
pairs by under t u = new_pairs by under t u ++ old_pairs by under t u

-- whether a pair is in the part that the name n selects: its item is in the part of the new table or in the part of the old table
abbrev pub is_in_part : List ℕ → List Row → List Row → PairData → Bool
is_in_part n t u p = is_found_in (Some n) u p.after || is_found_in (Some n) t p.before

-- PART: the pairs of the part that a name selects are exactly the pairs that are in this part, in the same order as among all pairs
abbrev pub PartOfPairs : Type 0
PartOfPairs = (by : Devices) (n : List ℕ) (t u : List Row) → pairs by (Some n) t u ≡ filter (is_in_part n t u) (pairs by None t u)

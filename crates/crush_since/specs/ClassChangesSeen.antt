-- The rows of the tree as the code stores them in memory, if only the devices of one class count.
use Rattle.std.specs.Prelude.{◌≡◌, ℕ, Bool, false, ◌||◌, List, [], ◌∷◌, Option, None, Some, if◌then◌else◌, is_some, map, nat_lt, option_and_then, unwrap_or}
use Rattle.std.specs.List.{slice_get}
use Rattle.std.specs.Option.{option_map}
use Rattle.crush_model.specs.Table.{Row}
use Rattle.crush_items.specs.Entries.{EntryData}
use Rattle.crush_items.specs.Items.{entry_id, item_entry}
use Rattle.crush_compare.specs.declared.comparison.Comparison.{Comparison}
use Rattle.crush_print.specs.ClassWeights.{weight_of_class}
use Rattle.crush_since.specs.Changes.{ChangeData}
use Rattle.crush_since.specs.ClassChanges.{with_weight}
use Rattle.crush_since.specs.SeenChange.{row_change}
use Rattle.crush_since.specs.declared.changes.of_class.ClassWeights.{ClassWeights}
use Rattle.crush_since.specs.declared.changes.rows.TreeRow.{TreeRow}

-- the weight at a position of a list; none if no position is given, or if the list has no weight at this position
abbrev pub weight_at : List (Option ℕ) → Option ℕ → Option ℕ
weight_at ws at = option_and_then (λ p. unwrap_or (slice_get ws p) None) at

-- for each entry, the weight of the class c at the entry's item in the table t
abbrev pub class_weights_of : List Row → List ℕ → List EntryData → List (Option ℕ)
class_weights_of t c es = map (λ (e : EntryData). weight_of_class t c (entry_id e)) es

-- CLASS WEIGHTS: the weights of the class at the items of both maps, in the order of the list of each map's items
pub record AreClassWeights {A B : Type 0} (t u : List Row) (c : List ℕ) (maps : Comparison A B) (weights : ClassWeights) : Type 0 where
  pub before : weights.before.items ≡ class_weights_of t c (map item_entry maps.old.all.items)
  pub after : weights.after.items ≡ class_weights_of u c (map item_entry maps.new.all.items)

-- whether the class has a weight at the row's item in at least one of the maps
abbrev pub row_counts : ClassWeights → TreeRow → Bool
row_counts ws r = is_some (weight_at ws.before.items r.pair.before) || is_some (weight_at ws.after.items r.pair.after)

abbrev pub row_depth : TreeRow → ℕ
row_depth r = r.depth

-- whether the first of these rows is deeper than `depth`
abbrev pub begins_deeper : {X : Type 0} → (X → ℕ) → ℕ → List X → Bool
begins_deeper depth_of depth [] = false
begins_deeper depth_of depth (x ∷ rest) = nat_lt depth (depth_of x)

-- the rows `rest`, with the row x before them if x stays. It stays if `counts` is true for it, or if the first row of `rest` is deeper, so that this row is below x
abbrev pub kept_before : {X : Type 0} → (X → Bool) → (X → ℕ) → X → List X → List X
kept_before counts depth_of x rest = if counts x || begins_deeper depth_of (depth_of x) rest then x ∷ rest else rest

-- a row with these weights in place of its item's own weights
abbrev pub weighed_change : Option ℕ → Option ℕ → ChangeData → ChangeData
weighed_change before after x = record x { was = option_map (with_weight before) x.was; is = option_map (with_weight after) x.is }

-- A ROW AS IT IS PRINTED. If weights of a class are given, the row has these weights, and otherwise the item's own weights
abbrev pub shown_change : {A B : _} → Comparison A B → Option ClassWeights → TreeRow → ChangeData
shown_change maps None r = row_change maps r
shown_change maps (Some ws) r = weighed_change (weight_at ws.before.items r.pair.before) (weight_at ws.after.items r.pair.after) (row_change maps r)

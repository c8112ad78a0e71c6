-- What it means that each item of two tables is in exactly one pair, if items are matched by their names.
use Rattle.std.specs.Prelude.{◌≡◌, ℕ, List, Some, All, filter_map}
use Rattle.std.specs.List.{sum_by}
use Rattle.crush_units.specs.declared.id.ItemId.{ItemId}
use Rattle.crush_model.specs.Table.{Row}
use Rattle.crush_items.specs.ItemData.{ItemData, item_of}
use Rattle.crush_compare.specs.NamedPairs.{PairData}

-- ITEMS OF A TABLE: each item is what the table says about its id, and each row of the table has exactly one item. (The second half is stated with sums: for every function from ids to numbers, the sum over the items is the sum over the rows.)
pub record HasItems (t : List Row) (xs : List ItemData) : Type 0 where
  pub told : All (λ (x : ItemData). item_of t x.view.id ≡ Some x) xs
  pub ids : (n : ItemId → ℕ) → sum_by (λ (x : ItemData). n x.view.id) xs ≡ sum_by (λ (r : Row). n r.id) t

-- EACH ITEM ONCE: each item of two tables is in exactly one pair. The items in the fields `before` are those of the old table t, and the items in the fields `after` are those of the new table u
pub record HasEachOnce (t u : List Row) (ps : List PairData) : Type 0 where
  pub before : HasItems t (filter_map (λ (p : PairData). p.before) ps)
  pub after : HasItems u (filter_map (λ (p : PairData). p.after) ps)

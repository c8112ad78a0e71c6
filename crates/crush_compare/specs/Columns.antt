-- The columns in which two tables say different things about an item that has the same id in both tables.
use Rattle.std.specs.Prelude.{◌≡◌, ℕ, ◌==◌, Bool, not, ◌||◌, bytes_eq}
use Rattle.crush_units.specs.declared.id.ItemId.{ItemId}
use Rattle.crush_items.specs.ItemData.{ItemData}
use Rattle.crush_compare.specs.Equal.{same_option, same_text}
use Rattle.crush_compare.specs.SameItem.{same_algs, same_item}
use Rattle.crush_compare.specs.Weights.{same_weight}
use Rattle.crush_compare.specs.declared.difference.Columns.{Columns}
use Rattle.crush_compare.specs.declared.difference.Report.{Report}
use Rattle.crush_compare.specs.declared.difference.Report.TheVariants.{Changes, Remaining}

-- whether the weights a and b, which two maps give to the item i, count as equal; the `Report` says which differences count
abbrev pub equal_weights : Report → ItemId → ℕ → ℕ → Bool
equal_weights Changes i a b = a == b
equal_weights Remaining i a b = same_weight i a b

-- COLUMNS that differ. a and b are what the two tables say about the item, and `same` says whether its class ids are the same
abbrev pub columns_by_ids : Report → ItemData → ItemData → Bool → Columns
columns_by_ids report a b same = record {
  name = not (bytes_eq a.view.name b.view.name);
  kind = not (a.view.kind == b.view.kind);
  place = not (same_option a.view.parent b.view.parent);
  weight = not (equal_weights report a.view.id a.view.weight b.view.weight);
  class = not (same_text a.view.class b.view.class);
  alg = not (same_algs a.view.alg b.view.alg);
  class_ids = not same;
}

abbrev pub is_some_other : Columns → Bool
is_some_other c = (((((c.name || c.kind) || c.place) || c.weight) || c.class) || c.alg) || c.class_ids

-- the law: if each difference counts (`Changes`), at least one column differs if and only if the two tables don't say the same about the item
abbrev pub SomeColumnOfOtherItems : Type 0
SomeColumnOfOtherItems = (a b : ItemData) (same : Bool) → is_some_other (columns_by_ids Changes a b same) ≡ not (same_item a b same)

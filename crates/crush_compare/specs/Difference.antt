-- The difference between what two tables say about one item.
use Rattle.std.specs.Prelude.{Bool, List, Option, None, Some, if◌then◌else◌}
use Rattle.std.specs.Cmp.Lexicographic.{pointwise}
use Rattle.crush_units.specs.declared.id.ItemId.{ItemId}
use Rattle.crush_model.specs.Table.{Row}
use Rattle.crush_items.specs.ItemData.{ItemData, item_of, own_class_ids}
use Rattle.crush_compare.specs.Columns.{columns_by_ids, is_some_other}
use Rattle.crush_compare.specs.SameItem.{same_class_id}
use Rattle.crush_compare.specs.declared.difference.Columns.{Columns}
use Rattle.crush_compare.specs.declared.difference.Difference.{Difference}
use Rattle.crush_compare.specs.declared.difference.Difference.TheVariants.{Made, Removed, Changed}
use Rattle.crush_compare.specs.declared.difference.Report.{Report}

-- the difference if both tables have the item, given the columns that differ; none if no column differs
abbrev pub if_other : Columns → Option Difference
if_other columns = if is_some_other columns then Some (Changed columns) else None

-- DIFFERENCE between what two tables say about an item. `columns` is the function that compares the columns. An argument is none if its table doesn't have the item
abbrev pub difference_by : (ItemData → ItemData → Columns) → Option ItemData → Option ItemData → Option Difference
difference_by columns None None = None
difference_by columns None (Some b) = Some Made
difference_by columns (Some a) None = Some Removed
difference_by columns (Some a) (Some b) = if_other (columns a b)

-- the difference if items are matched by their ids. `same` says whether the item's class ids are the same
abbrev pub difference_by_ids : Report → Option ItemData → Option ItemData → Bool → Option Difference
difference_by_ids report before after same = difference_by (λ a b. columns_by_ids report a b same) before after

-- whether two tables have the same class ids for an id
abbrev pub same_class_ids : List Row → List Row → ItemId → Bool
same_class_ids t u i = pointwise same_class_id (own_class_ids t i) (own_class_ids u i)

-- the difference between what two tables say about an id
abbrev pub id_difference : Report → List Row → List Row → ItemId → Option Difference
id_difference report t u i = difference_by_ids report (item_of t i) (item_of u i) (same_class_ids t u i)

use Rattle.std.proofs.Common.{◌≡◌, ◌++◌, List, take, map}
use Rattle.std.specs.Prelude.{Some, flat_map}
use Rattle.crush_model.specs.Table.{Row}
use Rattle.crush_since.specs.ChangeItems.{left_of}
use Rattle.crush_since.specs.SeenChange.{AreTables, row_change}
use Rattle.crush_since.proofs.changes.left.push_left_items.Given as goal

abbrev pub invariant-loop-item : goal.invariant-loop-item
invariant-loop-item g l = (t u : List Row) → AreTables t u l.both → map (row_change l.both.maps) l.rows.items ≡ map (row_change l.both.maps) l.fn.rows.items ++ flat_map (left_of t u l.depth (Some l.bucket)) (take l.item-index l.items)

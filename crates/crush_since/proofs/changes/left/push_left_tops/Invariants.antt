use Rattle.std.proofs.Common.{◌≡◌, ◌++◌, List, take, map}
use Rattle.std.specs.Prelude.{None, flat_map}
use Rattle.crush_model.specs.Table.{Row}
use Rattle.crush_since.specs.ChangeItems.{left_of}
use Rattle.crush_since.specs.SeenChange.{AreTables, row_change}
use Rattle.crush_since.proofs.changes.left.push_left_tops.Given as goal

abbrev pub invariant-loop-node : goal.invariant-loop-node
invariant-loop-node g l = (t u : List Row) → AreTables t u l.both → map (row_change l.both.maps) l.rows.items ≡ map (row_change l.both.maps) l.fn.rows.items ++ flat_map (λ r. left_of t u 0 None r.now) (take l.node-index l.nodes)

use Rattle.std.proofs.Common.{◌≡◌, [], ◌∷◌, ◌++◌, ◌+◌, false, List, take, map}
use Rattle.crush_model.specs.Items.{size_of}
use Rattle.crush_model.specs.Table.{Row}
use Rattle.crush_nodes.specs.Seen.{items_of, node_id}
use Rattle.crush_since.specs.ChangeItems.{stood_of}
use Rattle.crush_since.specs.Changes.{change_at}
use Rattle.crush_since.specs.SeenChange.{AreTables, row_change}
use Rattle.crush_since.proofs.changes.left.+push_stood.Given as goal

abbrev pub decreases-push_stood : goal.decreases-push_stood
decreases-push_stood g l = size_of (items_of (l.node.now ∷ []))

abbrev pub invariant-loop-item : goal.invariant-loop-item
invariant-loop-item g l =
    (t u : List Row) → AreTables t u l.fn.both
    → map (row_change l.fn.both.maps) l.rows.items ≡ map (row_change l.fn.both.maps) l.fn.rows.items ++ (change_at t u false l.fn.depth (node_id l.fn.node) ∷ stood_of t u (l.fn.depth + 1) (items_of (take l.item-index l.items)))

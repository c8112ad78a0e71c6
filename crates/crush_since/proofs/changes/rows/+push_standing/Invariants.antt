use Rattle.std.proofs.Common.{◌≡◌, [], ◌∷◌, ◌++◌, ◌+◌, true, List, take, map}
use Rattle.crush_model.specs.Items.{size_of}
use Rattle.crush_model.specs.Table.{Row}
use Rattle.crush_nodes.specs.Seen.{items_of, node_id}
use Rattle.crush_since.specs.ChangeItems.{stands_of}
use Rattle.crush_since.specs.Changes.{change_at}
use Rattle.crush_since.specs.SeenChange.{AreTables, row_change}
use Rattle.crush_since.specs.Since.{plain_map}
use Rattle.crush_since.proofs.changes.rows.+push_standing.Given as goal

abbrev pub decreases-push_standing : goal.decreases-push_standing
decreases-push_standing g l = size_of (items_of (l.node.now ∷ []))

abbrev pub invariant-loop-item : goal.invariant-loop-item
invariant-loop-item g l =
    (t u : List Row) → AreTables t u l.fn.both
    → map (row_change l.fn.both.maps) l.rows.items ≡ map (row_change l.fn.both.maps) l.fn.rows.items
    ++ (change_at t u true l.fn.depth (node_id l.fn.node) ∷ stands_of (plain_map l.fn.both.maps.old.map.now.setting t) (plain_map l.fn.both.maps.new.map.now.setting u) (l.fn.depth + 1) (items_of (take l.item-index l.items)))

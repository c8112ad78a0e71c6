-- When the steps of a forest's node are those that a table gives for it.
use Rattle.std.specs.Prelude.{◌≡◌, ℕ, List, [], ◌∷◌, Option, length}
use Rattle.crush_model.specs.Table.{Row}
use Rattle.crush_nodes.specs.Seen.{items_of, node_id}
use Rattle.crush_nodes.specs.declared.node.Node.{Node}
use Rattle.crush_items.specs.Tree.{steps_at, steps_of}

-- the steps of the node, whose parent is p, and of all items below it are those that the table t gives
abbrev pub HasSteps : {A : _} → List Row → Option ℕ → Node A → Type 0
HasSteps t p node = steps_at t (length t) 0 (node_id node) ≡ steps_of 0 p (items_of (node ∷ []))

-- How the copy of one item is appended to a list of copies.
use Rattle.std.specs.Prelude.{◌≡◌, List, [], ◌∷◌, ◌++◌}
use Rattle.crush_model.specs.Items.{Items}
use Rattle.crush_nodes.specs.Seen.{items_of}
use Rattle.crush_nodes.specs.declared.node.Node.{Node}

-- the list `new` is the list `old` with one more node at its end, and this node, seen as plain data, is x
pub record IsPushed {A : _} (old new : List (Node A)) (x : Items) : Type 0 where
  pub node : Node A
  pub last : new ≡ old ++ node ∷ []
  pub item : items_of (node ∷ []) ≡ x

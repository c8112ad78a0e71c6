-- The weights of the devices of one class, computed from plain items (`Items`), and when a node has the weights that the table gives.
use Rattle.std.specs.Prelude.{◌≡◌, ℕ, ◌+◌, List, [], ◌∷◌, ◌++◌, Option, Some, None, if◌then◌else◌, bytes_eq, length, map}
use Rattle.std.specs.Option.{option_eq}
use Rattle.crush_model.specs.Items.{LeafData, Items, none, device, bucket}
use Rattle.crush_model.specs.Table.{Row}
use Rattle.crush_nodes.specs.Seen.{items_of, node_id}
use Rattle.crush_nodes.specs.declared.node.Node.{Node}
use Rattle.crush_items.specs.Tree.{WalkStepData, steps_at}
use Rattle.crush_print.specs.ClassWeights.{weight_of_class}

-- the sum of two weights; if one of them is missing, the other weight
abbrev pub together : Option ℕ → Option ℕ → Option ℕ
together a None = a
together None (Some b) = Some b
together (Some a) (Some b) = Some (a + b)

-- the weight of a device that has the class; none for any other device
abbrev pub leaf_weight : List ℕ → LeafData → Option ℕ
leaf_weight c d = if option_eq bytes_eq d.class (Some c) then Some d.weight else None

-- the total weight of all devices of the class that are among the items or below them; none if there is no such device
abbrev pub class_weight_in : List ℕ → Items → Option ℕ
class_weight_in c none = None
class_weight_in c (device d rest) = together (leaf_weight c d) (class_weight_in c rest)
class_weight_in c (bucket h w m kids rest) = together (class_weight_in c kids) (class_weight_in c rest)

-- a weight for each of the items and for each item below them, in the order of the tree: the total weight of all devices of the class that are the item itself or below it; none if there is no such device
abbrev pub class_weights_in : List ℕ → Items → List (Option ℕ)
class_weights_in c none = []
class_weights_in c (device d rest) = leaf_weight c d ∷ class_weights_in c rest
class_weights_in c (bucket h w m kids rest) = class_weight_in c kids ∷ (class_weights_in c kids ++ class_weights_in c rest)

-- the weight that the table gives for the devices of the class that are the step's item or below it
abbrev pub step_weight : List Row → List ℕ → WalkStepData → Option ℕ
step_weight t c s = weight_of_class t c s.item.id

-- the node and all items below it have the weights that the table gives
abbrev pub HasWeights : {A : _} → List Row → List ℕ → Node A → Type 0
HasWeights t c node = map (step_weight t c) (steps_at t (length t) 0 (node_id node)) ≡ class_weights_in c (items_of (node ∷ []))

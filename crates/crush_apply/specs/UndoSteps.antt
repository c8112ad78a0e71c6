-- Which forest results when an addition or a move is undone. Undoing has several steps. In each definition, g is the forest before the step, and f is the forest after the step.
use Rattle.std.specs.Prelude.{◌≡◌, true, Option, Some, None, Vec, vec_capacity}
use Rattle.crush_units.specs.declared.id.ItemId.{ItemId}
use Rattle.crush_model.specs.Forest.{ForestData, rows_of}
use Rattle.crush_model.specs.Table.{is_there}
use Rattle.crush_nodes.specs.declared.node.Node.{Node}
use Rattle.crush_nodes.specs.declared.place.Place.{Place}
use Rattle.crush_tree.specs.Moves.{forest_without}
use Rattle.crush_tree.specs.BufferReplaced.{forest_with_capacity, CanReplaceBuffer}
use Rattle.crush_hierarchy.specs.Back.{item_moved_back, CanMoveBack}
use Rattle.crush_apply.specs.declared.addition.Addition.{Addition}
use Rattle.crush_apply.specs.declared.old_stand.OldStand.{OldStand}

-- if the items of the place p of the forest g are moved to the empty vector `items`, the result is f
pub record GetsMemory {A : Type 0} (p : Place) (items : Vec (Node A) A) (g f : ForestData) : Type 0 where
  pub can : CanReplaceBuffer p items g
  pub is : f ≡ forest_with_capacity p (vec_capacity items) g

-- if the item i, with everything below it, is removed from the forest g, the result is f
pub record Leaves (i : ItemId) (g f : ForestData) : Type 0 where
  pub there : is_there (rows_of g) i ≡ true
  pub is : f ≡ forest_without i g

-- if an item that was moved is put back in the forest g to its old place and position, with its old weight, the result is f
pub record GoesBack (s : OldStand) (g f : ForestData) : Type 0 where
  pub can : CanMoveBack s.item s.stand.place s.stand.position (Some s.weight) g
  pub is : f ≡ item_moved_back s.item s.stand.place s.stand.position (Some s.weight) g

-- GetsMemory if there is a vector; if there is no vector, g equals f
abbrev pub GetsAnyMemory : {A : Type 0} → Place → Option (Vec (Node A) A) → ForestData → ForestData → Type 0
GetsAnyMemory p None g f = g ≡ f
GetsAnyMemory p (Some items) g f = GetsMemory p items g f

-- Leaves if there is an item; if there is no item, g equals f
abbrev pub LeavesAny : Option ItemId → ForestData → ForestData → Type 0
LeavesAny None g f = g ≡ f
LeavesAny (Some i) g f = Leaves i g f

-- if an addition is undone in the forest g, the result is f: first the item, if there is one, is removed, and then the place gets back its old vector, if the vector was replaced
pub record UndoesAddition {A : Type 0} (c : Addition A) (g f : ForestData) : Type 0 where
  pub without : ForestData
  pub leaves : LeavesAny c.item g without
  pub memory : GetsAnyMemory c.place c.memory without f

-- if a move is undone in the forest g, the result is f: first the item is put back, and then the addition that was made for the move is undone
pub record Returns {A : Type 0} (s : OldStand) (c : Addition A) (g f : ForestData) : Type 0 where
  pub stood : ForestData
  pub back : GoesBack s g stood
  pub goes : UndoesAddition c stood f

-- if there is a vector m, the items of the place p of the forest g can be moved to it
abbrev pub CanGetMemory : {A : Type 0} → Place → Option (Vec (Node A) A) → ForestData → Type 0
CanGetMemory p m g = (f : ForestData) × GetsAnyMemory p m g f

-- if there is an item i, it can be removed from the forest g
abbrev pub CanLeave : Option ItemId → ForestData → Type 0
CanLeave i g = (f : ForestData) × LeavesAny i g f

-- the addition can be undone in the forest g
abbrev pub CanUndoAddition : {A : Type 0} → Addition A → ForestData → Type 0
CanUndoAddition c g = (f : ForestData) × UndoesAddition c g f

-- the moved item can be put back in the forest g
abbrev pub CanGoBack : OldStand → ForestData → Type 0
CanGoBack s g = (f : ForestData) × GoesBack s g f

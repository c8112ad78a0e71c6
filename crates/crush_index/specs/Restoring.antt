-- What is needed to put an item back into an index even if memory runs out.
use Rattle.std.specs.Prelude.{◌≡◌, ℕ, [], ◌∷◌, Option, Bool, true, false, length}
use Rattle.crush_model.specs.ItemRows.{rows}
use Rattle.crush_model.specs.Table.{Row, is_device}
use Rattle.crush_nodes.specs.Seen.{items_of}
use Rattle.crush_nodes.specs.declared.node.Node.{Node}
use Rattle.crush_index.specs.IndexAnswers.{own_row}
use Rattle.crush_index.specs.UsedLaw.{uses}
use Rattle.crush_index.specs.declared.index.restore.PlaceMemory.{PlaceMemory}
use Rattle.crush_index.specs.declared.index.restore.PlaceMemory.TheVariants.{Device, Bucket}
use Rattle.crush_index.specs.declared.index.restore.RestoreMemory.{RestoreMemory}

-- no item is below the node: the node has only one row, which is its own
abbrev pub IsAlone : {A : _} → Node A → Type 0
IsAlone x = (p : Option ℕ) → rows p (items_of (x ∷ [])) ≡ own_row p x ∷ []

-- true if the memory is for the place of a device, and false if it is for the place of a bucket
abbrev pub is_for_device : PlaceMemory → Bool
is_for_device (Device e) = true
is_for_device (Bucket n s) = false

-- RESTORING A ROW: the memory has the row's name, and memory for as many ids as the row uses. Its memory for the place is for a device if the row is the row of a device, and for a bucket otherwise
pub record CanRestoreRow (r : Row) (memory : RestoreMemory) : Type 0 where
  pub name : memory.name.name ≡ r.name
  pub place : is_for_device memory.place ≡ is_device r
  pub ids : length memory.ids.items ≡ length (uses r)

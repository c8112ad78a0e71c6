-- An item of a hierarchy is given another name, and its old name can be restored.
use Rattle.std.specs.Prelude.{◌≡◌, ℕ, List, if◌then◌else◌, is_some, Result, OnOk, OnErr, IfOk}
use Rattle.crush_units.specs.declared.id.ItemId.{ItemId}
use Rattle.crush_model.specs.Columns.{set_name}
use Rattle.crush_model.specs.Forest.{ForestData}
use Rattle.crush_model.specs.Stands.{Stands}
use Rattle.crush_model.specs.Table.{Row}
use Rattle.crush_nodes.specs.Room.{room}
use Rattle.crush_nodes.specs.declared.place.Place.{Place}
use Rattle.crush_tree.specs.Exact.{forest_with_name}
use Rattle.crush_tree.specs.Required.{CanRename}
use Rattle.crush_index.specs.Hashings.{hashings}
use Rattle.crush_index.specs.IndexAnswers.{Answers, answers, with_name, without_name}
use Rattle.crush_index.specs.NamesAnswers.{id_answer}
use Rattle.crush_index.specs.declared.index.Index.{Index}
use Rattle.crush_index.specs.declared.index.restore.NameMemory.{NameMemory}
use Rattle.crush_hierarchy.specs.declared.hierarchy.renamed.OldName.{OldName}

-- What an index answers after the item i was renamed from `own` to `name`: the name `name` has the id i, and the name `own` has no id. If an item already had the name `name`, the answers are the same as before.
abbrev pub answers_named : ItemId → List ℕ → List ℕ → Index → Answers
answers_named i own name index = if is_some (id_answer index.names name) then answers index else without_name own (with_name name i (answers index))

-- If the call succeeds, the index answers as it must after the item i was renamed from `own` to `name` (answers_named), and the result of the call has the name `own`. If the call fails, the index answers as before. In both cases the index hashes as before.
pub record TellsName {E : Type 0} (i : ItemId) (name own : List ℕ) (old new : Index) (answer : Result NameMemory E) : Type 0 where
  pub ok : OnOk answer (answers new ≡ answers_named i own name old)
  pub back : IfOk answer (λ back. back.name ≡ own)
  pub err : OnErr answer (answers new ≡ answers old)
  pub hashing : hashings new ≡ hashings old

-- The item i exists, the table in which it has its old name is lawful, and the memory that was kept for the index is for this name.
pub record CanRestoreName {A : Type 0} (i : ItemId) (old : OldName A) (g : ForestData) : Type 0 where
  pub can : CanRename i old.name g
  pub back : old.back.name ≡ old.name

-- If the call succeeds, the item i has the name `name` in the new forest, and the result is the item's old name. If the old name were restored, the forest would be exactly the old forest. If the call fails, nothing has changed. Each place has as much room as before.
pub record ReplacesName {A E : Type 0} (i : ItemId) (name : List ℕ) (old new : ForestData) (answer : Result (OldName A) E) : Type 0 where
  pub stands : OnOk answer ((t : List Row) → Stands old t → Stands new (set_name i name t))
  pub rooms : (p : Place) → room new p ≡ room old p
  pub can : IfOk answer (λ before. CanRestoreName i before new)
  pub back : IfOk answer (λ before. old ≡ forest_with_name i before.name new)
  pub err : OnErr answer (new ≡ old)

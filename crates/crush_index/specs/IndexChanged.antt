-- How calls change an index: `old` is the index before a call, and `new` the index after it. The hashings never change.
use Rattle.std.specs.Prelude.{◌≡◌, ℕ, List, [], ◌∷◌, Result, OnOk, OnErr}
use Rattle.crush_units.specs.declared.id.ItemId.{ItemId}
use Rattle.crush_model.specs.Items.{Items}
use Rattle.crush_model.specs.Table.{Row}
use Rattle.crush_nodes.specs.declared.place.Place.{Place}
use Rattle.crush_index.specs.Hashings.{hashings}
use Rattle.crush_index.specs.IndexLaw.{StaysIndex, TakesRows, LosesPart, LosesRows}
use Rattle.crush_index.specs.IndexAnswers.{answers, with_name, with_row, without_name, without_rows}
use Rattle.crush_index.specs.declared.index.Index.{Index}

-- if the call succeeds, the items were added as the last items of the place (TakesRows); if it fails, the index is still an index of each table to which the items could have been added (StaysIndex)
pub record Inserts {X E : Type 0} (place : Place) (n : Items) (old new : Index) (answer : Result X E) : Type 0 where
  pub ok : OnOk answer (TakesRows place n old new)
  pub err : OnErr answer (StaysIndex place n old new)
  pub hashing : hashings new ≡ hashings old

-- the items were removed from the index. LosesPart is for a table in which they were an item with everything below it. LosesRows is for a table that ended with their rows
pub record Removes (n : Items) (old new : Index) : Type 0 where
  pub part : LosesPart n old new
  pub rows : LosesRows n old new
  pub hashing : hashings new ≡ hashings old

-- if the call succeeds, the name has the id i, and all other answers are as before; if it fails, all answers are as before
pub record AddsName {X E : Type 0} (name : List ℕ) (i : ItemId) (old new : Index) (answer : Result X E) : Type 0 where
  pub ok : OnOk answer (answers new ≡ with_name name i (answers old))
  pub err : OnErr answer (answers new ≡ answers old)
  pub hashing : hashings new ≡ hashings old

-- the name has no id, and all other answers are as before
pub record ForgetsName (name : List ℕ) (old new : Index) : Type 0 where
  pub gone : answers new ≡ without_name name (answers old)
  pub hashing : hashings new ≡ hashings old

-- if the call succeeds, the row was added; if it fails, all answers are as before, except for the row's name and ids, for which the index may give any answers
pub record InsertsRow {X E : Type 0} (r : Row) (old new : Index) (answer : Result X E) : Type 0 where
  pub ok : OnOk answer (answers new ≡ with_row r (answers old))
  pub err : OnErr answer (without_rows (r ∷ []) (answers new) ≡ without_rows (r ∷ []) (answers old))
  pub hashing : hashings new ≡ hashings old

-- the copy gives the same answers, and has the same hashings
pub record IsCopyOf (index copy : Index) : Type 0 where
  pub answers : answers copy ≡ answers index
  pub hashing : hashings copy ≡ hashings index

-- How calls change the table of names: `old` is the table before a call, and `new` the table after it.
use Rattle.std.specs.Prelude.{◌≡◌, ℕ, List, Some, Result, OnOk, OnErr}
use Rattle.crush_units.specs.declared.id.ItemId.{ItemId}
use Rattle.crush_index.specs.Hashings.{names_hashing}
use Rattle.crush_index.specs.NamesAnswers.{AnswersSame, AnswersOne}
use Rattle.crush_index.specs.declared.names.Names.{Names}

-- if the call succeeds, the name has the id, and each other name has the same id as before; if the call fails, each name has the same id as before. In both cases the hashing is the same as before
pub record Inserts {X E : Type 0} (name : List ℕ) (id : ItemId) (old new : Names) (answer : Result X E) : Type 0 where
  pub ok : OnOk answer (AnswersOne old new name (Some id))
  pub err : OnErr answer (AnswersSame old new)
  pub hashing : names_hashing new ≡ names_hashing old

-- the copy has the same id for each name, and the same hashing
pub record IsCopyOf (names copy : Names) : Type 0 where
  pub answers : AnswersSame names copy
  pub hashing : names_hashing copy ≡ names_hashing names

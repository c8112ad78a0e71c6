-- How calls change the set of used ids: `old` is the set before a call, and `new` the set after it.
use Rattle.std.specs.Prelude.{◌≡◌, ℕ, true, Result, OnOk, OnErr}
use Rattle.crush_index.specs.Hashings.{used_hashing}
use Rattle.crush_index.specs.UsedAnswers.{UsesSame, UsesOne}
use Rattle.crush_index.specs.declared.used.UsedIds.{UsedIds}

-- if the call succeeds, the id is used, and each other id is used if and only if it was used before; if the call fails, the same ids are used as before. In both cases the hashing is the same as before
pub record Inserts {X E : Type 0} (id : ℕ) (old new : UsedIds) (answer : Result X E) : Type 0 where
  pub ok : OnOk answer (UsesOne old new id true)
  pub err : OnErr answer (UsesSame old new)
  pub hashing : used_hashing new ≡ used_hashing old

-- the copy has the same used ids, and the same hashing
pub record IsCopyOf (used copy : UsedIds) : Type 0 where
  pub answers : UsesSame used copy
  pub hashing : used_hashing copy ≡ used_hashing used

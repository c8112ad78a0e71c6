-- How calls change a DenseMap: `old` is the map before a call, and `new` the map after it.
use Rattle.std.specs.Prelude.{◌≡◌, ℕ, Some, Result, OnOk, OnErr}
use Rattle.crush_index.specs.DenseMapAnswers.{DenseMapSame, DenseMapWith, numbered_hashing}
use Rattle.crush_index.specs.declared.dense_map.DenseMap.{DenseMap}

-- if the call succeeds, the number has this value, and each other number has the same value as before; if the call fails, each number has the same value as before. In both cases the hashing is the same as before
pub record Inserts {T X E : Type 0} (number : ℕ) (value : T) (old new : DenseMap T) (answer : Result X E) : Type 0 where
  pub ok : OnOk answer (DenseMapWith old new number (Some value))
  pub err : OnErr answer (DenseMapSame old new)
  pub hashing : numbered_hashing new ≡ numbered_hashing old

-- the copy has the same value for each number, and the same hashing
pub record IsCopyOf {T : Type 0} (dense_map copy : DenseMap T) : Type 0 where
  pub answers : DenseMapSame dense_map copy
  pub hashing : numbered_hashing copy ≡ numbered_hashing dense_map

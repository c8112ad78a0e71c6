-- What the edit that places a device does with a device that is already in a bucket, for each value of `how`.
use Rattle.std.specs.Prelude.{ℕ, List, Bool, false}
use Rattle.crush_units.specs.declared.id.ItemId.TheVariants.{Device}
use Rattle.crush_model.specs.Table.{Row, is_placed}
use Rattle.crush_edits.specs.declared.edit.Edit.TheVariants.{Reweight}
use Rattle.crush_edits.specs.declared.edit.Placing.{Placing}
use Rattle.crush_edits.specs.declared.edit.Placing.TheVariants.{Insert, CreateOrMove, Update}
use Rattle.crush_edits.specs.Answer.{Answer, done}
use Rattle.crush_edits.specs.Edit.{edit}
use Rattle.crush_edits.specs.Placing.{kept_weight}
use Rattle.crush_edits.specs.Setting.{SettingData}

-- whether the edit is refused because the device is already in a bucket
abbrev pub is_barred : Placing → List Row → ℕ → Bool
is_barred Insert t d = is_placed t (Device d)
is_barred CreateOrMove t d = false
is_barred Update t d = false

-- what the edit gives if the bucket of the first stop already holds the device: no change, or what Reweight gives
abbrev pub stay_answer : SettingData → List Row → Placing → List ℕ → ℕ → Answer
stay_answer s t Insert n w = done false 0 t
stay_answer s t CreateOrMove n w = done false 0 t
stay_answer s t Update n w = edit s t (Reweight n w)

-- the weight that the device gets if the edit puts it into another bucket
abbrev pub coming_weight : Placing → List Row → ℕ → ℕ → ℕ
coming_weight Insert t d w = w
coming_weight CreateOrMove t d w = kept_weight t d w
coming_weight Update t d w = w

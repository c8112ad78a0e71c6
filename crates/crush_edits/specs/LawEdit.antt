-- Laws about all edits and batches. If the table is lawful and the setting fits it, then both are still true after a valid edit or batch that isn't refused.
use Rattle.std.specs.Prelude.{◌≡◌, ℕ, ◌<◌, List, None, All, ◌+◌, Bool, true, false}
use Rattle.crush_units.specs.Name.{IsName}
use Rattle.crush_model.specs.Table.{Row, bucket_count}
use Rattle.crush_model.specs.Lawful.{Lawful}
use Rattle.crush_edits.specs.declared.location.Pair.{Pair}
use Rattle.crush_edits.specs.declared.edit.Edit.{Edit}
use Rattle.crush_edits.specs.declared.edit.Edit.TheVariants.{Place, Move, Swap, Reweight, ReweightSubtree, Remove, AddBucket, Rename, SetClass, RemoveClass}
use Rattle.crush_edits.specs.declared.refusal.Dones.{Dones}
use Rattle.crush_edits.specs.Setting.{SettingData}
use Rattle.crush_edits.specs.Fits.{Fits}
use Rattle.crush_edits.specs.Pushed.{IsLocation}
use Rattle.crush_edits.specs.Edit.{after, refusal}
use Rattle.crush_edits.specs.Batch.{batch_done, batch}
use Rattle.crush_units.specs.declared.limits.TheConstants.{DEVICE_IDS}

-- the device and the location of an edit are valid: the device's id is in range, its name is a valid name, and the location is valid
pub record IsPlacing (d : ℕ) (n : List ℕ) (l : List Pair) : Type 0 where
  pub id : d < DEVICE_IDS
  pub name : IsName n
  pub at : IsLocation l

-- an edit is valid: its device, its location, and the names and classes that it gives to items are valid. In the code, the types of an edit's fields ensure this
abbrev pub IsEdit : Edit → Type 0
IsEdit (Place how d n w l) = IsPlacing d n l
IsEdit (Move n l) = IsLocation l
IsEdit (Swap m n) = Unit {0}
IsEdit (Reweight n w) = Unit {0}
IsEdit (ReweightSubtree n w) = Unit {0}
IsEdit (Remove n) = Unit {0}
IsEdit (AddBucket n kind) = IsName n
IsEdit (Rename from to) = IsName to
IsEdit (SetClass n c) = IsName c
IsEdit (RemoveClass n) = Unit {0}

-- the table is lawful, and the setting fits it
pub record Keeps (s : SettingData) (t : List Row) : Type 0 where
  pub lawful : Lawful t
  pub fits : Fits s t

-- EDITS: if the table is lawful, the setting fits it, and a valid edit isn't refused, then the table after the edit is lawful and the setting fits it
abbrev pub EditKeeps : Type 0
EditKeeps = (s : SettingData) (t : List Row) (e : Edit) → Keeps s t → IsEdit e → refusal s t e ≡ None → Keeps s (after s t e).table

-- BATCHES: if the table is lawful, the setting fits it, and a batch of valid edits isn't refused, then the table after the batch is lawful and the setting fits it
abbrev pub BatchKeeps : Type 0
BatchKeeps = (s : SettingData) (t u : List Row) (es : List Edit) (d : Dones) → Keeps s t → All IsEdit es → batch s t es ≡ batch_done d u → Keeps s u

-- whether the edit is Remove
abbrev pub is_remove : Edit → Bool
is_remove (Remove n) = true
is_remove _ = false

-- MADE: after any valid edit except Remove that isn't refused, the number of buckets in the table has grown by exactly the number of created buckets that the edit's result has
abbrev pub MadeAreBuckets : Type 0
MadeAreBuckets = (s : SettingData) (t : List Row) (e : Edit) → Keeps s t → IsEdit e → refusal s t e ≡ None → is_remove e ≡ false → bucket_count (after s t e).table ≡ bucket_count t + (after s t e).made

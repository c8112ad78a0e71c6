-- The form in which Ceph accepts an edit, the table after the edit, and whether Ceph keeps an old name after the edit.
use Rattle.std.specs.Prelude.{ℕ, ◌==◌, ◌&&◌, List, Bool, false, not, if◌then◌else◌, is_some}
use Rattle.std.specs.List.{list_any}
use Rattle.crush_units.specs.declared.id.ItemId.TheVariants.{Device}
use Rattle.crush_model.specs.Table.{Row, is_placed}
use Rattle.crush_edits.specs.Answer.{meets}
use Rattle.crush_edits.specs.declared.edit.Edit.{Edit}
use Rattle.crush_edits.specs.declared.edit.Edit.TheVariants.{Place, Rename}
use Rattle.crush_edits.specs.declared.edit.Placing.{Placing}
use Rattle.crush_edits.specs.declared.edit.Placing.TheVariants.{Insert, Update}
use Rattle.crush_edits.specs.Edit.{edit}
use Rattle.crush_edits.specs.Setting.{RuleData, SettingData, StepData, take}
use Rattle.crush_edits.specs.Stops.{bucket_named}
use Rattle.crush_history.specs.History.{edit_outcome}

-- whether the edit is a `set` of a device that no bucket holds. Ceph's `set` refuses a device that isn't in Ceph's map, but Ceph's `add` accepts the device
abbrev pub sets_unplaced : List Row → Edit → Bool
sets_unplaced t (Place Update device name weight at) = not (is_placed t (Device device))
sets_unplaced t e = false

-- the way of `set` becomes the way of `add`, and any other way to place a device is unchanged
abbrev pub added_way : Placing → Placing
added_way Update = Insert
added_way how = how

-- a `set` becomes an `add` with the same values, and any other edit is unchanged
abbrev pub added : Edit → Edit
added (Place how device name weight at) = Place (added_way how) device name weight at
added e = e

-- FOR CEPH: the form in which Ceph accepts the edit e, if t is the table before the edit. A `set` of a device that no bucket holds becomes an `add`, and any other edit is unchanged
abbrev pub edit_for_ceph : List Row → Edit → Edit
edit_for_ceph t e = if sets_unplaced t e then added e else e

-- the table after the edit e, if the map has the setting s (its types, tunables and rules) and the table t before the edit. If the edit is refused, the table is unchanged
abbrev pub table_after_edit : SettingData → List Row → Edit → List Row
table_after_edit s t e = (edit_outcome t (edit s t e)).table

-- whether a step of a rule is a step `take` with this bucket and with any class of devices
abbrev pub takes_with_class : ℕ → StepData → Bool
takes_with_class b (take taken class) = (taken == b) && is_some class
takes_with_class b step = false

-- whether a rule has a step `take` with this bucket and with a class
abbrev pub rule_takes_with_class : ℕ → RuleData → Bool
rule_takes_with_class b r = list_any (takes_with_class b) r.steps

-- whether at least one rule of the map has a step `take` with this bucket and with a class
abbrev pub is_taken_with_class : SettingData → ℕ → Bool
is_taken_with_class s b = list_any (rule_takes_with_class b) s.rules

-- LEAVES AN OLD NAME: whether Ceph keeps an old name after the edit. This is the case if the edit renames a bucket, and a rule has a step `take` with this bucket and with a class. For such a rule, Ceph has a copy of the bucket with only the devices of this class. After the edit, this copy keeps the old name until `reweight-all`
abbrev pub leaves_old_name : SettingData → List Row → Edit → Bool
leaves_old_name s t (Rename from to) = meets (is_taken_with_class s) (bucket_named t from)
leaves_old_name s t e = false

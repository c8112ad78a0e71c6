-- The reason for a refused edit: the name because of which the edit was refused, and what is wrong with this name.
use Rattle.std.specs.Prelude.{Bool, List, ◌++◌, ℕ, Option, None, Some, codes, option_and_then}
use Rattle.crush_model.specs.Table.{Row}
use Rattle.crush_edits.specs.declared.edit.Edit.{Edit}
use Rattle.crush_edits.specs.declared.edit.Edit.TheVariants.{SetClass, RemoveClass}
use Rattle.crush_edits.specs.declared.refusal.Refusal.{Refusal}
use Rattle.crush_edits.specs.declared.refusal.Refusal.TheVariants as refusal
use Rattle.crush_edits.specs.Setting.{SettingData}
use Rattle.crush_edits.specs.Stops.{bucket_named}
use Rattle.crush_apply.specs.Culprit.{culprit}
use Rattle.crush_edits.specs.Refusal.{refusal_sentence}
use Rattle.crush_reasons.specs.Way.{absent_reason, bound_said, class_named, held_count, held_said, holder_name, location_of, loop_reason, moved_name, no_kind_reason, placed_said, taken_reason, taking_rule, type_reason}

-- THE WORDS AFTER THE NAME, if they depend only on the refusal; none if the refusal isn't about a name, or if the rest of the reason depends on the map or on more names of the edit
abbrev pub said_of : Refusal → Option (List ℕ)
said_of refusal.BadName = Some (codes " is the device's own name, and the location uses it for a bucket")
said_of refusal.BadLocation = Some (codes ": a location names each type and each bucket at most once, and never the type of devices")
said_of refusal.NoPlace = Some (codes " needs a location: one or more TYPE=BUCKET")
said_of refusal.NameTaken = Some (codes ": an item already has this name, or the device with this id has a different name")
said_of refusal.NotPlaced = Some (codes " is in no bucket: use add to place it")
said_of refusal.NotADevice = Some (codes " is a bucket: reweight-subtree sets the weights below it")
said_of refusal.NotABucket = Some (codes " is a device, but a bucket is required")
said_of refusal.Nested = Some (codes " and the other bucket are the same, or one of them is below the other")
said_of refusal.NotDirectory = Some (codes " is a device: only buckets can be renamed")
said_of refusal.AlreadyRenamed = Some (codes " exists and no item has the old name: was it renamed before?")
said_of r = None

-- the words after the name for an edit that sets or removes a class. Only the words for a bucket differ from those of other edits
abbrev pub said_of_class : Refusal → Option (List ℕ)
said_of_class refusal.NotADevice = Some (codes " is a bucket: only devices have a class")
said_of_class r = said_of r

abbrev pub said_by : Edit → Refusal → Option (List ℕ)
said_by (SetClass n c) r = said_of_class r
said_by (RemoveClass n) r = said_of_class r
said_by e r = said_of r

-- the name and the words after it; if there are no such words, the sentence of the refusal
abbrev pub named_or : List ℕ → Option (List ℕ) → List ℕ → List ℕ
named_or n None sentence = sentence
named_or n (Some said) sentence = n ++ said

-- REASON for a refused edit. Just before the edit, the map had this setting and this table. `n` is the name that the refusal is about, and `looks` says whether the map is searched for similar names
abbrev pub reason_of : Bool → SettingData → List Row → Edit → List ℕ → Refusal → List ℕ
reason_of looks s t e n refusal.NoSuchType = no_kind_reason looks s n
reason_of looks s t e n refusal.NoSuchItem = absent_reason looks t n
reason_of looks s t e n refusal.NotEmpty = n ++ held_said (held_count t n)
reason_of looks s t e n refusal.InUse = taken_reason n (option_and_then (taking_rule s) (bucket_named t n))
reason_of looks s t e n refusal.AlreadyPlaced = n ++ placed_said (holder_name t n)
reason_of looks s t e n refusal.ClassBound = n ++ bound_said (class_named t n)
reason_of looks s t e n refusal.Loop = loop_reason (moved_name e) n
reason_of looks s t e n refusal.WrongType = type_reason s t (location_of e) n
reason_of looks s t e n r = named_or n (said_by e r) (refusal_sentence r)

abbrev pub edit_reason : Bool → SettingData → List Row → Edit → Refusal → List ℕ
edit_reason looks s t e r = reason_of looks s t e (culprit s t e r) r

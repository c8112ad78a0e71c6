-- The differences between two maps as JSON values: what each map says about an item. The members of each object are sorted by name.
use Rattle.std.specs.Prelude.{ℕ, List, [], ◌∷◌, Option, Some, None, codes, flat_map, is_some, if◌then◌else◌}
use Rattle.std.specs.Option.{option_map}
use Rattle.crush_units.specs.declared.id.ItemId.{ItemId}
use Rattle.crush_units.specs.declared.id.ItemId.TheVariants.{Device, Bucket}
use Rattle.crush_units.specs.Alg.{alg_text}
use Rattle.crush_units.specs.Id.{item_number}
use Rattle.crush_model.specs.Items.{ShadowData}
use Rattle.crush_edits.specs.Setting.{SettingData}
use Rattle.crush_items.specs.Entries.{EntryData}
use Rattle.crush_compare.specs.Difference.{id_difference}
use Rattle.crush_compare.specs.IdPairs.{EntryPair, id_entries}
use Rattle.crush_compare.specs.declared.difference.Report.TheVariants.{Changes}
use Rattle.crush_since.specs.Since.{PlainMap}
use Rattle.serde_json.specs.Data.{Data, string, object, Members, member, no_members}
use Rattle.crush_json.specs.ClassIds.{class_ids_document}
use Rattle.crush_json.specs.TreeDocument.{type_word}
use Rattle.crush_json.specs.Values.{natural, whole, text_if}

-- for a bucket, the members `ms` with the member `class_ids` before them; for a device, only the members `ms`, because a device has no class ids
abbrev pub with_class_ids : ItemId → List ShadowData → Members → Members
with_class_ids (Device d) xs ms = ms
with_class_ids (Bucket b) xs ms = member (codes "class_ids") (class_ids_document xs) ms

-- what a map says about an item. For a bucket, this includes its algorithm and its class ids. The weight of a bucket is the sum of the weights of all devices below it. If a bucket holds the item, the member `parent` is the name of that bucket
unfoldable pub seen_document : SettingData → EntryData → Data
seen_document s e =
    object (text_if (codes "alg") (option_map alg_text e.item.view.alg) (text_if (codes "class") e.item.view.class (with_class_ids e.item.view.id e.class_ids
    (member (codes "name") (string e.item.view.name) (text_if (codes "parent") e.item.holder (member (codes "type") (string (type_word s e.item.view.id e.item.view.kind))
    (member (codes "weight") (natural e.item.view.weight) no_members)))))))

-- if the map has the item, the members `ms` with a member before them, which has what the map says about the item; otherwise only the members `ms`
abbrev pub seen_if : List ℕ → SettingData → Option EntryData → Members → Members
seen_if name s None ms = ms
seen_if name s (Some e) ms = member name (seen_document s e) ms

-- the value for an item: its id, what the new map says about it, and what the old map says about it
unfoldable pub change_document : SettingData → SettingData → ItemId → EntryPair → Data
change_document s p i e = object (member (codes "id") (whole (item_number i)) (seen_if (codes "is") p e.after (seen_if (codes "was") s e.before no_members)))

-- CHANGE: the value for the item with this id, as a list. The list is empty if both maps say the same about the item
abbrev pub change_at : PlainMap → PlainMap → ItemId → List Data
change_at old new i = if is_some (id_difference Changes old.table new.table i) then change_document old.setting new.setting i (id_entries old.table new.table i) ∷ [] else []

-- the values for those items with these ids about which the two maps say different things
abbrev pub changes_at : PlainMap → PlainMap → List ItemId → List Data
changes_at old new ids = flat_map (change_at old new) ids

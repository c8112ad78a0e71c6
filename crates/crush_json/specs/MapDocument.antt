-- A map as a JSON value, with the keys of `crushtool --dump`. The page docs/user/json.md says what differs from the output of that program. The members of each object are sorted by name.
use Rattle.std.specs.Prelude.{ℕ, ◌+◌, List, [], ◌∷◌, ◌++◌, codes, map, flat_map}
use Rattle.std.specs.Option.{option_map_or}
use Rattle.crush_units.specs.declared.id.ItemId.{ItemId}
use Rattle.crush_units.specs.declared.id.ItemId.TheVariants.{Device, Bucket}
use Rattle.crush_units.specs.Alg.{alg_text}
use Rattle.crush_units.specs.Id.{item_number}
use Rattle.crush_model.specs.Table.{Row, kids}
use Rattle.crush_nodes.specs.Views.{ViewData, view_of}
use Rattle.crush_edits.specs.Setting.{SettingData, TunableData}
use Rattle.crush_print.specs.MapText.{device_numbers, kind_numbers, kind_text}
use Rattle.serde_json.specs.Data.{Data, string, object, Members, member, no_members, put}
use Rattle.crush_json.specs.Values.{natural, whole, list, text_if}
use Rattle.crush_json.specs.Ids.{bucket_numbers}
use Rattle.crush_json.specs.RuleDocument.{rule_documents}

-- the value for the item with this id, as a list. The function `told` gives the value for what the table says about the item. The list is empty if the table doesn't have the item
abbrev pub of_view : List Row → ItemId → (ViewData → Data) → List Data
of_view t i told = option_map_or (λ v. told v ∷ []) (view_of t i) []

-- the value for a device
unfoldable pub device_document : ViewData → Data
device_document v =
    object (text_if (codes "class") v.class (member (codes "id") (whole (item_number v.id)) (member (codes "name") (string v.name) no_members)))

-- the values for the devices, by ascending id
unfoldable pub device_documents : List Row → List Data
device_documents t = flat_map (λ d. of_view t (Device d) device_document) (device_numbers t)

-- the value for a type
unfoldable pub kind_document : ℕ → List ℕ → Data
kind_document n name = object (member (codes "name") (string name) (member (codes "type_id") (natural n) no_members))

-- the values for the types, by ascending number
unfoldable pub kind_documents : SettingData → List Data
kind_documents s = map (λ n. kind_document n (kind_text s n)) (kind_numbers s)

-- the value for an item of a bucket. `place` is the position of the item among the bucket's items, from 0. The weight of a bucket is the sum of the weights of all devices below it
unfoldable pub item_document : ℕ → ViewData → Data
item_document place v =
    object (member (codes "id") (whole (item_number v.id)) (member (codes "pos") (natural place) (member (codes "weight") (natural v.weight) no_members)))

-- the values for the items of a bucket. The first item has the position `place`
unfoldable pub item_documents : List Row → ℕ → List ItemId → List Data
item_documents t place [] = []
item_documents t place (i ∷ is) = of_view t i (item_document place) ++ item_documents t (place + 1) is

-- the value for a bucket, given the name of its type and the values for its items
unfoldable pub bucket_document : List ℕ → List Data → ViewData → Data
bucket_document kind items v =
    object (member (codes "alg") (string (option_map_or alg_text v.alg [])) (member (codes "hash") (string (codes "rjenkins1")) (member (codes "id") (whole (item_number v.id))
    (member (codes "items") (list items) (member (codes "name") (string v.name) (member (codes "type_id") (natural v.kind) (member (codes "type_name") (string kind)
    (member (codes "weight") (natural v.weight) no_members))))))))

-- the value for the bucket with this id, as a list. The list is empty if the table doesn't have the bucket
abbrev pub buckets_at : SettingData → List Row → ℕ → List Data
buckets_at s t b = of_view t (Bucket b) (λ v. bucket_document (kind_text s v.kind) (item_documents t 0 (kids t b)) v)

-- the values for the buckets, from the id -1 downward
unfoldable pub bucket_documents : SettingData → List Row → List Data
bucket_documents s t = flat_map (buckets_at s t) (bucket_numbers t)

-- the members `ms`, and a member for each tunable. The member for a tunable is inserted at the position that the tunable's name has in the order of the members' names
unfoldable pub with_tunables : Members → List TunableData → Members
with_tunables ms [] = ms
with_tunables ms (k ∷ ks) = with_tunables (put k.name (natural k.value) ms) ks

-- the value for the tunables: an object with a member for each tunable, sorted by name
unfoldable pub tunables_document : SettingData → Data
tunables_document s = object (with_tunables no_members s.tunables)

-- MAP DOCUMENT: the value of a map with this setting and this table
unfoldable pub map_document : SettingData → List Row → Data
map_document s t =
    object (member (codes "buckets") (list (bucket_documents s t)) (member (codes "devices") (list (device_documents t)) (member (codes "rules") (list (rule_documents s t))
    (member (codes "tunables") (tunables_document s) (member (codes "types") (list (kind_documents s)) no_members)))))

-- The tree of a map as a JSON value. If `ceph osd tree -f json` prints the same data, the value has Ceph's keys. The page docs/user/json.md says what differs. The members of each object are sorted by name.
use Rattle.std.specs.Prelude.{ℕ, Bool, true, false, not, List, [], ◌∷◌, Option, Some, None, if◌then◌else◌, codes, map, flat_map, unwrap_or}
use Rattle.crush_units.specs.declared.id.ItemId.{ItemId}
use Rattle.crush_units.specs.declared.id.ItemId.TheVariants.{Device, Bucket}
use Rattle.crush_units.specs.Id.{item_number}
use Rattle.crush_model.specs.Table.{Row, kids}
use Rattle.crush_nodes.specs.Views.{ViewData}
use Rattle.crush_edits.specs.Setting.{SettingData, kind_name}
use Rattle.crush_print.specs.Tree.{WalkStepData}
use Rattle.serde_json.specs.Data.{Data, string, object, Members, member, no_members}
use Rattle.crush_json.specs.Values.{natural, whole, list, text_if}

-- the ids of items as values
abbrev pub id_values : List ItemId → List Data
id_values is = map (λ i. whole (item_number i)) is

-- for a bucket, the members `ms` with the member `children` before them, which has the ids of the bucket's items; for a device, only the members `ms`, because a device has no items
abbrev pub with_children : List Row → ItemId → Members → Members
with_children t (Device d) ms = ms
with_children t (Bucket b) ms = member (codes "children") (list (id_values (kids t b))) ms

-- the name of an item's type if the setting doesn't have the type: `osd` for a device, and an empty text for a bucket
abbrev pub default_type : ItemId → List ℕ
default_type (Device d) = codes "osd"
default_type (Bucket b) = []

-- the name of the type `kind` of an item, also if the setting doesn't have the type
abbrev pub type_word : SettingData → ItemId → ℕ → List ℕ
type_word s i kind = unwrap_or (kind_name s kind) (default_type i)

-- the members that describe an item: its id, its name, its type, and its weight. The weight of a bucket is the sum of the weights of all devices below it
abbrev pub item_members : SettingData → ViewData → Members
item_members s v =
    member (codes "id") (whole (item_number v.id)) (member (codes "name") (string v.name) (member (codes "type") (string (type_word s v.id v.kind))
    (member (codes "type_id") (natural v.kind) (member (codes "weight") (natural v.weight) no_members))))

-- the node of an item. `depth` is how many levels the item is below the top of the walk through the tree
unfoldable pub node_document : SettingData → List Row → ℕ → ViewData → Data
node_document s t depth v =
    object (with_children t v.id (member (codes "depth") (natural depth) (text_if (codes "device_class") v.class (item_members s v))))

-- whether an item is stray, which means that it is a device that no bucket holds
abbrev pub is_stray_in : ItemId → Option ℕ → Bool
is_stray_in (Device d) None = true
is_stray_in (Device d) (Some p) = false
is_stray_in (Bucket b) p = false

-- whether an item is stray, given what a table says about the item
abbrev pub is_stray : ViewData → Bool
is_stray v = is_stray_in v.id v.parent

-- if `stray` is true, whether the item is stray; otherwise whether it isn't stray
abbrev pub is_among : Bool → ViewData → Bool
is_among stray v = if stray then is_stray v else not (is_stray v)

-- the node of a step, as a list. The list is empty if the step's item isn't among the items that `stray` selects
abbrev pub node_if : SettingData → List Row → Bool → WalkStepData → List Data
node_if s t stray x = if is_among stray x.item then node_document s t x.depth x.item ∷ [] else []

-- if `stray` is true, the nodes of the steps whose items are stray; otherwise the nodes of the other steps
unfoldable pub node_documents : SettingData → List Row → Bool → List WalkStepData → List Data
node_documents s t stray steps = flat_map (node_if s t stray) steps

-- TREE DOCUMENT: the value for the tree of these steps, which are the steps of a walk through the map's tree
unfoldable pub tree_document : SettingData → List Row → List WalkStepData → Data
tree_document s t steps =
    object (member (codes "nodes") (list (node_documents s t false steps)) (member (codes "stray") (list (node_documents s t true steps)) no_members))

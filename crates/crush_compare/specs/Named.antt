-- Which items of two maps are the same item if items are matched by names, and the part of a map that a name selects.
use Rattle.std.specs.Prelude.{ℕ, ◌==◌, Bool, true, false, ◌||◌, List, Option, None, Some, if◌then◌else◌, option_and_then}
use Rattle.std.specs.Option.{option_map_or}
use Rattle.crush_units.specs.declared.id.ItemId.{ItemId}
use Rattle.crush_units.specs.declared.id.ItemId.TheVariants.{Device, Bucket}
use Rattle.crush_units.specs.Id.{same_id}
use Rattle.crush_model.specs.Table.{Row, id_named, is_below}
use Rattle.crush_items.specs.ItemData.{ItemData, item_of}
use Rattle.crush_compare.specs.declared.identity.Devices.{Devices}
use Rattle.crush_compare.specs.declared.identity.Devices.TheVariants.{ById, ByName}

-- whether two devices of the same name are the same device
abbrev pub is_one_device : Devices → ℕ → ℕ → Bool
is_one_device ById d e = d == e
is_one_device ByName d e = true

-- whether two items of the same name are the same item. Two buckets always are. For two devices, `by` decides. A bucket and a device never are
abbrev pub are_one : Devices → ItemId → ItemId → Bool
are_one by (Device d) (Device e) = is_one_device by d e
are_one by (Device d) (Bucket b) = false
are_one by (Bucket b) (Device d) = false
are_one by (Bucket b) (Bucket c) = true

-- what the table t says about the id j, if j is the same item as the item i of another table; otherwise none
abbrev pub if_one : Devices → List Row → ItemId → ItemId → Option ItemData
if_one by t i j = if are_one by i j then item_of t j else None

-- COUNTERPART of the item x of another table: what the table t says about its item with x's name, if that item and x are the same item. Otherwise none
unfoldable pub counterpart : Devices → List Row → ItemData → Option ItemData
counterpart by t x = option_and_then (if_one by t x.view.id) (id_named t x.view.name)

-- whether the item i is the given item or an item below it
abbrev pub is_at : List Row → ItemId → ItemId → Bool
is_at t (Device d) i = same_id (Device d) i
is_at t (Bucket b) i = same_id (Bucket b) i || is_below t b i

-- PART of a table: whether the item i is the item with the given name or below it. If no item has the name, no item is in the part. If no name is given, the part is the whole table
abbrev pub is_in : Option (List ℕ) → List Row → ItemId → Bool
is_in None t i = true
is_in (Some n) t i = option_map_or (λ j. is_at t j i) (id_named t n) false

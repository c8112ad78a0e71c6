-- Names of items, and items with other names.
use Rattle.std.specs.Prelude.{ℕ, List, Option, Some, None, if◌then◌else◌}
use Rattle.std.specs.Option.{option_or}
use Rattle.crush_units.specs.declared.id.ItemId.{ItemId}
use Rattle.crush_units.specs.declared.id.ItemId.TheVariants.{Device, Bucket}
use Rattle.crush_units.specs.Id.{same_id}
use Rattle.crush_model.specs.Items.{LeafData, HeaderData, Items, none, device, bucket}

-- the name of the first item that has the id, at any depth
abbrev pub name_in : ItemId → Items → Option (List ℕ)
name_in i none = None
name_in i (device d rest) = if same_id (Device d.id) i then Some d.name else name_in i rest
name_in i (bucket h w m kids rest) = if same_id (Bucket h.id) i then Some h.name else option_or (name_in i kids) (name_in i rest)

-- the device with the name n if it has the id i, otherwise the device unchanged
abbrev pub leaf_with_name : ItemId → List ℕ → LeafData → LeafData
leaf_with_name i n d = if same_id (Device d.id) i then record d { name = n } else d

-- the bucket with the name n if it has the id i, otherwise the bucket unchanged
abbrev pub header_with_name : ItemId → List ℕ → HeaderData → HeaderData
header_with_name i n h = if same_id (Bucket h.id) i then record h { name = n } else h

-- the items in which each item that has the id i, at any depth, has the name n
abbrev pub with_name : ItemId → List ℕ → Items → Items
with_name i n none = none
with_name i n (device d rest) = device (leaf_with_name i n d) (with_name i n rest)
with_name i n (bucket h w m kids rest) = bucket (header_with_name i n h) w m (with_name i n kids) (with_name i n rest)

-- the name of the first of the items
abbrev pub name_of_first : Items → Option (List ℕ)
name_of_first none = None
name_of_first (device d rest) = Some d.name
name_of_first (bucket h w m kids rest) = Some h.name

-- the items in which each of the items themselves has the name n; the items below them are unchanged
abbrev pub with_own_name : List ℕ → Items → Items
with_own_name n none = none
with_own_name n (device d rest) = device (record d { name = n }) (with_own_name n rest)
with_own_name n (bucket h w m kids rest) = bucket (record h { name = n }) w m kids (with_own_name n rest)

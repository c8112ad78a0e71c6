-- What a map says about its items: an entry for each item, with the bucket that holds the item.
use Rattle.std.specs.Prelude.{ℕ, List, [], ◌∷◌, ◌++◌, Option, Some}
use Rattle.std.specs.Option.{option_map}
use Rattle.crush_units.specs.declared.id.ItemId.{ItemId}
use Rattle.crush_model.specs.Items.{LeafData, ShadowData, HeaderData, Items, none, device, bucket}
use Rattle.crush_model.specs.Table.{Row, row_of}
use Rattle.crush_nodes.specs.Views.{device_view, bucket_view}
use Rattle.crush_items.specs.ItemData.{ItemData, row_item, own_class_ids}

-- an item with the name of its bucket and with its class ids
pub record EntryData : Type 0 where
  pub item : ItemData
  pub class_ids : List ShadowData

-- the entry that a table has for an id, if the table has the row r for this id
abbrev pub row_entry : List Row → ItemId → Row → EntryData
row_entry t i r = record { item = row_item t r; class_ids = own_class_ids t i }

abbrev pub entry_of : List Row → ItemId → Option EntryData
entry_of t i = option_map (row_entry t i) (row_of t i)

-- the entry of a device in the bucket p, whose name is n (both are None if no bucket holds the device)
abbrev pub device_entry : Option ℕ → Option (List ℕ) → LeafData → EntryData
device_entry p n d = record { item = record { view = device_view p d; holder = n }; class_ids = [] }

-- the entry of a bucket with the weight w in the bucket p, whose name is n
abbrev pub bucket_entry : Option ℕ → Option (List ℕ) → HeaderData → ℕ → EntryData
bucket_entry p n h w = record { item = record { view = bucket_view p h w; holder = n }; class_ids = h.class_ids }

-- the entries of plain items (`Items`) in the bucket p, whose name is n, and of all items below them. The entry of an item comes before the entries of the items below it
abbrev pub entries_of : Option ℕ → Option (List ℕ) → Items → List EntryData
entries_of p n none = []
entries_of p n (device d rest) = device_entry p n d ∷ entries_of p n rest
entries_of p n (bucket h w m k rest) = bucket_entry p n h w ∷ (entries_of (Some h.id) (Some h.name) k ++ entries_of p n rest)

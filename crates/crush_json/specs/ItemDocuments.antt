-- The values for items that are given as plain data, without a table. The definition AreBuckets says when a list of buckets agrees with a table.
use Rattle.std.specs.Prelude.{◌≡◌, ℕ, ◌+◌, List, [], ◌∷◌, None, All}
use Rattle.std.specs.List.Sorted.{IsNonDecreasingBy}
use Rattle.crush_units.specs.declared.id.ItemId.{ItemId}
use Rattle.crush_units.specs.declared.id.ItemId.TheVariants.{Device, Bucket}
use Rattle.crush_model.specs.Items.{LeafData, BucketData, Items, none, device, bucket}
use Rattle.crush_model.specs.Table.{Row, kids}
use Rattle.crush_nodes.specs.Views.{device_view, bucket_view}
use Rattle.crush_edits.specs.Setting.{SettingData}
use Rattle.crush_print.specs.MapText.{kind_text}
use Rattle.serde_json.specs.Data.{Data}
use Rattle.crush_json.specs.MapDocument.{bucket_document, device_document, item_document}

-- the value for a device
abbrev pub leaf_document : LeafData → Data
leaf_document d = device_document (device_view None d)

-- the values for the items that the bucket itself holds, but not for the items that are deeper in the tree. The first item has the position `place`
abbrev pub placed_documents : ℕ → Items → List Data
placed_documents place none = []
placed_documents place (device d rest) = item_document place (device_view None d) ∷ placed_documents (place + 1) rest
placed_documents place (bucket h w m below rest) = item_document place (bucket_view None h w) ∷ placed_documents (place + 1) rest

-- the value for a bucket with its items
abbrev pub own_document : SettingData → BucketData → Data
own_document s b = bucket_document (kind_text s b.header.kind) (placed_documents 0 b.kids) (bucket_view None b.header b.weight)

-- the ids of the items that one bucket itself holds
abbrev pub item_ids : Items → List ItemId
item_ids none = []
item_ids (device d rest) = Device d.id ∷ item_ids rest
item_ids (bucket h w m below rest) = Bucket h.id ∷ item_ids rest

-- THE BUCKETS of a table, from the id -1 downward. `see` gives an element of the list as plain data. Each bucket of the list has the items that it has in the table. A bucket that isn't in the list has no items in the table
pub record AreBuckets {X : Type 0} (see : X → BucketData) (t : List Row) (xs : List X) : Type 0 where
  pub items : All (λ x. kids t (see x).header.id ≡ item_ids (see x).kids) xs
  pub others : (b : ℕ) → All (λ x. (see x).header.id ≡ b → ⊥) xs → kids t b ≡ []
  pub rising : IsNonDecreasingBy (λ x. (see x).header.id) xs

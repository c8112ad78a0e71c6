-- How contracts describe the items of a list as plain data, and when a list has the items of a table.
use Rattle.std.specs.Prelude.{◌≡◌, ℕ, List, [], Option, Some, All}
use Rattle.std.specs.List.{sum_by}
use Rattle.std.specs.Option.{option_map}
use Rattle.crush_units.specs.declared.id.ItemId.{ItemId}
use Rattle.crush_model.specs.Items.{ShadowData}
use Rattle.crush_model.specs.Table.{Row}
use Rattle.crush_nodes.specs.Seen.{leaf_data}
use Rattle.crush_nodes.specs.Views.{ViewData, device_view, bucket_view}
use Rattle.crush_nodes.specs.declared.node.Node.{Node}
use Rattle.crush_nodes.specs.declared.node.Node.TheVariants.{Device, Bucket}
use Rattle.crush_items.specs.Entries.{EntryData, entry_of}
use Rattle.crush_items.specs.Tree.{WalkStepData}
use Rattle.crush_items.specs.declared.items.Item.{Item}

-- the node as plain data, with the parent p
abbrev pub node_view : {A : _} → Option ℕ → Node A → ViewData
node_view p (Device l) = device_view p (leaf_data l)
node_view p (Bucket b) = bucket_view p b.value.header b.value.weight

-- the class ids of a bucket; an empty list for a device
abbrev pub node_class_ids : {A : _} → Node A → List ShadowData
node_class_ids (Device l) = []
node_class_ids (Bucket b) = b.value.header.class_ids

-- an item as a step of the tree: its depth, and what the map says about it (`ViewData`)
abbrev pub item_step : {A : _} → Item A → WalkStepData
item_step x = record { depth = x.depth; item = node_view x.parent x.node.now }

-- an item as an entry: what the map says about it (`ViewData`), the name of the bucket that holds it, and its class ids
abbrev pub item_entry : {A : _} → Item A → EntryData
item_entry x = record { item = record { view = node_view x.parent x.node.now; holder = option_map (λ n. n.now) x.holder }; class_ids = node_class_ids x.node.now }

-- the id of an entry's item
abbrev pub entry_id : EntryData → ItemId
entry_id e = e.item.view.id

-- ENTRIES OF A TABLE: each entry is what the table says about the entry's id, and there is one entry for each row. (The clause `ids` says this by sums: for each function from ids to numbers, the sum over the ids of the entries equals the sum over the ids of the rows.)
pub record HasEntries (t : List Row) (es : List EntryData) : Type 0 where
  pub told : All (λ e. entry_of t (entry_id e) ≡ Some e) es
  pub ids : (n : ItemId → ℕ) → sum_by (λ e. n (entry_id e)) es ≡ sum_by (λ (r : Row). n r.id) t

-- What a table says about an item, in the form in which two tables are compared.
use Rattle.std.specs.Prelude.{ℕ, List, [], Option, option_and_then}
use Rattle.std.specs.Option.{option_map, option_map_or}
use Rattle.crush_units.specs.declared.id.ItemId.{ItemId}
use Rattle.crush_units.specs.declared.id.ItemId.TheVariants.{Device, Bucket}
use Rattle.crush_model.specs.Items.{ShadowData}
use Rattle.crush_model.specs.Table.{Row, row_of, name_of}
use Rattle.crush_nodes.specs.Views.{ViewData, row_view}

-- what a table says about an item (`ViewData`: id, type, name, weight, parent, class and algorithm), and the name of the bucket that holds the item. The weight of a bucket is the sum of the weights of the devices below it
pub record ItemData : Type 0 where
  pub view : ViewData
  pub holder : Option (List ℕ)

-- what a table says about an item, together with the name of the bucket that holds the item
abbrev pub with_holder : List Row → ViewData → ItemData
with_holder t v = record { view = v; holder = option_and_then (λ p. name_of t (Bucket p)) v.parent }

abbrev pub row_item : List Row → Row → ItemData
row_item t r = with_holder t (row_view t r)

abbrev pub item_of : List Row → ItemId → Option ItemData
item_of t i = option_map (row_item t) (row_of t i)

-- the class ids that the table has for a bucket; an empty list for a device, or if the table doesn't have the bucket
abbrev pub own_class_ids : List Row → ItemId → List ShadowData
own_class_ids t (Device d) = []
own_class_ids t (Bucket b) = option_map_or (λ (r : Row). r.class_ids) (row_of t (Bucket b)) []

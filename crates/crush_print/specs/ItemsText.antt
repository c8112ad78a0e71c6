-- The lines of items and the texts of buckets, computed from plain items (`Items`).
use Rattle.std.specs.Prelude.{ℕ, List, [], ◌∷◌, ◌++◌, None}
use Rattle.crush_model.specs.Items.{LeafData, BucketData, Items, none, device, bucket}
use Rattle.crush_model.specs.ItemRows.{bucket_row}
use Rattle.crush_edits.specs.Setting.{SettingData}
use Rattle.crush_print.specs.Lines.{item_line, bucket_lines}
use Rattle.crush_print.specs.declared.weight_form.WeightForm.{WeightForm}
use Rattle.crush_print.specs.MapText.{kind_text}
pub use Rattle.crush_items.specs.Order.{id_number}

-- the lines of these items, with weights in this form, but without the items below them. A bucket's line has the weight that the bucket stores
abbrev pub item_lines : WeightForm → Items → List ℕ
item_lines form none = []
item_lines form (device d rest) = item_line form d.name d.weight ++ item_lines form rest
item_lines form (bucket h w m kids rest) = item_line form h.name w ++ item_lines form rest

-- the text of a bucket, without the buckets below it
abbrev pub own_text : WeightForm → SettingData → BucketData → List ℕ
own_text form s b = bucket_lines form (kind_text s b.header.kind) (bucket_row None b.header) b.weight (item_lines form b.kids)

-- all buckets that are among these items or below them, each after the buckets below it
abbrev pub buckets_among : Items → List BucketData
buckets_among none = []
buckets_among (device d rest) = buckets_among rest
buckets_among (bucket h w m kids rest) = (buckets_among kids ++ (record { header = h; weight = w; capacity = m; kids = kids }) ∷ []) ++ buckets_among rest

-- all devices that are among these items or below them, in their order
abbrev pub leaves : Items → List LeafData
leaves none = []
leaves (device d rest) = d ∷ leaves rest
leaves (bucket h w m kids rest) = leaves kids ++ leaves rest

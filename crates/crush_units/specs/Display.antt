-- The texts that `{}` prints for ids.
use Rattle.std.specs.Prelude.{ℕ, List, ◌++◌, codes, decimal}
use Rattle.crush_units.specs.declared.id.ItemId.{ItemId}
use Rattle.crush_units.specs.declared.id.ItemId.TheVariants.{Device, Bucket}

-- the text of a device's id: its number in decimal
abbrev pub device_text : ℕ → List ℕ
device_text d = decimal d

-- the text of a bucket's id: a minus sign, and then its distance below 0 in decimal
abbrev pub bucket_text : ℕ → List ℕ
bucket_text b = codes "-" ++ decimal b

-- the text of an item's id, which is a device's or a bucket's
abbrev pub item_text : ItemId → List ℕ
item_text (Device d) = device_text d
item_text (Bucket b) = bucket_text b

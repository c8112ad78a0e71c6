-- Laws about removing an item with all items below it, and appending these items with another parent.
use Rattle.std.specs.Prelude.{◌≡◌, ℕ, List, [], ◌∷◌, ◌++◌, Option, Some, None, IfSome, false}
use Rattle.crush_units.specs.declared.id.ItemId.{ItemId}
use Rattle.crush_units.specs.declared.id.ItemId.TheVariants.{Device, Bucket}
use Rattle.crush_model.specs.Items.{LeafData, Items, none, device, bucket}
use Rattle.crush_model.specs.Table.{Row, row_of, kids, sum_below, total}
use Rattle.crush_model.specs.Same.{Same}
use Rattle.crush_model.specs.Lawful.{Lawful}
use Rattle.crush_model.specs.Columns.{is_part, table_without, part, without_row}
use Rattle.crush_model.specs.ItemRows.{rows}

-- the list of items has exactly one item, with all items below it
abbrev pub IsOne : Items → Type 0
IsOne none = ⊥
IsOne (device d none) = Unit {0}
IsOne (device d (device e rest)) = ⊥
IsOne (device d (bucket h w m kids rest)) = ⊥
IsOne (bucket h w m kids none) = Unit {0}
IsOne (bucket h w m kids (device e rest)) = ⊥
IsOne (bucket h w m kids (bucket g v n more rest)) = ⊥

-- let n be an item i of the table with all items below it, and let the new parent p, if there is one, be neither i nor below i. Then removing all rows of n and appending them with the parent p gives the same table (Same) as removing just the row of i and appending this row with the parent p
abbrev pub Relocates : List Row → Type 0
Relocates t = (i : ItemId) (p : Option ℕ) (n : Items) (r : Row) → row_of t i ≡ Some r → IsOne n
    → Same (rows None n) (part i t) → IfSome p (λ b. is_part t i (Bucket b) ≡ false)
    → Same (table_without i t ++ rows p n) (without_row i t ++ record r { parent = p } ∷ [])

-- the law Relocates for a device d that also gets the weight w: removing the device and appending it with the parent p and the weight w gives the same table (Same) as removing just its row and appending this row with the parent p and the weight w
abbrev pub RelocatesDevice : List Row → Type 0
RelocatesDevice t = (p : Option ℕ) (d : LeafData) (w : ℕ) (r : Row)
    → row_of t (Device d.id) ≡ Some r → Same (rows None (device d none)) (part (Device d.id) t)
    → IfSome p (λ b. is_part t (Device d.id) (Bucket b) ≡ false)
    → Same (table_without (Device d.id) t ++ rows p (device (record d { weight = w }) none))
    (without_row (Device d.id) t ++ record r { parent = p; weight = w } ∷ [])

-- if a bucket has no items, removing the bucket and all items below it (table_without) removes just the bucket's own row
abbrev pub EmptyIsRow : Type 0
EmptyIsRow = (t : List Row) (b : ℕ) → kids t b ≡ []
    → table_without (Bucket b) t ≡ without_row (Bucket b) t

-- removing a device and all items below it (table_without) removes just the device's own row, because no item is below a device
abbrev pub DeviceIsRow : Type 0
DeviceIsRow = (t : List Row) (d : ℕ) → table_without (Device d) t ≡ without_row (Device d) t

-- in a lawful table, the part of a bucket without items (its row, without a parent, and the rows of all items below it) is just the bucket's own row, without its parent
abbrev pub EmptyPartIsRow : Type 0
EmptyPartIsRow = (t : List Row) (b : ℕ) (r : Row) → Lawful t → kids t b ≡ []
    → row_of t (Bucket b) ≡ Some r → part (Bucket b) t ≡ record r { parent = None } ∷ []

-- in a lawful table, the part of a device is just the device's own row, without its parent
abbrev pub DevicePartIsRow : Type 0
DevicePartIsRow = (t : List Row) (d : ℕ) (r : Row) → Lawful t → row_of t (Device d) ≡ Some r
    → part (Device d) t ≡ record r { parent = None } ∷ []

-- removing a bucket without items from a lawful table changes neither the sum of any bucket nor the total
abbrev pub EmptyKeepsSums : Type 0
EmptyKeepsSums = (t : List Row) (b : ℕ) → Lawful t → kids t b ≡ []
    → ((c : ℕ) → sum_below (table_without (Bucket b) t) c ≡ sum_below t c)
    × (total (table_without (Bucket b) t) ≡ total t)

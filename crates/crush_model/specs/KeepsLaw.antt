-- Laws about which changes keep a table lawful.
use Rattle.std.specs.Prelude.{◌≡◌, ℕ, ◌≤◌, List, [], ◌∷◌, ◌++◌, Option, Some, None, IfSome, true, false, All, bytes_eq, ◌==◌}
use Rattle.std.specs.List.{count_by}
use Rattle.crush_units.specs.declared.id.ItemId.{ItemId}
use Rattle.crush_units.specs.declared.id.ItemId.TheVariants.{Device, Bucket}
use Rattle.crush_units.specs.Id.{same_id}
use Rattle.crush_units.specs.Name.{IsName}
use Rattle.crush_model.specs.Items.{Items}
use Rattle.crush_model.specs.Table.{Row, row_of, is_there, is_named, is_placed, member, used_ids, are_nested}
use Rattle.crush_model.specs.Lawful.{IsRow, Lawful, is_too_heavy, has_too_many}
use Rattle.crush_model.specs.Columns.{set_weight, set_subtree, set_name, set_class, swap_buckets, is_part, part, without_row}
use Rattle.crush_model.specs.ItemRows.{rows}
use Rattle.crush_units.specs.declared.limits.TheConstants.{HEAVIEST_DEVICE}

-- each lawful table is still lawful after the change
abbrev pub KeepsLawful : (List Row → List Row) → Type 0
KeepsLawful change = (t : List Row) → Lawful t → Lawful (change t)

-- a device that is in a bucket may get a new weight, if this weight is at most that of the heaviest device, and no sum exceeds its limit afterwards
abbrev pub WeightKeepsLawful : Type 0
WeightKeepsLawful = (t : List Row) (d w : ℕ) → Lawful t → is_placed t (Device d) ≡ true
    → w ≤ HEAVIEST_DEVICE → is_too_heavy (set_weight (Device d) w t) ≡ false
    → Lawful (set_weight (Device d) w t)

-- all devices below a bucket may get a new weight, if this weight is at most that of the heaviest device, and no sum exceeds its limit afterwards
abbrev pub SubtreeKeepsLawful : Type 0
SubtreeKeepsLawful = (t : List Row) (b w : ℕ) → Lawful t → w ≤ HEAVIEST_DEVICE
    → is_too_heavy (set_subtree b w t) ≡ false → Lawful (set_subtree b w t)

-- an item of the table may get a new name, if the new name is valid and no row has it
abbrev pub NameKeepsLawful : Type 0
NameKeepsLawful = (i : ItemId) (n : List ℕ) (t : List Row) (r : Row) → Lawful t
    → row_of t i ≡ Some r → IsName n → is_named t n ≡ false → Lawful (set_name i n t)

-- a device may get a new class, if the new class is a valid name. It may also lose its class
abbrev pub ClassKeepsLawful : Type 0
ClassKeepsLawful = (d : ℕ) (c : Option (List ℕ)) (t : List Row) → Lawful t → IfSome c IsName
    → Lawful (set_class (Device d) c t)

-- an item's row may be removed and appended again with the bucket b as its parent and with the weight w. The bucket b has to be in the table, and it may be neither the item itself nor below the item. The new row has to be well-formed. Afterwards, no sum may exceed its limit
abbrev pub MoveKeepsLawful : Type 0
MoveKeepsLawful = (t : List Row) (i : ItemId) (b w : ℕ) (r : Row) → Lawful t → row_of t i ≡ Some r
    → is_there t (Bucket b) ≡ true → is_part t i (Bucket b) ≡ false
    → IsRow (record r { parent = Some b; weight = w })
    → is_too_heavy (without_row i t ++ record r { parent = Some b; weight = w } ∷ []) ≡ false
    → Lawful (without_row i t ++ record r { parent = Some b; weight = w } ∷ [])

-- two buckets of the table may exchange their items and names, if they aren't the same, neither is below the other, and no sum exceeds its limit afterwards
abbrev pub SwapKeepsLawful : Type 0
SwapKeepsLawful = (t : List Row) (a b : ℕ) (r s : Row) → Lawful t → row_of t (Bucket a) ≡ Some r
    → row_of t (Bucket b) ≡ Some s → are_nested t a b ≡ false
    → is_too_heavy (swap_buckets a b t) ≡ false → Lawful (swap_buckets a b t)

-- a well-formed row of a device without a parent may be appended, if its id and name are new and there are not too many devices and buckets afterwards
abbrev pub DeviceKeepsLawful : Type 0
DeviceKeepsLawful = (t : List Row) (d : ℕ) (r : Row) → r.id ≡ Device d → Lawful t → IsRow r
    → r.parent ≡ None → is_there t (Device d) ≡ false → is_named t r.name ≡ false
    → has_too_many (t ++ r ∷ []) ≡ false → Lawful (t ++ r ∷ [])

-- a well-formed row of a bucket without a parent and without class ids may be appended, if its id isn't in use, its name is new, and there are not too many devices and buckets afterwards
abbrev pub BucketKeepsLawful : Type 0
BucketKeepsLawful = (t : List Row) (b : ℕ) (r : Row) → r.id ≡ Bucket b → r.class_ids ≡ [] → Lawful t
    → IsRow r → r.parent ≡ None → member b (used_ids t) ≡ false → is_named t r.name ≡ false
    → has_too_many (t ++ r ∷ []) ≡ false → Lawful (t ++ r ∷ [])

-- if an item has no parent, its row and the rows of all items below it are a lawful table by themselves
abbrev pub PartKeepsLawful : Type 0
PartKeepsLawful = (t : List Row) (i : ItemId) → Lawful t → is_placed t i ≡ false → Lawful (part i t)

-- a well-formed row is also well-formed with a bucket as its parent
abbrev pub PlacedRowKeepsForm : Type 0
PlacedRowKeepsForm = (b : ℕ) (r : Row) → IsRow r → IsRow (record r { parent = Some b })

-- a device's well-formed row is also well-formed with a bucket as its parent and with another weight, if this weight is at most that of the heaviest device
abbrev pub PlacedDeviceKeepsForm : Type 0
PlacedDeviceKeepsForm = (d b w : ℕ) (r : Row) → r.id ≡ Device d → w ≤ HEAVIEST_DEVICE → IsRow r
    → IsRow (record r { parent = Some b; weight = w })

-- the rows of items may be appended with a bucket of the table as their parent, or with none. Each of these rows has to be well-formed. Afterwards no two rows may have the same id or name, no id may be used twice, and no sum, total or count may exceed its limit
abbrev pub RowsKeepLawful : Type 0
RowsKeepLawful = (t : List Row) (p : Option ℕ) (n : Items) → Lawful t
    → IfSome p (λ b. is_there t (Bucket b) ≡ true) → All IsRow (rows p n)
    → ((i : ItemId) → count_by (λ (r : Row). same_id r.id i) (t ++ rows p n) ≤ 1)
    → ((m : List ℕ) → count_by (λ (r : Row). bytes_eq r.name m) (t ++ rows p n) ≤ 1)
    → ((k : ℕ) → count_by (λ u. u == k) (used_ids (t ++ rows p n)) ≤ 1)
    → is_too_heavy (t ++ rows p n) ≡ false → has_too_many (t ++ rows p n) ≡ false
    → Lawful (t ++ rows p n)

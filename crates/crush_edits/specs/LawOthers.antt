-- Laws about the edits without a location: when an edit changes the table, when the table after it is lawful, and when the setting still fits this table.
use Rattle.std.specs.Prelude.{◌≡◌, ℕ, ◌+◌, ◌≤◌, List, [], ◌∷◌, ◌++◌, Option, Some, None, Bool, true, false, not, ◌==◌, ◌||◌, bytes_eq}
use Rattle.std.specs.List.{list_all}
use Rattle.std.specs.Option.{option_eq}
use Rattle.crush_units.specs.declared.id.ItemId.{ItemId}
use Rattle.crush_units.specs.declared.id.ItemId.TheVariants.{Bucket}
use Rattle.crush_units.specs.Name.{IsName}
use Rattle.crush_model.specs.ItemRows.{bucket_row}
use Rattle.crush_model.specs.Table.{Row, own_weight_of, class_of, is_there, is_named, free_ids, device_count, bucket_count}
use Rattle.crush_model.specs.Lawful.{Lawful, has_too_many}
use Rattle.crush_model.specs.Columns.{set_weights, set_weight, set_name, set_class, swap_buckets, without_row}
use Rattle.crush_edits.specs.declared.refusal.Refusal.TheVariants.{NoRoom}
use Rattle.crush_edits.specs.declared.edit.Edit.TheVariants.{AddBucket}
use Rattle.crush_edits.specs.Setting.{SettingData, kind_number}
use Rattle.crush_edits.specs.Fits.{Fits}
use Rattle.crush_edits.specs.Stops.{number_of}
use Rattle.crush_edits.specs.Put.{new_header}
use Rattle.crush_edits.specs.Edit.{refusal}
use Rattle.crush_edits.specs.Changed.{same_table}
use Rattle.crush_edits.specs.Answer.{meets}
use Rattle.crush_edits.specs.Making.{holds_items, is_taken_by_rule, after_add_bucket}
use Rattle.crush_units.specs.declared.limits.TheConstants.{MOST_BUCKETS}

-- WEIGHTS: setting the weight w in all selected rows leaves the table unchanged if and only if each of these rows already has this weight
abbrev pub WeightsChange : Type 0
WeightsChange = (which : Row → Bool) (w : ℕ) (t : List Row) → same_table t (set_weights which w t) ≡ list_all (λ (r : Row). not (which r) || (r.weight == w)) t

-- setting the weight of an item to w leaves a lawful table unchanged if and only if the item's row already has this weight
abbrev pub WeightChanges : Type 0
WeightChanges = (t : List Row) (i : ItemId) (w v : ℕ) → Lawful t → own_weight_of t i ≡ Some v → same_table t (set_weight i w t) ≡ (v == w)

-- if a setting fits the table, it still fits after weights are set
abbrev pub WeightsFit : Type 0
WeightsFit = (s : SettingData) (t : List Row) (which : Row → Bool) (w : ℕ) → Fits s t → Fits s (set_weights which w t)

-- NAMES: giving an item of a lawful table a name that no row has changes the table
abbrev pub NameChanges : Type 0
NameChanges = (t : List Row) (i : ItemId) (n : List ℕ) → Lawful t → is_there t i ≡ true → is_named t n ≡ false → same_table t (set_name i n t) ≡ false

-- if a setting fits the table, it still fits after an item gets another name
abbrev pub NameFits : Type 0
NameFits = (s : SettingData) (t : List Row) (i : ItemId) (n : List ℕ) → Fits s t → Fits s (set_name i n t)

-- CLASSES: setting or removing the class of an item leaves a lawful table unchanged if and only if the item already has the class that is set, or already has no class
abbrev pub ClassChanges : Type 0
ClassChanges = (t : List Row) (i : ItemId) (c : Option (List ℕ)) → Lawful t → is_there t i ≡ true → same_table t (set_class i c t) ≡ option_eq bytes_eq (class_of t i) c

-- if a setting fits the table, it still fits after an item's class is set or removed
abbrev pub ClassFits : Type 0
ClassFits = (s : SettingData) (t : List Row) (i : ItemId) (c : Option (List ℕ)) → Fits s t → Fits s (set_class i c t)

-- SWAPS: swapping two different buckets of a lawful table changes the table
abbrev pub SwapChanges : Type 0
SwapChanges = (t : List Row) (a b : ℕ) → Lawful t → is_there t (Bucket a) ≡ true → is_there t (Bucket b) ≡ true → (a == b) ≡ false → same_table t (swap_buckets a b t) ≡ false

-- if a setting fits the table, it still fits after two buckets are swapped
abbrev pub SwapFits : Type 0
SwapFits = (s : SettingData) (t : List Row) (a b : ℕ) → Fits s t → Fits s (swap_buckets a b t)

-- REMOVALS: removing the row of an item that the table has changes the table
abbrev pub RemoveChanges : Type 0
RemoveChanges = (t : List Row) (i : ItemId) → is_there t i ≡ true → same_table t (without_row i t) ≡ false

-- a lawful table stays lawful if the row of a device, or of a bucket that holds no items, is removed
abbrev pub RemoveKeepsLawful : Type 0
RemoveKeepsLawful = (t : List Row) (i : ItemId) → Lawful t → meets (holds_items t) (number_of i) ≡ false → Lawful (without_row i t)

-- if a setting fits the table, it still fits after the row of a device, or of a bucket that no rule takes, is removed
abbrev pub RemoveFits : Type 0
RemoveFits = (s : SettingData) (t : List Row) (i : ItemId) → Fits s t → meets (is_taken_by_rule s) (number_of i) ≡ false → Fits s (without_row i t)

-- ADDITIONS: adding a bucket of a known type appends one row to the table: the row of a bucket with the first free id and without a parent
abbrev pub AddedIsRow : Type 0
AddedIsRow = (s : SettingData) (t : List Row) (n kind : List ℕ) (k b : ℕ) → kind_number s kind ≡ Some k → free_ids t 1 ≡ b ∷ [] → (after_add_bucket s t n kind).table ≡ t ++ bucket_row None (new_header (record { id = b; kind = k; name = n })) ∷ []

-- adding a bucket changes the table
abbrev pub AddedChanges : Type 0
AddedChanges = (s : SettingData) (t : List Row) (n kind : List ℕ) → same_table t (after_add_bucket s t n kind).table ≡ false

-- a lawful table that the setting fits stays lawful after a bucket is added, if the bucket's type is known and isn't type 0, its name is a valid name that no row has, and there are not too many items afterwards
abbrev pub AddedKeepsLawful : Type 0
AddedKeepsLawful = (s : SettingData) (t : List Row) (n kind : List ℕ) (k : ℕ) → Lawful t → Fits s t → kind_number s kind ≡ Some k → (k == 0) ≡ false → IsName n → is_named t n ≡ false → has_too_many (after_add_bucket s t n kind).table ≡ false → Lawful (after_add_bucket s t n kind).table

-- adding a bucket leaves the number of devices unchanged, and increases the number of buckets by 1
abbrev pub AddedCounts : Type 0
AddedCounts = (s : SettingData) (t : List Row) (n kind : List ℕ) → (device_count (after_add_bucket s t n kind).table ≡ device_count t) × (bucket_count (after_add_bucket s t n kind).table ≡ bucket_count t + 1)

-- if a setting fits the table, it still fits after a bucket of a known type is added
abbrev pub AddedFits : Type 0
AddedFits = (s : SettingData) (t : List Row) (n kind : List ℕ) (k : ℕ) → kind_number s kind ≡ Some k → Fits s t → Fits s (after_add_bucket s t n kind).table

-- if a table has 4,096 buckets or more, then adding a further bucket is refused with NoRoom, if the type of this bucket is known and isn't type 0, and no row has its name
abbrev pub FullHasNoRoom : Type 0
FullHasNoRoom = (s : SettingData) (t : List Row) (n kind : List ℕ) (k : ℕ) → kind_number s kind ≡ Some k → (k == 0) ≡ false → is_named t n ≡ false → MOST_BUCKETS ≤ bucket_count t → refusal s t (AddBucket n kind) ≡ Some NoRoom

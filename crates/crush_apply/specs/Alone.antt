-- When an edit isn't refused, for the edits that have no location and set no weights: Rename, Swap, SetClass, RemoveClass, Remove and AddBucket.
use Rattle.std.specs.Prelude.{◌≡◌, ℕ, ◌<◌, List, Option, Some, None, false, ◌==◌}
use Rattle.crush_units.specs.declared.id.ItemId.{ItemId}
use Rattle.crush_units.specs.declared.id.ItemId.TheVariants.{Device, Bucket}
use Rattle.crush_units.specs.declared.limits.TheConstants.{MOST_BUCKETS}
use Rattle.crush_model.specs.Table.{Row, class_of, id_named, is_named, are_nested, bucket_count}
use Rattle.crush_model.specs.Columns.{swap_buckets}
use Rattle.crush_model.specs.Lawful.{is_too_heavy}
use Rattle.crush_edits.specs.Setting.{SettingData, kind_number}
use Rattle.crush_edits.specs.Stops.{number_of}
use Rattle.crush_edits.specs.Answer.{meets}
use Rattle.crush_edits.specs.Making.{holds_items, is_taken_by_rule}

-- the bucket b has the name `from`, and no item has the name `to`
pub record CanRename (t : List Row) (from to : List ℕ) (b : ℕ) : Type 0 where
  pub named : id_named t from ≡ Some (Bucket b)
  pub free : is_named t to ≡ false

-- the buckets a and b have the names m and n, they are different and neither is below the other, and all sums are in range after the swap
pub record CanSwap (t : List Row) (m n : List ℕ) (a b : ℕ) : Type 0 where
  pub first : id_named t m ≡ Some (Bucket a)
  pub second : id_named t n ≡ Some (Bucket b)
  pub apart : are_nested t a b ≡ false
  pub fits : is_too_heavy (swap_buckets a b t) ≡ false

-- the device d has the name n, and its class is k
pub record HasClass (t : List Row) (n : List ℕ) (k : Option (List ℕ)) (d : ℕ) : Type 0 where
  pub named : id_named t n ≡ Some (Device d)
  pub class : class_of t (Device d) ≡ k

-- if a device is given, it has the name n and no class; if no device is given, a device has the name n and already has the class c
abbrev pub GetsClass : List Row → List ℕ → List ℕ → Option ℕ → Type 0
GetsClass t n c None = (d : ℕ) × HasClass t n (Some c) d
GetsClass t n c (Some d) = HasClass t n None d

-- the item i has the name n, and is a device, or a bucket that holds no items and that no rule takes
pub record CanRemove (s : SettingData) (t : List Row) (n : List ℕ) (i : ItemId) : Type 0 where
  pub named : id_named t n ≡ Some i
  pub empty : meets (holds_items t) (number_of i) ≡ false
  pub unused : meets (is_taken_by_rule s) (number_of i) ≡ false

-- the type has the number k, which isn't 0, no item has the name n, and there is room for one more bucket
pub record CanAddBucket (s : SettingData) (t : List Row) (n kind : List ℕ) (k : ℕ) : Type 0 where
  pub known : kind_number s kind ≡ Some k
  pub some : (k == 0) ≡ false
  pub free : is_named t n ≡ false
  pub room : bucket_count t < MOST_BUCKETS

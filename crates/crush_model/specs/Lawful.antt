-- Which tables are lawful. A map can only have a lawful table.
use Rattle.std.specs.Prelude.{◌≡◌, ℕ, ◌<◌, ◌≤◌, List, [], None, Bool, true, false, ◌==◌, ◌||◌, length, All, IfSome, bytes_eq, nat_lt}
use Rattle.std.specs.List.{count_by, list_any}
use Rattle.crush_units.specs.declared.id.ItemId.{ItemId}
use Rattle.crush_units.specs.declared.id.ItemId.TheVariants.{Device, Bucket}
use Rattle.crush_units.specs.Id.{same_id}
use Rattle.crush_units.specs.declared.limits.TheConstants.{DEVICE_IDS, FARTHEST_BUCKET_ID, HEAVIEST_BUCKET, HEAVIEST_DEVICE, HEAVIEST_MAP, LAST_TYPE, MOST_BUCKETS, MOST_CLASS_IDS, MOST_DEVICES}
use Rattle.crush_units.specs.Name.{IsName}
use Rattle.crush_model.specs.Items.{ShadowData}
use Rattle.crush_model.specs.Table.{Row, is_there, is_below, sum_below, total, used_ids, device_count, bucket_count}

-- a class id is well-formed: its id is in the range of bucket ids (1 to 2^31 below 0), and its class is a valid name
pub record IsShadowId (c : ShadowData) : Type 0 where
  pub some : 0 < c.id
  pub most : c.id ≤ FARTHEST_BUCKET_ID
  pub class : IsName c.class

-- the row r of the device d is well-formed: the id is below 2^31, the type is 0, the weight is at most that of the heaviest device, the weight is 0 if the device has no parent, there is no algorithm and no class id, and the class, if there is one, is a valid name
pub record IsDeviceRow (d : ℕ) (r : Row) : Type 0 where
  pub id : d < DEVICE_IDS
  pub kind : r.kind ≡ 0
  pub light : r.weight ≤ HEAVIEST_DEVICE
  pub unplaced : r.parent ≡ None → r.weight ≡ 0
  pub alg : r.alg ≡ None
  pub class_ids : r.class_ids ≡ []
  pub class : IfSome r.class IsName

-- the row r of the bucket b is well-formed: the id's distance below 0 is from 1 to 2^31, the type is from 1 to 65535, the row weighs 0 and has no class, it has an algorithm, and it has at most 16 class ids, which are well-formed and have distinct classes
pub record IsBucketRow (b : ℕ) (r : Row) : Type 0 where
  pub some : 0 < b
  pub most : b ≤ FARTHEST_BUCKET_ID
  pub kind_some : 0 < r.kind
  pub kind_most : r.kind ≤ LAST_TYPE
  pub weight : r.weight ≡ 0
  pub class : r.class ≡ None
  pub alg : r.alg ≡ None → ⊥
  pub class_ids : All IsShadowId r.class_ids
  pub few : length r.class_ids ≤ MOST_CLASS_IDS
  pub classes : (c : List ℕ) → count_by (λ (x : ShadowData). bytes_eq x.class c) r.class_ids ≤ 1

-- the row is a well-formed row of a device if the id is that of a device, and otherwise a well-formed row of a bucket
abbrev pub IsRowOf : ItemId → Row → Type 0
IsRowOf (Device d) r = IsDeviceRow d r
IsRowOf (Bucket b) r = IsBucketRow b r

-- a row is well-formed by itself: its name is a valid name, and it has the form of a device's row or of a bucket's row
pub record IsRow (r : Row) : Type 0 where
  pub name : IsName r.name
  pub form : IsRowOf r.id r

-- the row's parent, if it has one, is a bucket of the table
abbrev pub HasParent : List Row → Row → Type 0
HasParent t r = IfSome r.parent (λ p. is_there t (Bucket p) ≡ true)

-- LAWFUL: no two rows have the same id or the same name; no number is twice among the bucket ids and the class ids; each row is well-formed; each parent is a bucket of the table; no bucket is below itself. Each bucket's sum, the total, the number of devices and the number of buckets are within their limits
pub record Lawful (t : List Row) : Type 0 where
  pub ids : (i : ItemId) → count_by (λ (r : Row). same_id r.id i) t ≤ 1
  pub names : (n : List ℕ) → count_by (λ (r : Row). bytes_eq r.name n) t ≤ 1
  pub used : (k : ℕ) → count_by (λ u. u == k) (used_ids t) ≤ 1
  pub rows : All IsRow t
  pub parents : All (HasParent t) t
  pub loops : (b : ℕ) → is_below t b (Bucket b) ≡ false
  pub sums : (b : ℕ) → sum_below t b ≤ HEAVIEST_BUCKET
  pub total : total t ≤ HEAVIEST_MAP
  pub devices : device_count t ≤ MOST_DEVICES
  pub buckets : bucket_count t ≤ MOST_BUCKETS

-- whether an item is a bucket whose sum is above the limit
abbrev pub is_over : List Row → ItemId → Bool
is_over t (Device d) = false
is_over t (Bucket b) = nat_lt HEAVIEST_BUCKET (sum_below t b)

-- whether the sum of some bucket, or the total, is above its limit
abbrev pub is_too_heavy : List Row → Bool
is_too_heavy t = list_any (λ (r : Row). is_over t r.id) t || nat_lt HEAVIEST_MAP (total t)

-- whether there are more devices, or more buckets, than a map may have
abbrev pub has_too_many : List Row → Bool
has_too_many t = nat_lt MOST_DEVICES (device_count t) || nat_lt MOST_BUCKETS (bucket_count t)

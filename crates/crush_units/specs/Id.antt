-- The ids of devices, buckets and items as numbers. In contracts, the id of a device is its number, and the id of a bucket is its distance below 0. So bucket 1 is the bucket with the id -1 in a map.
use Rattle.std.specs.Prelude.{ℕ, suc, ◌-◌, ℤ, pos, negsuc, Bool, true, false, ◌&&◌, ◌==◌, ◌<◌, ◌≤◌, nat_lt, nat_le, Option, Some, None, if◌then◌else◌}
use Rattle.crush_units.specs.declared.id.ItemId.{ItemId}
use Rattle.crush_units.specs.declared.id.ItemId.TheVariants.{Device, Bucket}
use Rattle.crush_units.specs.declared.limits.TheConstants.{DEVICE_IDS, FARTHEST_BUCKET_ID, LAST_DEVICE_ID}

-- the device whose id is a signed number: the number itself, or none if it is below 0
abbrev pub device_of : ℤ → Option ℕ
device_of (pos n) = Some n
device_of (negsuc n) = None

-- the device whose id is a number without sign: the number itself, or none if it is above 2147483647
abbrev pub device_from : ℕ → Option ℕ
device_from n = if nat_le n LAST_DEVICE_ID then Some n else None

-- the bucket whose id is a signed number: bucket 1 for -1, or none if the number isn't below 0
abbrev pub bucket_of : ℤ → Option ℕ
bucket_of (pos n) = None
bucket_of (negsuc n) = Some (suc n)

-- the bucket whose id is at a distance below 0: the distance itself, or none if it isn't from 1 to 2147483648
abbrev pub bucket_below : ℕ → Option ℕ
bucket_below n = if nat_lt 0 n && nat_le n FARTHEST_BUCKET_ID then Some n else None

-- the signed number of a bucket: -1 for bucket 1
abbrev pub bucket_number : ℕ → ℤ
bucket_number n = negsuc (n - 1)

-- the signed number of an item: 0 or above for a device, below 0 for a bucket
abbrev pub item_number : ItemId → ℤ
item_number (Device d) = pos d
item_number (Bucket b) = bucket_number b

-- whether an item is a device
abbrev pub is_device_id : ItemId → Bool
is_device_id (Device d) = true
is_device_id (Bucket b) = false

-- whether two ids are ids of the same item: both are ids of devices or both are ids of buckets, and they have the same number
abbrev pub same_id : ItemId → ItemId → Bool
same_id (Device a) (Device b) = a == b
same_id (Bucket a) (Bucket b) = a == b
same_id (Device a) (Bucket b) = false
same_id (Bucket a) (Device b) = false

-- an item's id is in range: the id of a device is below 2^31, and the distance of a bucket's id below 0 is from 1 to 2^31
abbrev pub IsItemId : ItemId → Type 0
IsItemId (Device d) = d < DEVICE_IDS
IsItemId (Bucket b) = (0 < b) × (b ≤ FARTHEST_BUCKET_ID)

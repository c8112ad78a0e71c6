-- The state of a builder, the draft that it represents, and the tests that a parser can make before each step. A draft (`Draft`) is what has been built so far; it has a table where the builder has a forest.
pub use Rattle.crush_edits.specs.Setting.{has_tunable}
use Rattle.std.specs.Prelude.{◌≡◌, ℕ, ◌<◌, ◌≤◌, List, [], ◌∷◌, All, map, Option, Some, None, Bool, true, false, ◌==◌, ◌||◌, ◌&&◌, if◌then◌else◌, length, bytes_eq, nat_lt, nat_le, is_some, option_and_then}
use Rattle.std.specs.List.{count_by, list_any}
use Rattle.crush_units.specs.declared.id.ItemId.{ItemId}
use Rattle.crush_units.specs.declared.id.ItemId.TheVariants.{Bucket}
use Rattle.crush_units.specs.Id.{same_id}
use Rattle.crush_units.specs.Name.{IsName}
use Rattle.crush_model.specs.Items.{ShadowData}
use Rattle.crush_model.specs.Table.{Row, is_bucket, is_there, is_named, parent_of, id_named, used_ids, member, device_count, bucket_count}
use Rattle.crush_model.specs.Lawful.{IsShadowId}
use Rattle.crush_model.specs.Forest.{ForestData, rows_of}
use Rattle.crush_model.specs.Stands.{Stands}
use Rattle.crush_edits.specs.Setting.{KindData, SettingData, kind_number}
use Rattle.crush_edits.specs.Fits.{Fits}
use Rattle.crush_builder.specs.Built.{Pending, nothing, begun, numbered, filling, Draft}
use Rattle.crush_units.specs.declared.limits.TheConstants.{FARTHEST_BUCKET_ID, LAST_TYPE, MOST_BUCKETS, MOST_CLASS_IDS, MOST_DEVICES, MOST_TUNABLES, MOST_TYPES}

-- a builder as contracts see it: its setting, its forest, the incomplete bucket, and how often a written weight of a bucket was replaced by the sum of the weights of the devices below the bucket
pub record BuilderData : Type 0 where
  pub setting : SettingData
  pub forest : ForestData
  pub pending : Pending
  pub adjusted : ℕ

-- whether a bucket can have the type with this number: the number isn't 0, and the setting has the type
abbrev pub is_bucket_kind : SettingData → ℕ → Bool
is_bucket_kind s k = nat_lt 0 k && list_any (λ (x : KindData). x.number == k) s.kinds

-- whether the value is a number that isn't 0
abbrev pub is_some_above_zero : Option ℕ → Bool
is_some_above_zero None = false
is_some_above_zero (Some k) = nat_lt 0 k

-- whether a bucket can have the type with this name: the setting has the type, and its number isn't 0
abbrev pub names_bucket_kind : SettingData → List ℕ → Bool
names_bucket_kind s n = is_some_above_zero (kind_number s n)

-- a bucket of this type and name can be added to the table: the setting has the type, which isn't type 0; the name is valid, and no item has it; and there are fewer buckets than the limit
pub record CanBegin (s : SettingData) (t : List Row) (kind : ℕ) (name : List ℕ) : Type 0 where
  pub known : is_bucket_kind s kind ≡ true
  pub most : kind ≤ LAST_TYPE
  pub form : IsName name
  pub free : is_named t name ≡ false
  pub few : bucket_count t < MOST_BUCKETS

-- the ids that a bucket uses: its own id, and its class ids
abbrev pub own_ids : ℕ → List ShadowData → List ℕ
own_ids b class_ids = b ∷ map (λ (c : ShadowData). c.id) class_ids

-- a bucket with this id and these class ids can be added to the table: all these ids are in range, distinct, and not used in the table; each class id has a class in the form of a name; no two class ids have the same class; and there are at most as many class ids as the limit allows
pub record CanNumber (t : List Row) (b : ℕ) (class_ids : List ShadowData) : Type 0 where
  pub some : 0 < b
  pub most : b ≤ FARTHEST_BUCKET_ID
  pub free : member b (used_ids t) ≡ false
  pub form : All IsShadowId class_ids
  pub fresh : All (λ (c : ShadowData). member c.id (used_ids t) ≡ false) class_ids
  pub apart : (k : ℕ) → count_by (λ u. u == k) (own_ids b class_ids) ≤ 1
  pub classes : (c : List ℕ) → count_by (λ (x : ShadowData). bytes_eq x.class c) class_ids ≤ 1
  pub few : length class_ids ≤ MOST_CLASS_IDS

-- the bucket is in the table, and no bucket holds it
pub record IsRoot (t : List Row) (b : ℕ) : Type 0 where
  pub there : is_there t (Bucket b) ≡ true
  pub root : parent_of t (Bucket b) ≡ None

-- the incomplete bucket is consistent with the setting and the table: if the table doesn't have the bucket yet, the bucket can be added; if the bucket is being filled, it is a root of the table
abbrev pub IsPending : SettingData → List Row → Pending → Type 0
IsPending s t nothing = Unit {0}
IsPending s t (begun kind name) = CanBegin s t kind name
IsPending s t (numbered kind name b class_ids) = CanBegin s t kind name × CanNumber t b class_ids
IsPending s t (filling b) = IsRoot t b

-- how many buckets are items of another bucket; the number of written weights that were replaced by sums is never above this number
abbrev pub held_buckets : List Row → ℕ
held_buckets t = count_by (λ (r : Row). is_bucket r && is_some r.parent) t

-- the builder represents the draft: they have the same setting, incomplete bucket and count of replaced weights; the forest represents the table; the setting fits the table; the incomplete bucket is consistent with both; and no more weights were replaced than there are held buckets
pub record IsDraft (b : BuilderData) (d : Draft) : Type 0 where
  pub setting : b.setting ≡ d.setting
  pub pending : b.pending ≡ d.pending
  pub adjusted : b.adjusted ≡ d.adjusted
  pub few : d.adjusted ≤ held_buckets d.table
  pub stands : Stands b.forest d.table
  pub fits : Fits d.setting d.table
  pub part : IsPending d.setting d.table d.pending

-- the draft whose table consists of the rows of the builder's own forest; it is one of the drafts that the builder represents
abbrev pub own_draft : BuilderData → Draft
own_draft b = record { setting = b.setting; table = rows_of b.forest; pending = b.pending; adjusted = b.adjusted }

-- the invariant of a builder, in addition to the invariant of its forest: the setting fits the rows, the incomplete bucket is consistent with both, and no more weights were replaced than there are held buckets
pub record BuilderFits (b : BuilderData) : Type 0 where
  pub fits : Fits b.setting (rows_of b.forest)
  pub part : IsPending b.setting (rows_of b.forest) b.pending
  pub few : b.adjusted ≤ held_buckets (rows_of b.forest)

-- THE TESTS
-- whether no bucket is incomplete
abbrev pub is_idle : Pending → Bool
is_idle nothing = true
is_idle _ = false

-- whether a bucket has begun and has no id yet
abbrev pub is_begun : Pending → Bool
is_begun (begun kind name) = true
is_begun _ = false

-- whether a bucket has its id and no algorithm yet
abbrev pub is_numbered : Pending → Bool
is_numbered (numbered kind name b class_ids) = true
is_numbered _ = false

-- whether a bucket has its algorithm and isn't complete
abbrev pub is_filling : Pending → Bool
is_filling (filling b) = true
is_filling _ = false

-- whether the incomplete bucket, if it isn't in the table yet, has this name
abbrev pub has_pending_name : Pending → List ℕ → Bool
has_pending_name (begun kind name) n = bytes_eq name n
has_pending_name (numbered kind name b class_ids) n = bytes_eq name n
has_pending_name _ n = false

-- whether the incomplete bucket, if it isn't in the table yet, has this id, or one of its class ids is this id
abbrev pub has_pending_id : Pending → ℕ → Bool
has_pending_id (numbered kind name b class_ids) k = member k (own_ids b class_ids)
has_pending_id _ k = false

-- the class ids of the incomplete bucket, if it isn't in the table yet
abbrev pub pending_class_ids : Pending → List ShadowData
pending_class_ids (numbered kind name b class_ids) = class_ids
pending_class_ids _ = []

-- whether the item is the bucket that is being filled
abbrev pub is_open : Pending → ItemId → Bool
is_open (filling b) i = same_id (Bucket b) i
is_open _ i = false

-- whether an item of the table or the incomplete bucket has this name
abbrev pub has_name : Draft → List ℕ → Bool
has_name d n = is_named d.table n || has_pending_name d.pending n

-- whether the id is the id or a class id of a bucket of the table or of the incomplete bucket
abbrev pub has_bucket_id : Draft → ℕ → Bool
has_bucket_id d k = member k (used_ids d.table) || has_pending_id d.pending k

-- whether the incomplete bucket, if it isn't in the table yet, has a class id for this class
abbrev pub has_class : Draft → List ℕ → Bool
has_class d c = list_any (λ (x : ShadowData). bytes_eq x.class c) (pending_class_ids d.pending)

-- the item itself, if it isn't the bucket that is being filled
abbrev pub closed_item : Pending → ItemId → Option ItemId
closed_item p i = if is_open p i then None else Some i

-- the device or complete bucket with this name, if there is one
abbrev pub item_named : Draft → List ℕ → Option ItemId
item_named d n = option_and_then (closed_item d.pending) (id_named d.table n)

-- whether a type has this number
abbrev pub has_kind_number : SettingData → ℕ → Bool
has_kind_number s k = list_any (λ (x : KindData). x.number == k) s.kinds

-- whether a type has this name
abbrev pub has_kind_name : SettingData → List ℕ → Bool
has_kind_name s n = list_any (λ (x : KindData). bytes_eq x.name n) s.kinds

-- each of these says whether a limit is reached, so that one more would exceed it: the limit of devices, of buckets, of class ids of the incomplete bucket, of types, or of tunables
abbrev pub is_full_of_devices : Draft → Bool
is_full_of_devices d = nat_le MOST_DEVICES (device_count d.table)

abbrev pub is_full_of_buckets : Draft → Bool
is_full_of_buckets d = nat_le MOST_BUCKETS (bucket_count d.table)

abbrev pub is_full_of_class_ids : Draft → Bool
is_full_of_class_ids d = nat_le MOST_CLASS_IDS (length (pending_class_ids d.pending))

abbrev pub is_full_of_kinds : Draft → Bool
is_full_of_kinds d = nat_le MOST_TYPES (length d.setting.kinds)

abbrev pub is_full_of_tunables : Draft → Bool
is_full_of_tunables d = nat_le MOST_TUNABLES (length d.setting.tunables)

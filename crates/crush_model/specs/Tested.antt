-- A test that computes whether a table is lawful, for tables that are written out in full.
use Rattle.std.specs.Prelude.{ℕ, List, [], ◌∷◌, Option, Some, None, Bool, true, false, not, ◌==◌, ◌&&◌, ◌||◌, length, map, is_some, is_none, bytes_eq, nat_lt, nat_le}
use Rattle.std.specs.List.{list_any, list_all}
use Rattle.crush_units.specs.declared.id.ItemId.{ItemId}
use Rattle.crush_units.specs.declared.id.ItemId.TheVariants.{Device, Bucket}
use Rattle.crush_units.specs.Id.{same_id}
use Rattle.crush_units.specs.Name.{is_name}
use Rattle.crush_model.specs.Items.{ShadowData}
use Rattle.crush_model.specs.Table.{Row, is_there, is_below, used_ids}
use Rattle.crush_model.specs.Lawful.{is_too_heavy, has_too_many}
use Rattle.crush_units.specs.declared.limits.TheConstants.{DEVICE_IDS, FARTHEST_BUCKET_ID, HEAVIEST_DEVICE, LAST_TYPE, MOST_CLASS_IDS}

-- whether each of several tests holds
abbrev pub all_hold : List Bool → Bool
all_hold [] = true
all_hold (b ∷ bs) = b && all_hold bs

-- whether no two elements of a list are the same, by the given comparison
abbrev pub are_apart : {X : Type 0} → (X → X → Bool) → List X → Bool
are_apart same [] = true
are_apart same (x ∷ xs) = not (list_any (same x) xs) && are_apart same xs

-- whether there is no name, or the name is valid
abbrev pub name_or_none : Option (List ℕ) → Bool
name_or_none None = true
name_or_none (Some n) = is_name n

-- whether a class id is well-formed (IsShadowId)
abbrev pub is_shadow_id : ShadowData → Bool
is_shadow_id c = all_hold (nat_lt 0 c.id ∷ nat_le c.id FARTHEST_BUCKET_ID ∷ is_name c.class ∷ [])

-- the tests of a device's row, in the order of the conditions of IsDeviceRow
abbrev pub device_tests : ℕ → Row → List Bool
device_tests d r =
    nat_lt d DEVICE_IDS ∷ (r.kind == 0) ∷ nat_le r.weight HEAVIEST_DEVICE
    ∷ (is_some r.parent || (r.weight == 0)) ∷ is_none r.alg ∷ (length r.class_ids == 0)
    ∷ name_or_none r.class ∷ []

-- the tests of a bucket's row, in the order of the conditions of IsBucketRow
abbrev pub bucket_tests : ℕ → Row → List Bool
bucket_tests b r =
    nat_lt 0 b ∷ nat_le b FARTHEST_BUCKET_ID ∷ nat_lt 0 r.kind ∷ nat_le r.kind LAST_TYPE
    ∷ (r.weight == 0) ∷ is_none r.class ∷ is_some r.alg ∷ list_all is_shadow_id r.class_ids
    ∷ nat_le (length r.class_ids) MOST_CLASS_IDS
    ∷ are_apart bytes_eq (map (λ (c : ShadowData). c.class) r.class_ids) ∷ []

-- whether a row passes the tests of a device's row if the id is that of a device, and otherwise the tests of a bucket's row
abbrev pub is_row_of : ItemId → Row → Bool
is_row_of (Device d) r = all_hold (device_tests d r)
is_row_of (Bucket b) r = all_hold (bucket_tests b r)

-- whether a row is well-formed by itself (IsRow)
abbrev pub is_row : Row → Bool
is_row r = all_hold (is_name r.name ∷ is_row_of r.id r ∷ [])

-- whether the parent, if there is one, is a bucket of the table
abbrev pub parent_is_there : List Row → Option ℕ → Bool
parent_is_there t None = true
parent_is_there t (Some p) = is_there t (Bucket p)

-- whether an item is a bucket that is below itself
abbrev pub is_loop : List Row → ItemId → Bool
is_loop t (Device d) = false
is_loop t (Bucket b) = is_below t b (Bucket b)

-- the tests of a whole table: ids, names and used ids are distinct; each row is well-formed; each parent is in the table; no bucket is below itself; no sum or total is above its limit; there are not too many devices or buckets
abbrev pub table_tests : List Row → List Bool
table_tests t =
    are_apart same_id (map (λ (r : Row). r.id) t)
    ∷ are_apart bytes_eq (map (λ (r : Row). r.name) t)
    ∷ are_apart (λ a b. a == b) (used_ids t)
    ∷ list_all is_row t
    ∷ list_all (λ (r : Row). parent_is_there t r.parent) t
    ∷ not (list_any (λ (r : Row). is_loop t r.id) t)
    ∷ not (is_too_heavy t)
    ∷ not (has_too_many t) ∷ []

-- whether a table passes all tests in table_tests. A table passes them if and only if it is lawful
abbrev pub is_lawful : List Row → Bool
is_lawful t = all_hold (table_tests t)

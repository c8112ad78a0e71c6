-- Laws about what can be read from a table.
use Rattle.std.specs.Prelude.{◌≡◌, ℕ, ◌+◌, ◌*◌, ◌<◌, ◌≤◌, List, ◌++◌, false, length, unwrap_or, All, ◌==◌}
use Rattle.std.specs.List.{sum_by, count_by}
use Rattle.crush_units.specs.declared.id.ItemId.{ItemId}
use Rattle.crush_units.specs.Id.{same_id}
use Rattle.crush_model.specs.Table.{Row, row_of, row_named, climb, above, kids, sum_below, total, weight_of, member, used_ids, free_ids, device_count, bucket_count}
use Rattle.crush_model.specs.Classes.{class_sum}
use Rattle.crush_model.specs.Same.{Same}
use Rattle.crush_model.specs.Lawful.{Lawful, is_too_heavy, has_too_many}
use Rattle.crush_model.specs.Forest.{ForestData, IsSound, rows_of}
use Rattle.crush_model.specs.Stands.{Stands}
use Rattle.crush_units.specs.declared.limits.TheConstants.{FARTHEST_BUCKET_ID, MOST_BUCKETS, MOST_CLASS_IDS}
pub use Rattle.crush_model.specs.MoveLaw.{IsOne}

-- the weight of a bucket equals the sum of the weights of its items. (The weight of a bucket is defined as the sum over all devices below it, at any depth.)
abbrev pub SumsItems : List Row → Type 0
SumsItems t = (b : ℕ) → sum_below t b ≡ sum_by (λ i. unwrap_or (weight_of t i) 0) (kids t b)

-- following parents as often as there are rows, or more often, gives the same buckets above an item
abbrev pub ClimbEnds : List Row → Type 0
ClimbEnds t = (n : ℕ) (i : ItemId) → length t ≤ n → climb t n i ≡ above t i

-- reading gives equal results on both tables. This is about the row of each id and of each name, and so about all columns; the items of each bucket, in order; the buckets above each item; the sum of each bucket; the weight of each item; the weight of each class in each item; the total; the numbers of devices and buckets; whether an id is in use; and the first n free ids
pub record AreReadAlike (t u : List Row) : Type 0 where
  pub row : (i : ItemId) → row_of t i ≡ row_of u i
  pub named : (n : List ℕ) → row_named t n ≡ row_named u n
  pub kids : (b : ℕ) → kids t b ≡ kids u b
  pub above : (i : ItemId) → above t i ≡ above u i
  pub sum : (b : ℕ) → sum_below t b ≡ sum_below u b
  pub weight : (i : ItemId) → weight_of t i ≡ weight_of u i
  pub class : (i : ItemId) (c : List ℕ) → class_sum t i c ≡ class_sum u i c
  pub total : total t ≡ total u
  pub devices : device_count t ≡ device_count u
  pub buckets : bucket_count t ≡ bucket_count u
  pub used : (k : ℕ) → member k (used_ids t) ≡ member k (used_ids u)
  pub free : (n : ℕ) → free_ids t n ≡ free_ids u n

-- if a table is lawful, and another table is the same as it (Same), then reading gives equal results on both tables, and the other table is also lawful
abbrev pub SameIsAlike : Type 0
SameIsAlike = (t u : List Row) → Lawful t → Same t u → AreReadAlike t u × Lawful u

-- if two tables are the same and have no id twice, then either both are too heavy (a sum or the total is above its limit), or neither is. The tables need not be lawful
abbrev pub HeavyIsAlike : Type 0
HeavyIsAlike = (t u : List Row) → ((i : ItemId) → count_by (λ (r : Row). same_id r.id i) t ≤ 1)
    → Same t u → is_too_heavy t ≡ is_too_heavy u

-- if two tables are the same, then either both have too many devices or buckets, or neither has. The tables need not be lawful
abbrev pub RoomIsAlike : Type 0
RoomIsAlike = (t u : List Row) → Same t u → has_too_many t ≡ has_too_many u

-- if a change is made to a lawful table and to another table that is the same, then the results are also the same
abbrev pub KeepsSame : (List Row → List Row) → Type 0
KeepsSame change = (t u : List Row) → Lawful t → Same t u → Same (change t) (change u)

-- three statements about the tables that a forest represents. If the forest is sound, it represents its own rows. Any two tables that it represents are the same. If it represents a table, it also represents each table that is the same
abbrev pub StandsForOne : ForestData → Type 0
StandsForOne f =
    (IsSound f → Stands f (rows_of f))
    × ((t u : List Row) → Stands f t → Stands f u → Same t u)
    × ((t u : List Row) → Same t u → Stands f t → Stands f u)

-- if rows u are appended to a table t, then the numbers of devices and buckets and the totals of t and u are added, and the used ids of u are appended to those of t
pub record AddsRows (t u : List Row) : Type 0 where
  pub devices : device_count (t ++ u) ≡ device_count t + device_count u
  pub buckets : bucket_count (t ++ u) ≡ bucket_count t + bucket_count u
  pub total : total (t ++ u) ≡ total t + total u
  pub used : used_ids (t ++ u) ≡ used_ids t ++ used_ids u

-- the ids are n free ids of the table: each is from 1 to 2^31 below 0 and not in use, and no id is in the list twice
pub record AreFreeIds (t : List Row) (n : ℕ) (ids : List ℕ) : Type 0 where
  pub many : length ids ≡ n
  pub some : All (λ k. 0 < k) ids
  pub most : All (λ k. k ≤ FARTHEST_BUCKET_ID) ids
  pub unused : All (λ k. member k (used_ids t) ≡ false) ids
  pub once : (k : ℕ) → count_by (λ u. u == k) ids ≤ 1

-- the first n free ids are in range, unused and distinct, if the number of used ids plus n is at most the number of bucket ids, 2^31
abbrev pub FreeIdsAreFree : Type 0
FreeIdsAreFree = (t : List Row) (n : ℕ) → length (used_ids t) + n ≤ FARTHEST_BUCKET_ID
    → AreFreeIds t n (free_ids t n)

-- a lawful table uses at most MOST_BUCKETS * (MOST_CLASS_IDS + 1) ids: each bucket uses its own id and its class ids
abbrev pub FewIdsAreUsed : Type 0
FewIdsAreUsed = (t : List Row) → Lawful t
    → length (used_ids t) ≤ MOST_BUCKETS * (MOST_CLASS_IDS + 1)

-- The weights of all buckets of a map, as one walk through the map's tree finds them.
use Rattle.std.specs.Prelude.{◌≡◌, ℕ, ◌==◌, List, [], ◌∷◌, ◌++◌, Some, All}
use Rattle.std.specs.List.{count_by, sum_by}
use Rattle.std.specs.List.Sorted.{IsNonDecreasingBy}
use Rattle.crush_units.specs.Id.{same_id}
use Rattle.crush_units.specs.declared.id.ItemId.TheVariants.{Bucket}
use Rattle.crush_model.specs.Count.{one_if}
use Rattle.crush_model.specs.Items.{Items, none, device, bucket}
use Rattle.crush_model.specs.Stands.{Stands}
use Rattle.crush_model.specs.Table.{Row, weight_of}
use Rattle.crush_reasons.specs.declared.sums.Sum.{Sum}
use Rattle.crush_reasons.specs.declared.sums.SummedMap.{SummedMap}

-- a bucket, given by the distance of its id from 0, and a weight
abbrev pub sum : ℕ → ℕ → Sum
sum b w = record { bucket = b; weight = w }

-- the buckets among these items and below them, each with the weight that is stored in the bucket. A bucket comes after the buckets below it
abbrev pub sums_of : Items → List Sum
sums_of none = []
sums_of (device d rest) = sums_of rest
sums_of (bucket h w m k rest) = sums_of k ++ (sum h.id w ∷ sums_of rest)

-- the sums are those of a table's buckets. For each bucket of the table there is one sum, which is the bucket's weight in the table. The sums are sorted by the distances of the buckets' ids from 0
pub record AreSums (t : List Row) (sums : List Sum) : Type 0 where
  pub told : All (λ (s : Sum). weight_of t (Bucket s.bucket) ≡ Some s.weight) sums
  pub each : (b : ℕ) → sum_by (λ (s : Sum). one_if (s.bucket == b)) sums ≡ count_by (λ (r : Row). same_id r.id (Bucket b)) t
  pub rising : IsNonDecreasingBy (λ (s : Sum). s.bucket) sums

-- the map represents this table, and the sums are those of the table's buckets
pub record IsSummed (m : SummedMap) (t : List Row) : Type 0 where
  pub stands : Stands m.map.now.forest t
  pub sums : AreSums t m.sums.items

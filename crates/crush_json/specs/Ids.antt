-- The ids of a table's buckets, in the order in which documents have them.
use Rattle.std.specs.Prelude.{ℕ, List, flat_map}
use Rattle.crush_model.specs.Table.{Row, bucket_ids}
use Rattle.crush_print.specs.MapText.{ascending}

-- the ids of the buckets, in the order in which the bucket whose id is nearest to -1 comes first. An id is given as its distance from 0, so that the id -3 is given as 3
unfoldable pub bucket_numbers : List Row → List ℕ
bucket_numbers t = ascending (flat_map (λ (r : Row). bucket_ids r.id) t)

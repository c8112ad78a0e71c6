-- What rows that are appended add to counts, used ids and the total.
use Rattle.std.proofs.Common.{◌≡◌, ◌+◌, List, ◌++◌}
use Rattle.std.specs.Prelude.{if◌then◌else◌, is_some}
use Rattle.std.proofs.lemmas.List.Sums.{sum_by-append}
use Rattle.std.proofs.lemmas.Grind.{flat_map-append}
use Rattle.crush_model.specs.Table.{Row, is_device, is_bucket, summed_weight, total, device_count, bucket_count, used_ids}
use Rattle.crush_model.proofs.Reorder.{one_if}
use Rattle.crush_model.proofs.Same.{uses}

pub device_count-append : (t u : List Row) → device_count (t ++ u) ≡ device_count t + device_count u
device_count-append t u = sum_by-append (λ (r : Row). one_if (is_device r)) t u

pub bucket_count-append : (t u : List Row) → bucket_count (t ++ u) ≡ bucket_count t + bucket_count u
bucket_count-append t u = sum_by-append (λ (r : Row). one_if (is_bucket r)) t u

pub total-append : (t u : List Row) → total (t ++ u) ≡ total t + total u
total-append t u = sum_by-append (λ (r : Row). if is_some r.parent then summed_weight r else 0) t u

pub used_ids-append : (t u : List Row) → used_ids (t ++ u) ≡ used_ids t ++ used_ids u
used_ids-append t u = flat_map-append uses t u

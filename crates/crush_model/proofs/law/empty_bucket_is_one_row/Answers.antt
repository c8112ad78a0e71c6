use Rattle.crush_model.proofs.Emptied.{table_without-empty, table_without-device, part-empty, part-device, sum_below-emptied, total-emptied}
use Rattle.crush_model.proofs.law.empty_bucket_is_one_row.Goals as goal

pub returns : goal.returns
returns c = record { bucket = table_without-empty; device = table_without-device; bucket_part = part-empty; device_part = part-device; sums = λ t b l e. (sum_below-emptied t l b e, total-emptied t l b e) }

use Rattle.crush_model.proofs.Counted.{device_count-append, bucket_count-append, total-append, used_ids-append}
use Rattle.crush_model.proofs.law.counts_add.Goals as goal

pub returns : goal.returns
returns c t u = record { devices = device_count-append t u; buckets = bucket_count-append t u; total = total-append t u; used = used_ids-append t u }

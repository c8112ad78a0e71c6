use Rattle.crush_model.proofs.Classes.{class_sum-same}
use Rattle.crush_model.proofs.Found.{row_of-same, row_named-same}
use Rattle.crush_model.proofs.Same.{above-same, sum_below-same, weight_of-same, total-same, device_count-same, bucket_count-same, used-same, free_ids-same, Lawful-same}
use Rattle.crush_model.proofs.law.same_tables_are_read_alike.Goals as goal

pub returns : goal.returns
returns c t u l s = (
  record {
    row = row_of-same t u s.rows l.ids;
    named = row_named-same t u s.rows l.names;
    kids = s.kids;
    above = above-same t u s.rows l.ids;
    sum = sum_below-same t u s.rows l.ids;
    weight = weight_of-same t u s.rows l.ids;
    class = class_sum-same t u s.rows l.ids;
    total = total-same t u s.rows;
    devices = device_count-same t u s.rows;
    buckets = bucket_count-same t u s.rows;
    used = used-same t u s.rows;
    free = free_ids-same t u s.rows;
  },
  Lawful-same t u s l,
)

use Rattle.crush_print.specs.ItemsText.{own_text}
use Rattle.crush_print.proofs.ItemLines.{one_more, prints_more}
use Rattle.crush_print.proofs.printer.buckets.push_buckets.Goals as goal

pub loop-bucket-preserved : goal.loop-bucket-preserved
loop-bucket-preserved g c =
    one_more _ _ _ _ _ _ c.loop-bucket.invariant c.in_ok-push_bucket.ensures
    (prints_more (λ b. own_text c.args.form c.args.setting.now b.now) c.args.buckets.now c.loop-bucket.bucket-index c.bucket-item.result c.loop-bucket-test.true c.bucket-item.is)

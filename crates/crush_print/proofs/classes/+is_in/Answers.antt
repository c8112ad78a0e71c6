use Rattle.std.proofs.Common.{◌≡◌, ◌∙◌, ap, sym, arith}
use Rattle.std.specs.Prelude.{is_some}
use Rattle.crush_model.specs.Items.{BucketData}
use Rattle.crush_nodes.specs.Seen.{items_of}
use Rattle.crush_nodes.proofs.Ends.{all_taken}
use Rattle.crush_nodes.proofs.NodeLaws.{item_smaller}
use Rattle.crush_print.specs.ClassItems.{class_weight_in}
use Rattle.crush_print.proofs.ClassLaws.{none_found, one_found, weight_of_bucket}
use Rattle.crush_print.proofs.classes.+is_in.Goals as goal

pub is_in-requires : goal.is_in-requires
is_in-requires g t c κs within =
    let ns = c.as_slice-items.result.now in
    let same : items_of ns ≡ c.in-Bucket.bucket.value.kids = ap items_of c.as_slice-items.ensures.value ∙ ap (λ (d : BucketData). d.kids) (c.bucket.view_is ∙ c.deref-bucket.ensures) in
    (omega (arith, item_smaller ns c.loop-item.item-index c.item-item.result c.args.node.now c.in-Bucket.bucket c.loop-item-test.true c.item-item.is c.in-Bucket.is same, c.decreases), within)

pub loop-item-preserved : goal.loop-item-preserved
loop-item-preserved g t c =
    none_found c.args.class.now c.as_slice-items.result.now c.loop-item.item-index c.item-item.result c.loop-item-test.true c.item-item.is c.loop-item.invariant (sym c.is_in.ensures ∙ c.if-is_in.false)

pub returns-then-is_in : goal.returns-then-is_in
returns-then-is_in g t c =
    let k = c.args.class.now in
    sym (ap is_some (sym (weight_of_bucket k c.args.node.now c.in-Bucket.bucket _ _ c.in-Bucket.is (c.bucket.view_is ∙ c.deref-bucket.ensures) (ap items_of c.as_slice-items.ensures.value)))
    ∙ one_found k c.as_slice-items.result.now c.loop-item.item-index c.item-item.result c.loop-item-test.true c.item-item.is (sym c.is_in.ensures ∙ c.if-is_in.true))

pub returns-after-loop-item : goal.returns-after-loop-item
returns-after-loop-item g t c =
    let k = c.args.class.now in
    sym (ap is_some (sym (weight_of_bucket k c.args.node.now c.in-Bucket.bucket _ _ c.in-Bucket.is (c.bucket.view_is ∙ c.deref-bucket.ensures) (ap items_of c.as_slice-items.ensures.value)))
    ∙ sym (all_taken (λ n. is_some (class_weight_in k n)) c.as_slice-items.result.now c.loop-item.item-index c.loop-item-test.false) ∙ c.loop-item.invariant)

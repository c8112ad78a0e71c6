use Rattle.std.proofs.Common.{◌≡◌, ◌+◌, ◌∷◌, [], ap, ◌∙◌, arith}
use Rattle.crush_model.specs.Items.{BucketData}
use Rattle.crush_nodes.specs.Classed.{class_sum_in}
use Rattle.crush_nodes.specs.Seen.{items_of}
use Rattle.crush_nodes.proofs.ClassedLaws.{class_sum_in-at}
use Rattle.crush_nodes.proofs.Ends.{none_left}
use Rattle.crush_nodes.proofs.NodeLaws.{item_smaller}
use Rattle.crush_nodes.proofs.classed.+class_weight_in.Goals as goal

pub class_weight_in-requires : goal.class_weight_in-requires
class_weight_in-requires g t c κs within =
    let ns = c.as_slice-items.result.now in
    let k = c.args.class.now in
    let same : items_of ns ≡ c.in-Bucket.bucket.value.kids = ap items_of c.as_slice-items.ensures.value ∙ ap (λ (d : BucketData). d.kids) (c.bucket.view_is ∙ c.deref-bucket.ensures) in
    let whole : class_sum_in k (items_of (c.args.node.now ∷ [])) ≡ class_sum_in k c.in-Bucket.bucket.value.kids + 0 = ap (λ z. class_sum_in k (items_of (z ∷ []))) c.in-Bucket.is in (
      omega (arith, item_smaller ns c.loop-item.item-index c.item-item.result c.args.node.now c.in-Bucket.bucket c.loop-item-test.true c.item-item.is c.in-Bucket.is same, c.decreases),
      (within, omega (arith, c.loop-item.invariant, c.requires, whole, ap (class_sum_in k) same, class_sum_in-at k ns c.loop-item.item-index c.item-item.result c.loop-item-test.true c.item-item.is)),
    )

pub with_more-sum-requires : goal.with_more-sum-requires
with_more-sum-requires g t c =
    let ns = c.as_slice-items.result.now in
    let k = c.args.class.now in
    let same : items_of ns ≡ c.in-Bucket.bucket.value.kids = ap items_of c.as_slice-items.ensures.value ∙ ap (λ (d : BucketData). d.kids) (c.bucket.view_is ∙ c.deref-bucket.ensures) in
    let whole : class_sum_in k (items_of (c.args.node.now ∷ [])) ≡ class_sum_in k c.in-Bucket.bucket.value.kids + 0 = ap (λ z. class_sum_in k (items_of (z ∷ []))) c.in-Bucket.is in
    omega (arith, c.loop-item.invariant, c.requires, whole, ap (class_sum_in k) same, c.class_weight_in.ensures, class_sum_in-at k ns c.loop-item.item-index c.item-item.result c.loop-item-test.true c.item-item.is)

pub loop-item-preserved : goal.loop-item-preserved
loop-item-preserved g t c =
    let ns = c.as_slice-items.result.now in
    omega (arith, c.loop-item.invariant, c.with_more-sum.ensures, c.class_weight_in.ensures, class_sum_in-at c.args.class.now ns c.loop-item.item-index c.item-item.result c.loop-item-test.true c.item-item.is)

pub returns-after-loop-item : goal.returns-after-loop-item
returns-after-loop-item g t c =
    let ns = c.as_slice-items.result.now in
    let k = c.args.class.now in
    let same : items_of ns ≡ c.in-Bucket.bucket.value.kids = ap items_of c.as_slice-items.ensures.value ∙ ap (λ (d : BucketData). d.kids) (c.bucket.view_is ∙ c.deref-bucket.ensures) in
    let whole : class_sum_in k (items_of (c.args.node.now ∷ [])) ≡ class_sum_in k c.in-Bucket.bucket.value.kids + 0 = ap (λ z. class_sum_in k (items_of (z ∷ []))) c.in-Bucket.is in
    omega (arith, c.loop-item.invariant, whole, ap (class_sum_in k) same, none_left (class_sum_in k) ns c.loop-item.item-index c.loop-item-test.false)

use Rattle.std.proofs.Common.{◌≡◌, ◌∷◌, [], ap, ◌∙◌, arith}
use Rattle.crush_model.specs.Items.{BucketData}
use Rattle.crush_nodes.specs.Seen.{items_of}
use Rattle.crush_nodes.specs.Search.{devices_in}
use Rattle.crush_nodes.proofs.LeftLaws.{devices_split, devices_taken}
use Rattle.crush_nodes.proofs.NodeLaws.{item_smaller}
use Rattle.crush_nodes.proofs.Ends.{all_taken}
use Rattle.crush_nodes.proofs.attachable.+devices_left.Goals as goal

pub devices_left-requires : goal.devices_left-requires
devices_left-requires g t c κs within =
    let same : items_of c.as_slice-items.result.now ≡ c.in-Bucket.bucket.value.kids = ap items_of c.as_slice-items.ensures.value ∙ ap (λ (d : BucketData). d.kids) (c.bucket.view_is ∙ c.deref-bucket.ensures) in
    (omega (arith, item_smaller c.as_slice-items.result.now c.loop-item.item-index c.item-item.result c.args.node.now c.in-Bucket.bucket c.loop-item-test.true c.item-item.is c.in-Bucket.is same, c.decreases), within)

pub loop-item-preserved : goal.loop-item-preserved
loop-item-preserved g t c =
    let ns = c.as_slice-items.result.now in
    let i = c.loop-item.item-index in
    let x = c.item-item.result in
    omega (arith, c.loop-item.invariant, devices_taken ns i x c.loop-item-test.true c.item-item.is, c.in-Some.ensures.some)

pub returns-in-None-clause-none : goal.returns-in-None-clause-none
returns-in-None-clause-none g t c =
    let ns = c.as_slice-items.result.now in
    let i = c.loop-item.item-index in
    let x = c.item-item.result in
    let v = c.in-Bucket.bucket.value in
    let seen : _ ≡ v = c.bucket.view_is ∙ c.deref-bucket.ensures in
    let same : items_of ns ≡ v.kids = ap items_of c.as_slice-items.ensures.value ∙ ap (λ (d : BucketData). d.kids) seen in
    omega (arith, c.loop-item.invariant, devices_split ns i x c.loop-item-test.true c.item-item.is, c.in-None.ensures.none, ap devices_in same, ap (λ z. devices_in (items_of (z ∷ []))) c.in-Bucket.is)

pub returns-after-loop-item-clause-some : goal.returns-after-loop-item-clause-some
returns-after-loop-item-clause-some g t c =
    let ns = c.as_slice-items.result.now in
    let seen : _ ≡ c.in-Bucket.bucket.value = c.bucket.view_is ∙ c.deref-bucket.ensures in
    let same : items_of ns ≡ c.in-Bucket.bucket.value.kids = ap items_of c.as_slice-items.ensures.value ∙ ap (λ (d : BucketData). d.kids) seen in
    omega (arith, c.loop-item.invariant, all_taken devices_in ns c.loop-item.item-index c.loop-item-test.false, ap devices_in same, ap (λ z. devices_in (items_of (z ∷ []))) c.in-Bucket.is)

use Rattle.std.proofs.Common.{◌≡◌, ◌∙◌, List, [], ◌∷◌, ◌++◌, arith, ap, sym}
use Rattle.std.proofs.lemmas.Result.{on_ok_weaker}
use Rattle.crush_model.specs.Items.{BucketData, size_of}
use Rattle.crush_nodes.specs.Seen.{items_of}
use Rattle.crush_nodes.proofs.Ends.{all_taken}
use Rattle.crush_print.proofs.ItemLines.{item_no_larger}
use Rattle.crush_reasons.specs.Sums.{sums_of}
use Rattle.crush_reasons.specs.declared.sums.Sum.{Sum}
use Rattle.crush_reasons.proofs.SumLaws.{bucket_summed, sums-more}
use Rattle.crush_print.proofs.WalkLaws.{one_more}
use Rattle.crush_reasons.proofs.sums.+push_node.Goals as goal

pub push_node-requires : goal.push_node-requires
push_node-requires g t c κs within =
    let smaller = item_no_larger c.as_slice-below.result.now c.loop-item.item-index c.item-item.result c.loop-item-test.true c.item-item.is in
    let same : items_of c.as_slice-below.result.now ≡ c.in-Bucket.bucket.value.kids = ap items_of c.as_slice-below.ensures.value ∙ ap (λ (d : BucketData). d.kids) (c.bucket.view_is ∙ c.deref-bucket.ensures) in
    let node = ap (λ x. size_of (items_of (x ∷ []))) c.in-Bucket.is in
    (omega (arith, smaller, ap size_of same, node, c.decreases), within)

pub loop-item-preserved : goal.loop-item-preserved
loop-item-preserved g t c =
    one_more _ _ _ _ _ _ c.loop-item.invariant c.in_ok-push_node-in-Bucket.ensures
    (sums-more c.as_slice-below.result.now c.loop-item.item-index c.item-item.result c.loop-item-test.true c.item-item.is)

pub returns-after-loop-item : goal.returns-after-loop-item
returns-after-loop-item g t c =
    let old : List Sum = c.args.sums.now.items in
    let below = c.loop-item.invariant ∙ ap (λ (l : List Sum). old ++ l) (all_taken sums_of c.as_slice-below.result.now c.loop-item.item-index c.loop-item-test.false) in
    let own = bucket_summed c.args.node.now c.in-Bucket.bucket _ _ c.in-Bucket.is (c.bucket.view_is ∙ c.deref-bucket.ensures) (ap items_of c.as_slice-below.ensures.value) in
    on_ok_weaker c.push_sum.result (λ e. one_more old _ _ _ _ _ below e (sym own)) c.push_sum.ensures

pub offset_bounds-below-item-index : goal.offset_bounds-below-item-index
offset_bounds-below-item-index g t c = omega (arith, c.loop-item-test.true)

pub loop-item-smaller : goal.loop-item-smaller
loop-item-smaller g t c = omega (arith, c.loop-item-test.true)

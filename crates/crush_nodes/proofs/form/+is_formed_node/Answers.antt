use Rattle.std.proofs.Common.{◌≡◌, ◌+◌, ◌∷◌, [], true, false, drop, ap, sym, ◌∙◌, arith}
use Rattle.std.specs.Prelude.{◌&&◌}
use Rattle.crush_model.specs.Items.{BucketData}
use Rattle.crush_nodes.specs.Attachable.{is_formed, are_formed}
use Rattle.crush_nodes.specs.Seen.{items_of}
use Rattle.crush_nodes.proofs.FormLaws.{typed_more}
use Rattle.crush_nodes.proofs.NodeLaws.{item_smaller, are_formed-at}
use Rattle.crush_nodes.proofs.Ends.{none_left}
use Rattle.crush_nodes.proofs.form.+is_formed_node.Goals as goal

pub is_formed_node-requires : goal.is_formed_node-requires
is_formed_node-requires g t c κs within =
    let same : items_of c.as_slice-items.result.now ≡ c.in-Bucket.bucket.value.kids = ap items_of c.as_slice-items.ensures.value ∙ ap (λ (d : BucketData). d.kids) (c.bucket.view_is ∙ c.deref-bucket.ensures) in
    (omega (arith, item_smaller c.as_slice-items.result.now c.loop-item.item-index c.item-item.result c.args.node.now c.in-Bucket.bucket c.loop-item-test.true c.item-item.is c.in-Bucket.is same, c.decreases), within)

pub loop-item-preserved : goal.loop-item-preserved
loop-item-preserved g t c =
    let ns = c.as_slice-items.result.now in
    let i = c.loop-item.item-index in
    let x = c.item-item.result in
    record {
      tested = c.loop-item.invariant.tested ∙ are_formed-at ns i x c.loop-item-test.true c.item-item.is ∙ ap (λ z. z && are_formed (items_of (drop (i + 1) ns))) (sym c.if-not-is_formed_node.ensures.tested);
      typed = typed_more ns i x c.loop-item-test.true c.item-item.is c.loop-item.invariant.typed c.if-not-is_formed_node.ensures.typed;
    }

pub returns-then-not-is_formed_node-clause-tested : goal.returns-then-not-is_formed_node-clause-tested
returns-then-not-is_formed_node-clause-tested g t c =
    let ns = c.as_slice-items.result.now in
    let i = c.loop-item.item-index in
    let x = c.item-item.result in
    let v = c.in-Bucket.bucket.value in
    let seen : _ ≡ v = c.bucket.view_is ∙ c.deref-bucket.ensures in
    let same : items_of ns ≡ v.kids = ap items_of c.as_slice-items.ensures.value ∙ ap (λ (d : BucketData). d.kids) seen in
    let head : is_formed v.header ≡ true = sym (ap (λ (d : BucketData). is_formed d.header) seen) ∙ sym c.if-not-is_formed.ensures.tested in
    let below : are_formed v.kids ≡ false = ap are_formed (sym same) ∙ c.loop-item.invariant.tested ∙ are_formed-at ns i x c.loop-item-test.true c.item-item.is ∙ ap (λ z. z && are_formed (items_of (drop (i + 1) ns))) (sym c.if-not-is_formed_node.ensures.tested) in
    sym (ap (λ z. are_formed (items_of (z ∷ []))) c.in-Bucket.is ∙ (λ j. head j && (below j && true)))

pub returns-after-loop-item-clause-tested : goal.returns-after-loop-item-clause-tested
returns-after-loop-item-clause-tested g t c =
    let ns = c.as_slice-items.result.now in
    let v = c.in-Bucket.bucket.value in
    let seen : _ ≡ v = c.bucket.view_is ∙ c.deref-bucket.ensures in
    let same : items_of ns ≡ v.kids = ap items_of c.as_slice-items.ensures.value ∙ ap (λ (d : BucketData). d.kids) seen in
    let head : is_formed v.header ≡ true = sym (ap (λ (d : BucketData). is_formed d.header) seen) ∙ sym c.if-not-is_formed.ensures.tested in
    let below : are_formed v.kids ≡ true = ap are_formed (sym same) ∙ c.loop-item.invariant.tested ∙ none_left are_formed ns c.loop-item.item-index c.loop-item-test.false in
    sym (ap (λ z. are_formed (items_of (z ∷ []))) c.in-Bucket.is ∙ (λ j. head j && (below j && true)))

use Rattle.std.proofs.Common.{◌≡◌, ◌∙◌, ◌++◌, ◌∷◌, [], ap, arith, set, sym, take}
use Rattle.std.specs.Prelude.{List, Option, None, unwrap_or, ℕ}
use Rattle.std.proofs.lemmas.List.{set_at}
use Rattle.crush_model.specs.Items.{BucketData}
use Rattle.crush_nodes.specs.Seen.{items_of}
use Rattle.crush_nodes.proofs.Ends.{all_taken}
use Rattle.crush_nodes.proofs.NodeLaws.{item_smaller}
use Rattle.crush_print.specs.ClassItems.{class_weight_in, class_weights_in, together}
use Rattle.crush_print.proofs.ClassLaws.{sum-split, sum_of_bucket, weight-more, weight_units, weights-more, weights_of_bucket}
use Rattle.crush_print.proofs.WalkLaws.{one_more_below}
use Rattle.crush_print.proofs.classes.+push_weights.Goals as goal

pub push_weights-requires : goal.push_weights-requires
push_weights-requires g t c κs within =
    let ns = c.as_slice-items.result.now in
    let k = c.args.class.now in
    let same : items_of ns ≡ c.in-Bucket.bucket.value.kids = ap items_of c.as_slice-items.ensures.value ∙ ap (λ (d : BucketData). d.kids) (c.bucket.view_is ∙ c.deref-bucket.ensures) in
    let whole = sum_of_bucket k c.args.node.now c.in-Bucket.bucket _ _ c.in-Bucket.is (c.bucket.view_is ∙ c.deref-bucket.ensures) (ap items_of c.as_slice-items.ensures.value) in (
      omega (arith, item_smaller ns c.loop-item.item-index c.item-item.result c.args.node.now c.in-Bucket.bucket c.loop-item-test.true c.item-item.is c.in-Bucket.is same, c.decreases),
      (within, omega (arith, c.requires, whole, sum-split k ns c.loop-item.item-index c.item-item.result c.loop-item-test.true c.item-item.is)),
    )

pub together-own-requires : goal.together-own-requires
together-own-requires g t c =
    let ns = c.as_slice-items.result.now in
    let k = c.args.class.now in
    let i = c.loop-item.item-index in
    let x = c.item-item.result in
    let whole = sum_of_bucket k c.args.node.now c.in-Bucket.bucket _ _ c.in-Bucket.is (c.bucket.view_is ∙ c.deref-bucket.ensures) (ap items_of c.as_slice-items.ensures.value) in
    let before = ap (λ o. unwrap_or o 0) c.loop-item.invariant.0 ∙ weight_units k (items_of (take i ns)) in
    let own = ap (λ o. unwrap_or o 0) c.in_ok-below-in-Bucket.ensures.own ∙ weight_units k (items_of (x ∷ [])) in
    omega (arith, c.requires, whole, before, own, sum-split k ns i x c.loop-item-test.true c.item-item.is)

pub loop-item-preserved : goal.loop-item-preserved
loop-item-preserved g t c =
    let ns = c.as_slice-items.result.now in
    let k = c.args.class.now in
    let i = c.loop-item.item-index in
    let x = c.item-item.result in (
      c.together-own.ensures ∙ (λ j. together (c.loop-item.invariant.0 j) (c.in_ok-below-in-Bucket.ensures.own j)) ∙ sym (weight-more k ns i x c.loop-item-test.true c.item-item.is),
      one_more_below _ _ _ _ _ _ _ c.loop-item.invariant.1 c.in_ok-below-in-Bucket.ensures.all (weights-more k ns i x c.loop-item-test.true c.item-item.is),
    )

pub returns-after-loop-item-clause-all : goal.returns-after-loop-item-clause-all
returns-after-loop-item-clause-all g t c =
    let ns = c.as_slice-items.result.now in
    let k = c.args.class.now in
    let old = c.args.weights.now.items in
    let below : List (Option ℕ) = class_weights_in k (items_of ns) in
    let own : c.copy_of.result ≡ class_weight_in k (items_of ns) = c.copy_of.ensures ∙ c.loop-item.invariant.0 ∙ all_taken (class_weight_in k) ns c.loop-item.item-index c.loop-item-test.false in
    let all : c.loop-item.weights.items ≡ old ++ (None ∷ below) = c.loop-item.invariant.1 ∙ ap (λ (l : List (Option ℕ)). old ++ (None ∷ l)) (all_taken (class_weights_in k) ns c.loop-item.item-index c.loop-item-test.false) in
    ap (λ l. set l c.len-place.result c.copy_of.result) all ∙ set_at old None below c.copy_of.result c.len-place.result (omega (arith, c.len-place.ensures)) ∙ ap (λ w. old ++ (w ∷ below)) own
    ∙ ap (λ (l : List (Option ℕ)). old ++ l) (weights_of_bucket k c.args.node.now c.in-Bucket.bucket _ _ c.in-Bucket.is (c.bucket.view_is ∙ c.deref-bucket.ensures) (ap items_of c.as_slice-items.ensures.value))

use Rattle.std.proofs.Common.{◌≡◌, ◌+◌, ◌∷◌, [], true, drop, ap, sym, ◌∙◌, arith}
use Rattle.std.specs.Prelude.{◌&&◌, not}
use Rattle.std.proofs.lemmas.List.{take_rest}
use Rattle.crush_model.specs.Items.{BucketData}
use Rattle.crush_nodes.specs.Apart.{bucket_has_distinct_keys, shares_a_key, have_distinct_keys}
use Rattle.crush_nodes.specs.Seen.{items_of}
use Rattle.crush_nodes.proofs.ApartLaws.{alone_told}
use Rattle.crush_nodes.proofs.NodeLaws.{item_smaller, have_distinct_keys-at, have_distinct_keys-end}
use Rattle.crush_nodes.proofs.apart.+has_distinct_keys.Goals as goal

pub has_distinct_keys-requires : goal.has_distinct_keys-requires
has_distinct_keys-requires g t c κs within =
    let same : items_of c.as_slice-items.result.now ≡ c.in-Bucket.bucket.value.kids = ap items_of c.as_slice-items.ensures.value ∙ ap (λ (d : BucketData). d.kids) (c.bucket.view_is ∙ c.deref-bucket.ensures) in
    (omega (arith, item_smaller c.as_slice-items.result.now c.loop-i.i c.index-items-i.result c.args.node.now c.in-Bucket.bucket c.loop-i-test.true c.index-items-i.is c.in-Bucket.is same, c.decreases), within)

pub loop-i-preserved : goal.loop-i-preserved
loop-i-preserved g t c =
    let ns = c.as_slice-items.result.now in
    let i = c.loop-i.i in
    let x = c.index-items-i.result in
    let rest = items_of (drop (i + 1) ns) in
    let shared = c.if-node_shares_a_key.ensures ∙ ap (λ zs. shares_a_key (items_of (x ∷ [])) (items_of zs)) (take_rest ns (i + 1)) in
    c.loop-i.invariant ∙ have_distinct_keys-at ns i x c.loop-i-test.true c.index-items-i.is ∙ (λ j. not (sym shared j) && (sym c.if-not-has_distinct_keys.ensures j && have_distinct_keys rest))

pub returns-then-node_shares_a_key : goal.returns-then-node_shares_a_key
returns-then-node_shares_a_key g t c =
    let ns = c.as_slice-items.result.now in
    let i = c.loop-i.i in
    let x = c.index-items-i.result in
    let rest = items_of (drop (i + 1) ns) in
    let shared = c.if-node_shares_a_key.ensures ∙ ap (λ zs. shares_a_key (items_of (x ∷ [])) (items_of zs)) (take_rest ns (i + 1)) in
    let v = c.in-Bucket.bucket.value in
    let seen : _ ≡ v = c.bucket.view_is ∙ c.deref-bucket.ensures in
    let same : items_of ns ≡ v.kids = ap items_of c.as_slice-items.ensures.value ∙ ap (λ (d : BucketData). d.kids) seen in
    let own : bucket_has_distinct_keys v.header v.kids ≡ true = sym (c.if-not-bucket_has_distinct_keys.ensures ∙ ap (λ (d : BucketData). bucket_has_distinct_keys d.header d.kids) c.deref-bucket.ensures) in
    let whole : have_distinct_keys (items_of (c.args.node.now ∷ [])) ≡ have_distinct_keys (items_of ns) = ap (λ z. have_distinct_keys (items_of (z ∷ []))) c.in-Bucket.is ∙ sym (alone_told v.header v.weight v.capacity v.kids own) ∙ ap have_distinct_keys (sym same) in
    sym (whole ∙ c.loop-i.invariant ∙ have_distinct_keys-at ns i x c.loop-i-test.true c.index-items-i.is ∙ (λ j. not (sym shared j) && (have_distinct_keys (items_of (x ∷ [])) && have_distinct_keys rest)))

pub returns-then-not-has_distinct_keys : goal.returns-then-not-has_distinct_keys
returns-then-not-has_distinct_keys g t c =
    let ns = c.as_slice-items.result.now in
    let i = c.loop-i.i in
    let x = c.index-items-i.result in
    let rest = items_of (drop (i + 1) ns) in
    let shared = c.if-node_shares_a_key.ensures ∙ ap (λ zs. shares_a_key (items_of (x ∷ [])) (items_of zs)) (take_rest ns (i + 1)) in
    let v = c.in-Bucket.bucket.value in
    let seen : _ ≡ v = c.bucket.view_is ∙ c.deref-bucket.ensures in
    let same : items_of ns ≡ v.kids = ap items_of c.as_slice-items.ensures.value ∙ ap (λ (d : BucketData). d.kids) seen in
    let own : bucket_has_distinct_keys v.header v.kids ≡ true = sym (c.if-not-bucket_has_distinct_keys.ensures ∙ ap (λ (d : BucketData). bucket_has_distinct_keys d.header d.kids) c.deref-bucket.ensures) in
    let whole : have_distinct_keys (items_of (c.args.node.now ∷ [])) ≡ have_distinct_keys (items_of ns) = ap (λ z. have_distinct_keys (items_of (z ∷ []))) c.in-Bucket.is ∙ sym (alone_told v.header v.weight v.capacity v.kids own) ∙ ap have_distinct_keys (sym same) in
    sym (whole ∙ c.loop-i.invariant ∙ have_distinct_keys-at ns i x c.loop-i-test.true c.index-items-i.is ∙ (λ j. not (sym shared j) && (sym c.if-not-has_distinct_keys.ensures j && have_distinct_keys rest)))

pub returns-after-loop-i : goal.returns-after-loop-i
returns-after-loop-i g t c =
    let ns = c.as_slice-items.result.now in
    let v = c.in-Bucket.bucket.value in
    let seen : _ ≡ v = c.bucket.view_is ∙ c.deref-bucket.ensures in
    let same : items_of ns ≡ v.kids = ap items_of c.as_slice-items.ensures.value ∙ ap (λ (d : BucketData). d.kids) seen in
    let own : bucket_has_distinct_keys v.header v.kids ≡ true = sym (c.if-not-bucket_has_distinct_keys.ensures ∙ ap (λ (d : BucketData). bucket_has_distinct_keys d.header d.kids) c.deref-bucket.ensures) in
    let whole : have_distinct_keys (items_of (c.args.node.now ∷ [])) ≡ have_distinct_keys (items_of ns) = ap (λ z. have_distinct_keys (items_of (z ∷ []))) c.in-Bucket.is ∙ sym (alone_told v.header v.weight v.capacity v.kids own) ∙ ap have_distinct_keys (sym same) in
    sym (whole ∙ c.loop-i.invariant ∙ have_distinct_keys-end ns c.loop-i.i c.loop-i-test.false)

use Rattle.std.proofs.Common.{◌≡◌, ◌+◌, ◌∷◌, [], true, false, drop, ap, sym, ◌∙◌, arith}
use Rattle.std.specs.Prelude.{◌||◌}
use Rattle.crush_model.specs.Items.{BucketData}
use Rattle.crush_nodes.specs.Seen.{items_of}
use Rattle.crush_nodes.specs.Apart.{header_shares_a_key, shares_a_key}
use Rattle.crush_nodes.proofs.NodeLaws.{item_smaller, shares_a_key-at}
use Rattle.crush_nodes.proofs.Ends.{none_left}
use Rattle.crush_nodes.proofs.apart.+node_shares_a_key.Goals as goal

pub node_shares_a_key-requires : goal.node_shares_a_key-requires
node_shares_a_key-requires g t c κs within =
    let same : items_of c.as_slice-items.result.now ≡ c.in-Bucket.bucket.value.kids = ap items_of c.as_slice-items.ensures.value ∙ ap (λ (d : BucketData). d.kids) (c.bucket.view_is ∙ c.deref-bucket.ensures) in
    (omega (arith, item_smaller c.as_slice-items.result.now c.loop-item.item-index c.item-item.result c.args.node.now c.in-Bucket.bucket c.loop-item-test.true c.item-item.is c.in-Bucket.is same, c.decreases), within)

pub loop-item-preserved : goal.loop-item-preserved
loop-item-preserved g t c =
    let ns = c.as_slice-items.result.now in
    let i = c.loop-item.item-index in
    let x = c.item-item.result in
    let o = items_of c.args.others.now in
    c.loop-item.invariant ∙ shares_a_key-at ns i x o c.loop-item-test.true c.item-item.is ∙ ap (λ z. z || shares_a_key (items_of (drop (i + 1) ns)) o) (sym c.if-node_shares_a_key.ensures)

pub returns-then-node_shares_a_key : goal.returns-then-node_shares_a_key
returns-then-node_shares_a_key g t c =
    let ns = c.as_slice-items.result.now in
    let i = c.loop-item.item-index in
    let x = c.item-item.result in
    let v = c.in-Bucket.bucket.value in
    let seen : _ ≡ v = c.bucket.view_is ∙ c.deref-bucket.ensures in
    let same : items_of ns ≡ v.kids = ap items_of c.as_slice-items.ensures.value ∙ ap (λ (d : BucketData). d.kids) seen in
    let o = items_of c.args.others.now in
    let head : header_shares_a_key v.header o ≡ false = sym (ap (λ (d : BucketData). header_shares_a_key d.header o) seen) ∙ sym c.if-header_shares_a_key.ensures in
    let below : shares_a_key v.kids o ≡ true = ap (λ z. shares_a_key z o) (sym same) ∙ c.loop-item.invariant ∙ shares_a_key-at ns i x o c.loop-item-test.true c.item-item.is ∙ ap (λ z. z || shares_a_key (items_of (drop (i + 1) ns)) o) (sym c.if-node_shares_a_key.ensures) in
    sym (ap (λ z. shares_a_key (items_of (z ∷ [])) o) c.in-Bucket.is ∙ (λ j. head j || (below j || false)))

pub returns-after-loop-item : goal.returns-after-loop-item
returns-after-loop-item g t c =
    let ns = c.as_slice-items.result.now in
    let v = c.in-Bucket.bucket.value in
    let seen : _ ≡ v = c.bucket.view_is ∙ c.deref-bucket.ensures in
    let same : items_of ns ≡ v.kids = ap items_of c.as_slice-items.ensures.value ∙ ap (λ (d : BucketData). d.kids) seen in
    let o = items_of c.args.others.now in
    let head : header_shares_a_key v.header o ≡ false = sym (ap (λ (d : BucketData). header_shares_a_key d.header o) seen) ∙ sym c.if-header_shares_a_key.ensures in
    let below : shares_a_key v.kids o ≡ false = ap (λ z. shares_a_key z o) (sym same) ∙ c.loop-item.invariant ∙ none_left (λ z. shares_a_key z o) ns c.loop-item.item-index c.loop-item-test.false in
    sym (ap (λ z. shares_a_key (items_of (z ∷ [])) o) c.in-Bucket.is ∙ (λ j. head j || (below j || false)))

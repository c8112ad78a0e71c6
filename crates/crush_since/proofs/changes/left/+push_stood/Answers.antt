use Rattle.std.proofs.Common.{◌≡◌, ◌∙◌, ◌+◌, false, List, [], ◌∷◌, ◌++◌, arith, ap, sym, map}
use Rattle.crush_model.specs.Items.{BucketData, size_of}
use Rattle.crush_model.specs.Table.{is_there}
use Rattle.crush_units.specs.declared.id.ItemId.TheVariants.{Bucket as BucketItem}
use Rattle.crush_nodes.specs.Seen.{items_of, node_id}
use Rattle.crush_nodes.proofs.Ends.{all_taken}
use Rattle.crush_print.proofs.ItemLines.{item_no_larger}
use Rattle.crush_since.specs.ChangeItems.{stood_of}
use Rattle.crush_since.specs.Changes.{ChangeData, change_at}
use Rattle.crush_since.specs.SeenChange.{row_change}
use Rattle.crush_since.proofs.StoodLaws.{stood-more, bucket_gone, bucket_elsewhere, device_stood}
use Rattle.crush_print.proofs.WalkLaws.{one_more_below}
use Rattle.crush_since.proofs.changes.left.+push_stood.Goals as goal

pub loop-item-init : goal.loop-item-init
loop-item-init g t c = λ old new tables.
    c.in_ok-push_row.ensures old new tables ∙ ap (λ i. map (row_change c.args.both.now.maps) c.args.rows.now.items ++ change_at old new false c.args.depth i ∷ []) c.id.ensures

pub returns-in-Device : goal.returns-in-Device
returns-in-Device g t c = λ old new tables.
    let node = c.args.node.now in
    let rows : List ChangeData = map (row_change c.args.both.now.maps) c.args.rows.now.items in
    c.in_ok-push_row.ensures old new tables ∙ ap (λ i. rows ++ change_at old new false c.args.depth i ∷ []) c.id.ensures
    ∙ ap (λ (l : List ChangeData). rows ++ l) (device_stood old new c.args.depth node _ c.in-Device.is)

pub returns-then-is_there : goal.returns-then-is_there
returns-then-is_there g t c = λ old new tables.
    let node = c.args.node.now in
    let rows : List ChangeData = map (row_change c.args.both.now.maps) c.args.rows.now.items in
    let is = c.bucket.view_is ∙ c.deref-bucket.ensures in
    let there = ap (λ (e : BucketData). is_there new (BucketItem e.header.id)) (sym is) ∙ sym (c.is_there.ensures old new tables) ∙ c.if-is_there.true in
    c.in_ok-push_row.ensures old new tables ∙ ap (λ i. rows ++ change_at old new false c.args.depth i ∷ []) c.id.ensures
    ∙ ap (λ (l : List ChangeData). rows ++ l) (bucket_elsewhere old new c.args.depth node c.in-Bucket.bucket c.in-Bucket.is there)

pub overflow_add-depth : goal.overflow_add-depth
overflow_add-depth g t c = omega (arith, c.requires, ap (λ x. size_of (items_of (x ∷ []))) c.in-Bucket.is)

pub push_stood-requires : goal.push_stood-requires
push_stood-requires g t c κs within =
    let smaller = item_no_larger c.as_slice-items.result.now c.loop-item.item-index c.item-item.result c.loop-item-test.true c.item-item.is in
    let same : items_of c.as_slice-items.result.now ≡ c.in-Bucket.bucket.value.kids = ap items_of c.as_slice-items.ensures.value ∙ ap (λ (d : BucketData). d.kids) (c.bucket.view_is ∙ c.deref-bucket.ensures) in
    let node = ap (λ x. size_of (items_of (x ∷ []))) c.in-Bucket.is in
    (omega (arith, smaller, ap size_of same, node, c.decreases), (within.0, (within.1, omega (arith, smaller, ap size_of same, node, c.requires))))

pub loop-item-preserved : goal.loop-item-preserved
loop-item-preserved g t c = λ old new tables.
    one_more_below _ _ _ _ _ _ _ (c.loop-item.invariant old new tables) (c.in_ok-push_stood-in-Bucket.ensures old new tables)
    (stood-more old new (c.args.depth + 1) c.as_slice-items.result.now c.loop-item.item-index c.item-item.result c.loop-item-test.true c.item-item.is)

pub offset_bounds-items-item-index : goal.offset_bounds-items-item-index
offset_bounds-items-item-index g t c = omega (arith, c.loop-item-test.true)

pub loop-item-smaller : goal.loop-item-smaller
loop-item-smaller g t c = omega (arith, c.loop-item-test.true)

pub returns-after-loop-item : goal.returns-after-loop-item
returns-after-loop-item g t c = λ old new tables.
    let node = c.args.node.now in
    let rows : List ChangeData = map (row_change c.args.both.now.maps) c.args.rows.now.items in
    let own : ChangeData = change_at old new false c.args.depth (node_id node) in
    let is = c.bucket.view_is ∙ c.deref-bucket.ensures in
    let front = all_taken (stood_of old new (c.args.depth + 1)) c.as_slice-items.result.now c.loop-item.item-index c.loop-item-test.false in
    let gone = ap (λ (e : BucketData). is_there new (BucketItem e.header.id)) (sym is) ∙ sym (c.is_there.ensures old new tables) ∙ c.if-is_there.false in
    c.loop-item.invariant old new tables ∙ ap (λ (l : List ChangeData). rows ++ (own ∷ l)) front
    ∙ ap (λ (l : List ChangeData). rows ++ l) (bucket_gone old new c.args.depth node c.in-Bucket.bucket _ c.in-Bucket.is (ap items_of c.as_slice-items.ensures.value ∙ ap (λ (d : BucketData). d.kids) is) gone)

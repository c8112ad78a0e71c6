use Rattle.std.proofs.Common.{◌≡◌, ◌∙◌, ◌+◌, true, List, [], ◌∷◌, ◌++◌, arith, ap, map, refl}
use Rattle.std.specs.Prelude.{Some}
use Rattle.std.proofs.lemmas.List.{length-map}
use Rattle.crush_model.specs.Items.{BucketData, size_of}
use Rattle.crush_model.specs.Table.{kids}
use Rattle.crush_nodes.specs.Seen.{items_of, node_id}
use Rattle.crush_nodes.proofs.Ends.{all_taken}
use Rattle.crush_print.proofs.ItemLines.{item_no_larger}
use Rattle.crush_since.specs.ChangeItems.{stands_of}
use Rattle.crush_since.specs.Changes.{ChangeData, change_at, is_listed, left_from, with_below}
use Rattle.crush_since.specs.SeenChange.{row_change}
use Rattle.crush_since.specs.Since.{plain_map}
use Rattle.crush_since.proofs.StandsLaws.{stands-more, device_stands, bucket_stands}
use Rattle.crush_print.proofs.WalkLaws.{one_more, one_more_below}
use Rattle.crush_since.proofs.changes.rows.+push_standing.Goals as goal

pub loop-item-init : goal.loop-item-init
loop-item-init g t c = λ old new tables.
    c.in_ok-is_listed.ensures.row old new tables ∙ ap (λ i. map (row_change c.args.both.now.maps) c.args.rows.now.items ++ change_at old new true c.args.depth i ∷ []) c.id.ensures

pub overflow_add-depth : goal.overflow_add-depth
overflow_add-depth g t c = omega (arith, c.requires, ap (λ x. size_of (items_of (x ∷ []))) c.in-Bucket.is)

pub overflow_add-depth-in-Bucket : goal.overflow_add-depth-in-Bucket
overflow_add-depth-in-Bucket g t c = omega (arith, c.requires, ap (λ x. size_of (items_of (x ∷ []))) c.in-Bucket.is)

pub push_left-requires : goal.push_left-requires
push_left-requires g t c = omega (arith, c.requires, ap (λ x. size_of (items_of (x ∷ []))) c.in-Bucket.is)

pub push_standing-requires : goal.push_standing-requires
push_standing-requires g t c κs within =
    let smaller = item_no_larger c.as_slice-items.result.now c.loop-item.item-index c.item-item.result c.loop-item-test.true c.item-item.is in
    let same : items_of c.as_slice-items.result.now ≡ c.in-Bucket.bucket.value.kids = ap items_of c.as_slice-items.ensures.value ∙ ap (λ (d : BucketData). d.kids) (c.bucket.view_is ∙ c.deref-bucket.ensures) in
    let node = ap (λ x. size_of (items_of (x ∷ []))) c.in-Bucket.is in
    (omega (arith, smaller, ap size_of same, node, c.decreases), (within.0, (within.1, omega (arith, smaller, ap size_of same, node, c.requires))))

pub loop-item-preserved : goal.loop-item-preserved
loop-item-preserved g t c = λ old new tables.
    one_more_below _ _ _ _ _ _ _ (c.loop-item.invariant old new tables) (c.in_ok-push_standing-in-Bucket.ensures old new tables)
    (stands-more (plain_map c.args.both.now.maps.old.map.now.setting old) (plain_map c.args.both.now.maps.new.map.now.setting new) (c.args.depth + 1) c.as_slice-items.result.now c.loop-item.item-index c.item-item.result c.loop-item-test.true c.item-item.is)

pub offset_bounds-items-item-index : goal.offset_bounds-items-item-index
offset_bounds-items-item-index g t c = omega (arith, c.loop-item-test.true)

pub loop-item-smaller : goal.loop-item-smaller
loop-item-smaller g t c = omega (arith, c.loop-item-test.true)

pub returns-in-Device : goal.returns-in-Device
returns-in-Device g t c = λ old new tables.
    let before = plain_map c.args.both.now.maps.old.map.now.setting old in
    let after = plain_map c.args.both.now.maps.new.map.now.setting new in
    let node = c.args.node.now in
    let rows : List ChangeData = map (row_change c.args.both.now.maps) c.args.rows.now.items in
    let own : ChangeData = change_at old new true c.args.depth (node_id node) in
    let pushed = c.in_ok-is_listed.ensures.row old new tables ∙ ap (λ i. rows ++ change_at old new true c.args.depth i ∷ []) c.id.ensures in
    let is = c.in_ok-is_listed.ensures.told old new tables ∙ ap (is_listed before after) c.id.ensures in
    c.settle.ensures (row_change c.args.both.now.maps) rows [] own (omega (arith, length-map c.args.rows.now.items (row_change c.args.both.now.maps), c.len-at.ensures)) pushed
    ∙ ap (λ (l : List ChangeData). rows ++ l) ((λ k. with_below (is k) own []) ∙ device_stands before after c.args.depth node c.in-Device.field-0 c.in-Device.is)

pub returns-in_ok-push_left-in-Bucket : goal.returns-in_ok-push_left-in-Bucket
returns-in_ok-push_left-in-Bucket g t c = λ old new tables.
    let before = plain_map c.args.both.now.maps.old.map.now.setting old in
    let after = plain_map c.args.both.now.maps.new.map.now.setting new in
    let node = c.args.node.now in
    let rows : List ChangeData = map (row_change c.args.both.now.maps) c.args.rows.now.items in
    let own : ChangeData = change_at old new true c.args.depth (node_id node) in
    let is = c.in_ok-is_listed.ensures.told old new tables ∙ ap (is_listed before after) c.id.ensures in
    let items = c.as_slice-items.result.now in
    let standing : List ChangeData = stands_of before after (c.args.depth + 1) (items_of items) in
    let at = c.bucket.view_is ∙ c.deref-bucket.ensures in
    let front = all_taken (stands_of before after (c.args.depth + 1)) items c.loop-item.item-index c.loop-item-test.false in
    let below = one_more _ _ _ _ _ _ (c.loop-item.invariant old new tables ∙ ap (λ (l : List ChangeData). rows ++ (own ∷ l)) front) (c.in_ok-push_left-in-Bucket.ensures old new tables) refl in
    c.settle-in-Bucket.ensures (row_change c.args.both.now.maps) rows _ own (omega (arith, length-map c.args.rows.now.items (row_change c.args.both.now.maps), c.len-at.ensures)) below
    ∙ ap (λ (l : List ChangeData). rows ++ l)
    ((λ k. with_below (is k) own (standing ++ left_from old new (c.args.depth + 1) (Some c.bucket.inside.header.id) (kids old c.bucket.inside.header.id)))
    ∙ ap (λ (e : BucketData). with_below (is_listed before after (node_id node)) own (standing ++ left_from old new (c.args.depth + 1) (Some e.header.id) (kids old e.header.id))) at
    ∙ bucket_stands before after c.args.depth node c.in-Bucket.bucket (items_of items) c.in-Bucket.is (ap items_of c.as_slice-items.ensures.value ∙ ap (λ (d : BucketData). d.kids) at))

use Rattle.std.proofs.Common.{◌≡◌, arith, ap, ◌∙◌, map}
use Rattle.std.proofs.lemmas.List.{map_push}
use Rattle.crush_model.specs.Items.{BucketData, size_of}
use Rattle.crush_nodes.specs.Seen.{items_of, leaf_data}
use Rattle.crush_nodes.proofs.Steps.{kids_smaller}
use Rattle.crush_print.proofs.ItemLines.{found_device, found_below}
use Rattle.crush_json.proofs.items.+find_devices.Goals as goal
use Rattle.crush_json.proofs.items.+find_devices.Goals.{in-Device+in_ok-push-in-Device, in-Bucket+in_ok-find_devices-in-Bucket}

pub find_devices-requires : goal.find_devices-requires
find_devices-requires g t c κs within =
    let smaller = kids_smaller c.args.nodes.now c.loop-node.node-index c.node-item.result c.in-Bucket.bucket c.loop-node-test.true c.node-item.is c.in-Bucket.is in
    let same : items_of c.as_slice.result.now ≡ c.in-Bucket.bucket.value.kids = ap items_of c.as_slice.ensures.value ∙ ap (λ (d : BucketData). d.kids) (c.bucket.view_is ∙ c.deref-bucket.ensures) in
    (omega (arith, smaller, ap size_of same, c.decreases), within)

pub loop-node-preserved : goal.loop-node-preserved
loop-node-preserved g t c =
    let ns = c.args.nodes.now in
    let i = c.loop-node.node-index in
    let x = c.node-item.result in
    elim c.match-node.branch [
      | in-Device+in_ok-push-in-Device w ↦
          ap (λ v. map (λ r. leaf_data r.now) v.items) w.found-is ∙ found_device ns i x w.in-Device.leaf _ _ _ c.loop-node-test.true c.node-item.is w.in-Device.is c.loop-node.invariant
          (ap (map (λ r. leaf_data r.now)) w.in_ok-push-in-Device.ensures.items ∙ map_push (λ r. leaf_data r.now) c.loop-node.found.items _)
      | in-Bucket+in_ok-find_devices-in-Bucket w ↦
          ap (λ v. map (λ r. leaf_data r.now) v.items) w.found-is ∙ found_below ns i x w.in-Bucket.bucket _ (items_of w.as_slice.result.now) _ _ _ c.loop-node-test.true c.node-item.is w.in-Bucket.is (w.bucket.view_is ∙ w.deref-bucket.ensures)
          (ap items_of w.as_slice.ensures.value) c.loop-node.invariant w.in_ok-find_devices-in-Bucket.ensures
    ]

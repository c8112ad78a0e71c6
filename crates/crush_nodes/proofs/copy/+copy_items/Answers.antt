use Rattle.std.proofs.Common.{◌≡◌, ◌+◌, ◌∷◌, [], ap, sym, subst, refl, ◌∙◌, arith}
use Rattle.std.specs.Prelude.{vec_len, vec_capacity}
use Rattle.crush_model.specs.Items.{BucketData, size_of, none, device, bucket}
use Rattle.crush_nodes.specs.Copies.{IsPushed}
use Rattle.crush_nodes.specs.Ops.{without_capacity}
use Rattle.crush_nodes.specs.Seen.{leaf_data, items_of}
use Rattle.crush_nodes.proofs.CopyLaws.{Copied, copied_same, copied_full, bucket_room-full}
use Rattle.crush_nodes.proofs.Steps.{kids_smaller, count-items_of}
use Rattle.crush_nodes.proofs.Ends.{all_taken}
use Rattle.crush_nodes.proofs.copy.+copy_items.Goals as goal
use Rattle.crush_nodes.proofs.copy.+copy_items.Goals.{in-Device+in_ok-push_leaf-in-Device, in-Bucket+in_ok-below-in-Bucket+in_ok-push_bucket-in-Bucket}

pub copy_items-requires : goal.copy_items-requires
copy_items-requires g t c κs within =
    let smaller = kids_smaller c.args.items.now c.loop-node.node-index c.node-item.result c.in-Bucket.bucket c.loop-node-test.true c.node-item.is c.in-Bucket.is in
    let same : items_of c.as_slice.result.now ≡ c.in-Bucket.bucket.value.kids = ap items_of c.as_slice.ensures.value ∙ ap (λ (d : BucketData). d.kids) (c.bucket.view_is ∙ c.deref-bucket.ensures) in
    (omega (arith, smaller, ap size_of same, c.decreases), within)

pub loop-node-preserved : goal.loop-node-preserved
loop-node-preserved g t c =
    let x = c.node-item.result in
    let old = c.loop-node.copies in
    let new = c.match-node.copies in
    let copy : Copied old.items new.items x = elim c.match-node.branch [
      | in-Device+in_ok-push_leaf-in-Device w ↦ record {
        seen = device (leaf_data w.in-Device.leaf) none;
        pushed = subst (λ z. IsPushed old.items z.items (device (leaf_data w.in-Device.leaf) none)) (sym w.copies-is) w.in_ok-push_leaf-in-Device.ensures.pushed;
        same = sym (ap (λ z. without_capacity (items_of (z ∷ []))) w.in-Device.is);
        full = λ b. refl;
      }
      | in-Bucket+in_ok-below-in-Bucket+in_ok-push_bucket-in-Bucket w ↦
          let below = w.in_ok-below-in-Bucket.below in
          let v = w.in-Bucket.bucket.value in
          let from : BucketData = w.deref-bucket.result.now in
          let is : from ≡ v = w.deref-bucket.ensures in
          let seen : _ ≡ v = w.bucket.view_is ∙ is in
          let kids : without_capacity (items_of below.items) ≡ without_capacity v.kids = w.in_ok-below-in-Bucket.ensures.same ∙ ap (λ z. without_capacity (items_of z)) w.as_slice.ensures.value ∙ ap (λ (d : BucketData). without_capacity d.kids) seen in
          record {
            seen = bucket from.header from.weight (vec_capacity below) (items_of below.items) none;
            pushed = subst (λ z. IsPushed old.items z.items (bucket from.header from.weight (vec_capacity below) (items_of below.items) none)) (sym w.copies-is) w.in_ok-push_bucket-in-Bucket.ensures.pushed;
            same = (λ j. bucket ((is j).header) ((is j).weight) 0 (kids j) none) ∙ sym (ap (λ z. without_capacity (items_of (z ∷ []))) w.in-Bucket.is);
            full = λ b. bucket_room-full b from.header from.weight (vec_capacity below) (items_of below.items) w.in_ok-below-in-Bucket.ensures.full (w.in_ok-below-in-Bucket.ensures.rooms b);
          }
    ] in
    let len : vec_len new ≡ vec_len old + 1 = elim c.match-node.branch [
      | in-Device+in_ok-push_leaf-in-Device w ↦ ap vec_len w.copies-is ∙ w.in_ok-push_leaf-in-Device.ensures.len
      | in-Bucket+in_ok-below-in-Bucket+in_ok-push_bucket-in-Bucket w ↦ ap vec_len w.copies-is ∙ w.in_ok-push_bucket-in-Bucket.ensures.len
    ] in
    let capacity : vec_capacity new ≡ vec_capacity old = elim c.match-node.branch [
      | in-Device+in_ok-push_leaf-in-Device w ↦ ap vec_capacity w.copies-is ∙ w.in_ok-push_leaf-in-Device.ensures.capacity
      | in-Bucket+in_ok-below-in-Bucket+in_ok-push_bucket-in-Bucket w ↦ ap vec_capacity w.copies-is ∙ w.in_ok-push_bucket-in-Bucket.ensures.capacity
    ] in
    record {
      room = omega (arith, capacity, c.loop-node.invariant.room);
      count = omega (arith, len, c.loop-node.invariant.count);
      same = copied_same old.items new.items c.args.items.now c.loop-node.node-index x copy c.loop-node-test.true c.node-item.is c.loop-node.invariant.same;
      rooms = λ b. copied_full old.items new.items x copy b (c.loop-node.invariant.rooms b);
    }

pub returns : goal.returns
returns g t c =
    let copies = c.loop-node.copies in
    record {
      same = c.loop-node.invariant.same ∙ all_taken without_capacity c.args.items.now c.loop-node.node-index c.loop-node-test.false;
      full = omega (arith, c.loop-node.invariant.room, c.loop-node.invariant.count, c.loop-node-test.false, count-items_of copies.items, copies.ok.0, copies.ok.1);
      rooms = c.loop-node.invariant.rooms;
    }

use Rattle.std.proofs.Common.{◌≡◌, ◌++◌, ◌∷◌, [], ap, sym, ◌∙◌, arith, take, append-nil, append_assoc}
use Rattle.crush_model.specs.Items.{BucketData, size_of}
use Rattle.crush_nodes.specs.Seen.{items_of}
use Rattle.crush_nodes.proofs.Ends.{all_taken}
use Rattle.crush_nodes.proofs.Steps.{kids_smaller, items_of-taken}
use Rattle.crush_walks.specs.Runs.{weights_in, weights_of}
use Rattle.crush_walks.proofs.RunLaws.{weights_in-join}
use Rattle.crush_walks.proofs.runs.+push_weights.Goals as goal
use Rattle.crush_walks.proofs.runs.+push_weights.Goals.{in-Device+in_ok-push_weight-in-Device, in-Bucket+in_ok-push_weights-in-Bucket}

pub push_weights-requires : goal.push_weights-requires
push_weights-requires g t c κs within =
    let smaller = kids_smaller c.args.items.now c.loop-node.node-index c.node-item.result c.in-Bucket.bucket c.loop-node-test.true c.node-item.is c.in-Bucket.is in
    let same : items_of c.as_slice.result.now ≡ c.in-Bucket.bucket.value.kids = ap items_of c.as_slice.ensures.value ∙ ap (λ (d : BucketData). d.kids) (c.bucket.view_is ∙ c.deref-bucket.ensures) in
    (omega (arith, smaller, ap size_of same, c.decreases), within)

pub loop-node-preserved : goal.loop-node-preserved
loop-node-preserved g t c =
    let ns = c.args.items.now in
    let k = c.loop-node.node-index in
    let x = c.node-item.result in
    let one : weights_of c.match-node.runs.items ≡ weights_of c.loop-node.runs.items ++ weights_in (items_of (x ∷ [])) = elim c.match-node.branch [
      | in-Device+in_ok-push_weight-in-Device w ↦
          ap (λ z. weights_of z.items) w.runs-is ∙ w.in_ok-push_weight-in-Device.ensures ∙ ap (λ z. weights_of c.loop-node.runs.items ++ weights_in (items_of (z ∷ []))) (sym w.in-Device.is)
      | in-Bucket+in_ok-push_weights-in-Bucket w ↦
          let same : items_of w.as_slice.result.now ≡ w.in-Bucket.bucket.value.kids = ap items_of w.as_slice.ensures.value ∙ ap (λ (d : BucketData). d.kids) (w.bucket.view_is ∙ w.deref-bucket.ensures) in
          ap (λ z. weights_of z.items) w.runs-is ∙ w.in_ok-push_weights-in-Bucket.ensures ∙ ap (λ z. weights_of c.loop-node.runs.items ++ z) (ap weights_in same ∙ sym (append-nil (weights_in w.in-Bucket.bucket.value.kids)))
          ∙ ap (λ z. weights_of c.loop-node.runs.items ++ weights_in (items_of (z ∷ []))) (sym w.in-Bucket.is)
    ] in
    one ∙ ap (λ z. z ++ weights_in (items_of (x ∷ []))) c.loop-node.invariant ∙ append_assoc (weights_of c.args.runs.now.items) (weights_in (items_of (take k ns))) (weights_in (items_of (x ∷ [])))
    ∙ ap (λ z. weights_of c.args.runs.now.items ++ z) (sym (ap weights_in (items_of-taken ns k x c.loop-node-test.true c.node-item.is) ∙ weights_in-join (items_of (take k ns)) (items_of (x ∷ []))))

pub returns : goal.returns
returns g t c = c.loop-node.invariant ∙ all_taken (λ z. weights_of c.args.runs.now.items ++ weights_in z) c.args.items.now c.loop-node.node-index c.loop-node-test.false

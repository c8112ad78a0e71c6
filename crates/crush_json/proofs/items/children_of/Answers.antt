use Rattle.std.proofs.Common.{rules, ap, ◌∙◌}
use Rattle.std.proofs.lemmas.List.Sorted.{answers_always}
use Rattle.crush_model.specs.Items.{BucketData}
use Rattle.crush_nodes.specs.Seen.{items_of}
use Rattle.crush_json.proofs.BucketLaws.{found_items, found_none}
use Rattle.crush_json.proofs.items.children_of.Goals as goal

pub returns-in-Ok : goal.returns-in-Ok
returns-in-Ok g c = λ t are.
    let by_key = c.in-Ok.ensures.position (λ b. b.now.header.id) (answers_always _ _ _ (λ f a r q called. search rules)) in
    found_items (λ b. b.now) t c.args.buckets.now c.args.id c.distance-distance.result c.in-Ok.place c.index-buckets-place.result c.as_slice.result.now are c.distance-distance.ensures.value c.in-Ok.ensures.bound c.index-buckets-place.is by_key
    (ap items_of c.as_slice.ensures.value ∙ ap (λ (d : BucketData). d.kids) c.bucket.view_is)

pub returns-in-Err : goal.returns-in-Err
returns-in-Err g c = λ t are.
    let by_key = c.in-Err.ensures.position (λ b. b.now.header.id) (answers_always _ _ _ (λ f a r q called. search rules)) in
    found_none (λ b. b.now) t c.args.buckets.now c.args.id c.distance-distance.result c.in-Err.field-0 are c.distance-distance.ensures.value by_key

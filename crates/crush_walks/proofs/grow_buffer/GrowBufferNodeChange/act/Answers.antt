use Rattle.std.proofs.Common.{◌∷◌, [], subst, sym, ◌∙◌, vec_capacity}
use Rattle.crush_model.specs.Items.{none, bucket}
use Rattle.crush_nodes.specs.Seen.{header_data, items_of}
use Rattle.crush_walks.specs.Grown.{IsGrownBucket}
use Rattle.crush_walks.proofs.GrowBufferLaws.{bucket_grown}
use Rattle.crush_walks.proofs.grow_buffer.GrowBufferNodeChange.act.Goals as goal

pub returns-clause-does : goal.returns-clause-does
returns-clause-does g c =
    let old = c.bucket.inside in
    let new = c.grow_buffer_of.new.items in
    let after = bucket (header_data old.header) old.weight (vec_capacity new) (items_of new.items) none in
    subst (λ x. IsGrownBucket (items_of (x ∷ [])) after c.grow_buffer_of.result) (sym c.in-Bucket.is)
    (bucket_grown (header_data old.header) old.weight c.in-Bucket.bucket.value old.items new c.grow_buffer_of.result (c.bucket.view_is ∙ c.deref_mut-bucket.ensures.value) c.grow_buffer_of.ensures)

use Rattle.std.proofs.Common.{◌≡◌, ◌≤◌, ◌∷◌, [], subst, sym, ap, ◌∙◌, arith, vec_capacity, ℕ, Vec}
use Rattle.crush_model.specs.Items.{BucketData, Items, none, bucket}
use Rattle.crush_nodes.specs.Room.{count}
use Rattle.crush_nodes.proofs.Steps.{count-items_of}
use Rattle.crush_nodes.specs.Seen.{header_data, items_of}
use Rattle.crush_nodes.specs.declared.node.Node.{Node}
use Rattle.crush_walks.specs.BufferReplaced.{HoldsUpTo, HasBufferReplaced, with_own_capacity}
use Rattle.crush_walks.proofs.replace_buffer.ReplaceBufferNodeChange.act.Goals as goal

-- the vector has memory for the items of the bucket
holds : (m n : ℕ) (d e : BucketData) → d ≡ e → HoldsUpTo m (bucket e.header e.weight e.capacity e.kids none) → count d.kids ≡ n → n ≤ m
holds m n d e same le counted = omega (arith, le, ap (λ (z : BucketData). count z.kids) same, counted)

pub replace_buffer_of-requires : goal.replace_buffer_of-requires
replace_buffer_of-requires g c =
    let items = c.bucket.inside.items in
    let counted = count-items_of items.items ∙ sym items.ok.0 in
    let fits = subst (λ x. HoldsUpTo (vec_capacity c.args.self.items) (items_of (x ∷ []))) c.in-Bucket.is c.requires.1 in
    record {
      empty = c.requires.0;
      enough = holds (vec_capacity c.args.self.items) _ _ c.in-Bucket.bucket.value (c.bucket.view_is ∙ c.deref_mut-bucket.ensures.value) fits counted;
    }

-- the bucket after the change
became : (m n : ℕ) (kids : Items) (d e : BucketData) → d ≡ e → n ≡ m → kids ≡ d.kids → bucket d.header d.weight n kids none ≡ with_own_capacity m (bucket e.header e.weight e.capacity e.kids none)
became m n kids d e same memory kept = λ j. bucket ((same j).header) ((same j).weight) (memory j) ((kept ∙ ap (λ (z : BucketData). z.kids) same) j) none

-- the vector that is returned
rehoused : {A Z : Type 0} (m n : ℕ) (kids : Items) (d e : BucketData) (out : Vec (Node A) Z) → d ≡ e → n ≡ m → kids ≡ d.kids → out.items ≡ [] → vec_capacity out ≡ d.capacity → count d.kids ≤ d.capacity
    → HasBufferReplaced m (bucket e.header e.weight e.capacity e.kids none) (bucket d.header d.weight n kids none) out
rehoused m n kids d e out same memory kept empty held fits = record {
  is = became m n kids d e same memory kept;
  empty = empty;
  capacity = held ∙ ap (λ (z : BucketData). z.capacity) same;
  enough = omega (arith, held, fits, ap (λ (z : BucketData). count z.kids) same);
}

pub returns-clause-does : goal.returns-clause-does
returns-clause-does g c =
    let old = c.bucket.inside.items in
    let new = c.replace_buffer_of.new.items in
    let m = vec_capacity c.args.self.items in
    let done = c.replace_buffer_of.ensures in
    let after = bucket (header_data c.bucket.inside.header) c.bucket.inside.weight (vec_capacity new) (items_of new.items) none in
    subst (λ x. HasBufferReplaced m (items_of (x ∷ [])) after c.replace_buffer_of.result) (sym c.in-Bucket.is)
    (rehoused m (vec_capacity new) (items_of new.items) (record { header = header_data c.bucket.inside.header; weight = c.bucket.inside.weight; capacity = vec_capacity old; kids = items_of old.items }) c.in-Bucket.bucket.value c.replace_buffer_of.result
    (c.bucket.view_is ∙ c.deref_mut-bucket.ensures.value) done.given (ap items_of done.items) done.empty done.capacity (omega (arith, count-items_of old.items, old.ok.0, old.ok.1)))

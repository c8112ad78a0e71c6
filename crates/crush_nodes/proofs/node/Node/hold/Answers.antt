use Rattle.std.proofs.Common.{◌≡◌, ◌+◌, ◌∷◌, [], ◌++◌, ◌-◌, ◌<◌, arith, ap, sym, ◌∙◌, subst, refl}
use Rattle.std.specs.Prelude.{vec_capacity}
use Rattle.crush_model.specs.Items.{BucketData, none, bucket}
use Rattle.crush_model.specs.Forest.{join}
use Rattle.crush_model.specs.ItemRows.{rows}
use Rattle.crush_model.specs.Stored.{weight_sum, StoresSums}
use Rattle.crush_nodes.specs.Held.{first_room, first_bucket, is_own_place, bucket_with}
use Rattle.crush_model.specs.Count.{one_if}
use Rattle.crush_nodes.specs.Room.{count, room_in}
use Rattle.crush_nodes.specs.Seen.{items_of}
use Rattle.crush_nodes.specs.declared.node.Node.{Node}
use Rattle.crush_nodes.specs.declared.node.Node.TheVariants.{Device, Bucket}
use Rattle.crush_nodes.proofs.HoldLaws.{rows-bucket_with, StoresSums-bucket_with, room_in-bucket_with}
use Rattle.crush_nodes.proofs.Steps.{items_of-append, count-items_of}
use Rattle.crush_nodes.proofs.node.Node.hold.Goals as goal

pub push_reserved-requires : goal.push_reserved-requires
push_reserved-requires g c =
    let v = c.in-Bucket.bucket.value in
    let seen : _ ≡ v = c.bucket.view_is ∙ c.deref_mut-bucket.ensures.value in
    let capacity : vec_capacity c.bucket.inside.items ≡ v.capacity = ap (λ (d : BucketData). d.capacity) seen in
    let kids : items_of c.bucket.inside.items.items ≡ v.kids = ap (λ (d : BucketData). d.kids) seen in
    let room = ap (λ z. first_room (items_of (z ∷ []))) c.in-Bucket.is in
    omega (arith, c.requires.room, room, capacity, ap count kids, count-items_of c.bucket.inside.items.items, c.bucket.inside.items.ok.0)

pub returns-clause-items : goal.returns-clause-items
returns-clause-items g c =
    let v = c.in-Bucket.bucket.value in
    let n = items_of (c.args.child ∷ []) in
    let seen : _ ≡ v = c.bucket.view_is ∙ c.deref_mut-bucket.ensures.value in
    let weight : c.with_more-bucket-inside.result ≡ v.weight + weight_sum n = omega (arith, c.with_more-bucket-inside.ensures, ap (λ (d : BucketData). d.weight) seen, c.weight.ensures) in
    let capacity : vec_capacity c.push_reserved.new.self ≡ v.capacity = c.push_reserved.ensures.capacity ∙ ap (λ (d : BucketData). d.capacity) seen in
    let kids : items_of c.push_reserved.new.self.items ≡ join v.kids n = ap items_of c.push_reserved.ensures.items ∙ items_of-append c.bucket.inside.items.items (c.args.child ∷ []) ∙ ap (λ (d : BucketData). join d.kids n) seen in
    (λ j. bucket ((seen j).header) (weight j) (capacity j) (kids j) none) ∙ sym (ap (λ z. bucket_with n (items_of (z ∷ []))) c.in-Bucket.is)

pub returns-clause-rows : goal.returns-clause-rows
returns-clause-rows g c = λ p.
    let v = c.in-Bucket.bucket.value in
    let n = items_of (c.args.child ∷ []) in
    ap (rows p) (returns-clause-items g c ∙ ap (λ z. bucket_with n (items_of (z ∷ []))) c.in-Bucket.is) ∙ rows-bucket_with p n v.header v.weight v.capacity v.kids
    ∙ sym (ap (λ z. rows p (items_of (z ∷ [])) ++ rows (first_bucket (items_of (z ∷ []))) n) c.in-Bucket.is)

pub returns-clause-sums : goal.returns-clause-sums
returns-clause-sums g c = λ s t.
    let v = c.in-Bucket.bucket.value in
    let n = items_of (c.args.child ∷ []) in
    subst StoresSums (sym (returns-clause-items g c ∙ ap (λ z. bucket_with n (items_of (z ∷ []))) c.in-Bucket.is))
    (StoresSums-bucket_with n v.header v.weight v.capacity v.kids (subst (λ z. StoresSums (items_of (z ∷ []))) c.in-Bucket.is s) t)

-- one node is one item
one_item : {A : _} (x : Node A) → count (items_of (x ∷ [])) ≡ 1
one_item (Device l) = refl
one_item (Bucket b) = refl

pub returns-clause-rooms : goal.returns-clause-rooms
returns-clause-rooms g c p =
    let v = c.in-Bucket.bucket.value in
    let n = items_of (c.args.child ∷ []) in
    let room : 0 < v.capacity - count v.kids = subst (λ z. 0 < first_room (items_of (z ∷ []))) c.in-Bucket.is c.requires.room in
    ap (λ z. room_in z p + one_if (is_own_place (items_of (c.args.self.now ∷ [])) p)) (returns-clause-items g c ∙ ap (λ z. bucket_with n (items_of (z ∷ []))) c.in-Bucket.is)
    ∙ ap (λ z. room_in (bucket v.header (v.weight + weight_sum n) v.capacity (join v.kids n) none) p + one_if (is_own_place (items_of (z ∷ [])) p)) c.in-Bucket.is
    ∙ room_in-bucket_with p n v.header (v.weight + weight_sum n) v.weight v.capacity v.kids (one_item c.args.child) room
    ∙ ap (λ z. room_in (items_of (z ∷ [])) p + room_in n p) (sym c.in-Bucket.is)

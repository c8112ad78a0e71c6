use Rattle.std.proofs.Common.{◌≡◌, ℕ, ◌-◌, ◌∷◌, [], ap, sym, ◌∙◌, arith}
use Rattle.std.specs.Prelude.{nat_lt, vec_capacity}
use Rattle.crush_model.specs.Items.{BucketData}
use Rattle.crush_nodes.specs.Held.{first_room}
use Rattle.crush_nodes.specs.Room.{count}
use Rattle.crush_nodes.specs.Seen.{items_of}
use Rattle.crush_nodes.proofs.Steps.{count-items_of}
use Rattle.crush_nodes.proofs.node.Node.has_room.Goals as goal

-- one number is less than another if something is left after subtraction
nat_lt-sub : (a b : ℕ) → nat_lt a b ≡ nat_lt 0 (b - a)
nat_lt-sub a b = grind arith

pub returns-in-Bucket : goal.returns-in-Bucket
returns-in-Bucket g c =
    let v = c.bucket.inside.items in
    let counted : c.len.result ≡ count (items_of v.items) = c.len.ensures ∙ v.ok.0 ∙ sym (count-items_of v.items) in
    let free : nat_lt c.len.result c.capacity.result ≡ nat_lt 0 (vec_capacity v - count (items_of v.items)) = (λ j. nat_lt (counted j) (c.capacity.ensures j)) ∙ nat_lt-sub (count (items_of v.items)) (vec_capacity v) in
    free ∙ ap (λ (d : BucketData). nat_lt 0 (d.capacity - count d.kids)) (c.bucket.view_is ∙ c.deref-bucket.ensures) ∙ sym (ap (λ z. nat_lt 0 (first_room (items_of (z ∷ [])))) c.in-Bucket.is)

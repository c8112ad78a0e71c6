-- The weight of the devices of a class: laws of the items and of their rows.
use Rattle.std.proofs.Common.{◌≡◌, ℕ, ◌+◌, ◌<◌, ◌≤◌, Bool, true, false, List, [], ◌∷◌, ◌++◌, length, get_or, drop, ap, ◌∙◌, refl, arith}
use Rattle.std.specs.Prelude.{Option, Some, if◌then◌else◌}
use Rattle.std.specs.List.{sum_by}
use Rattle.std.proofs.lemmas.List.Sums.{sum_by-append, sum_by-cons}
use Rattle.crush_model.specs.Classes.{classed_weight, has_class}
use Rattle.crush_model.specs.Items.{Items, none, device, bucket}
use Rattle.crush_model.specs.Forest.{join}
use Rattle.crush_model.specs.ItemRows.{rows, device_row, bucket_row}
use Rattle.crush_model.specs.Stored.{weight_sum, StoresSums}
use Rattle.crush_nodes.specs.Classed.{leaf_class_weight, class_sum_in}
use Rattle.crush_nodes.specs.Seen.{items_of}
use Rattle.crush_nodes.specs.declared.node.Node.{Node}
use Rattle.crush_nodes.proofs.Steps.{items_at, items_of-cons}

pub class_sum_in-join : (c : List ℕ) (a b : Items) → class_sum_in c (join a b) ≡ class_sum_in c a + class_sum_in c b
class_sum_in-join c none b = omega arith
class_sum_in-join c (device d r) b = omega (arith, class_sum_in-join c r b)
class_sum_in-join c (bucket h w m k r) b = omega (arith, class_sum_in-join c r b)

-- the node at i and those after it
pub class_sum_in-at : {A : _} (c : List ℕ) (ns : List (Node A)) (i : ℕ) (x : Node A) → i < length ns → x ≡ get_or ns i x
    → class_sum_in c (items_of (drop i ns)) ≡ class_sum_in c (items_of (x ∷ [])) + class_sum_in c (items_of (drop (i + 1) ns))
class_sum_in-at c ns i x lt e = ap (class_sum_in c) (items_at ns i x lt e ∙ items_of-cons x (drop (i + 1) ns)) ∙ class_sum_in-join c (items_of (x ∷ [])) (items_of (drop (i + 1) ns))

-- the sum is at most the sum over all devices, and so at most what buckets store
leaf_less : (b : Bool) (w : ℕ) → (if b then w else 0) ≤ w
leaf_less true w = omega arith
leaf_less false w = omega arith

pub class_sum_in-le : (c : List ℕ) (t : Items) → StoresSums t → class_sum_in c t ≤ weight_sum t
class_sum_in-le c none s = omega arith
class_sum_in-le c (device d r) s = let own : leaf_class_weight c d ≤ d.weight = leaf_less _ d.weight in omega (arith, own, class_sum_in-le c r s)
class_sum_in-le c (bucket h w m k r) s = omega (arith, s.0, class_sum_in-le c k s.1, class_sum_in-le c r s.2)

-- the rows add the same weight
no_weight : (b : Bool) → ◌≡◌ {A = ℕ} (if b then 0 else 0) 0
no_weight true = refl
no_weight false = refl

pub class_sum_in-rows : (c : List ℕ) (p : Option ℕ) (t : Items) → sum_by (classed_weight c) (rows p t) ≡ class_sum_in c t
class_sum_in-rows c p none = refl
class_sum_in-rows c p (device d r) = omega (arith, sum_by-cons (classed_weight c) (device_row p d) (rows p r), class_sum_in-rows c p r)
class_sum_in-rows c p (bucket h w m k r) =
    let own : classed_weight c (bucket_row p h) ≡ 0 = no_weight (has_class c (bucket_row p h)) in
    omega (arith, own, sum_by-cons (classed_weight c) (bucket_row p h) (rows (Some h.id) k ++ rows p r), sum_by-append (classed_weight c) (rows (Some h.id) k) (rows p r), class_sum_in-rows c (Some h.id) k, class_sum_in-rows c p r)

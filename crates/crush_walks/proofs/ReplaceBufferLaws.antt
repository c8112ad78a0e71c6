-- A bucket whose items move to another vector: how the items change.
use Rattle.std.proofs.Common.{◌≡◌, ℕ, ◌+◌, ◌-◌, ◌≤◌, Bool, true, false, ap, sym, ◌∙◌, refl, arith, eqb-true}
use Rattle.std.specs.Prelude.{◌==◌, if◌then◌else◌}
use Rattle.crush_units.specs.declared.id.ItemId.{ItemId}
use Rattle.crush_units.specs.declared.id.ItemId.TheVariants.{Device, Bucket}
use Rattle.crush_units.specs.Id.{same_id}
use Rattle.crush_model.specs.Items.{LeafData, HeaderData, Items, none, device, bucket}
use Rattle.crush_model.specs.Forest.{join}
use Rattle.crush_model.specs.Stored.{weight_sum, StoresSums}
use Rattle.crush_walks.specs.Change.{with_item}
use Rattle.crush_walks.specs.BufferReplaced.{with_capacity, with_own_capacity, HoldsUpTo}
use Rattle.crush_walks.specs.Swapping.{bucket_in, first_as_bucket}
use Rattle.crush_nodes.specs.Ops.{count_of_id, with_sums, part_of, without_capacity, StoresUpTo}
use Rattle.crush_model.specs.Count.{one_if}
use Rattle.crush_nodes.specs.Room.{bucket_room, count}
use Rattle.crush_nodes.proofs.LastLaws.{room_here}
use Rattle.crush_walks.proofs.TakenLaws.{taken_bucket}
use Rattle.crush_walks.proofs.ChangeLaws.{local, one_taken}
use Rattle.crush_nodes.proofs.Joins.{pick_no, pick_yes, has_sums}

pub with_capacity-join : (b m : ℕ) (t u : Items) → with_capacity b m (join t u) ≡ join (with_capacity b m t) (with_capacity b m u)
with_capacity-join b m none u = refl
with_capacity-join b m (device d r) u = ap (device d) (with_capacity-join b m r u)
with_capacity-join b m (bucket h w n k r) u = ap (bucket h w (if h.id == b then m else n) (with_capacity b m k)) (with_capacity-join b m r u)

pub with_capacity-absent : (b m : ℕ) (t : Items) → count_of_id (Bucket b) t ≡ 0 → with_capacity b m t ≡ t
with_capacity-absent b m none e = refl
with_capacity-absent b m (device d r) e = ap (device d) (with_capacity-absent b m r (omega (arith, e)))
with_capacity-absent b m (bucket h w n k r) e = λ j. bucket h w (pick_no (h.id == b) m n (omega (arith, e)) j) (with_capacity-absent b m k (omega (arith, e)) j) (with_capacity-absent b m r (omega (arith, e)) j)

-- ONLY MEMORY CHANGES: the items are otherwise the same, and so are weights, sums and counts
pub without_capacity-with_capacity : (b m : ℕ) (t : Items) → without_capacity (with_capacity b m t) ≡ without_capacity t
without_capacity-with_capacity b m none = refl
without_capacity-with_capacity b m (device d r) = ap (device d) (without_capacity-with_capacity b m r)
without_capacity-with_capacity b m (bucket h w n k r) = λ j. bucket h w 0 (without_capacity-with_capacity b m k j) (without_capacity-with_capacity b m r j)

pub weight_sum-with_capacity : (b m : ℕ) (t : Items) → weight_sum (with_capacity b m t) ≡ weight_sum t
weight_sum-with_capacity b m none = refl
weight_sum-with_capacity b m (device d r) = ap (λ z. d.weight + z) (weight_sum-with_capacity b m r)
weight_sum-with_capacity b m (bucket h w n k r) = ap (λ z. w + z) (weight_sum-with_capacity b m r)

pub StoresSums-with_capacity : (b m : ℕ) (t : Items) → StoresSums t → StoresSums (with_capacity b m t)
StoresSums-with_capacity b m none s = tt
StoresSums-with_capacity b m (device d r) s = StoresSums-with_capacity b m r s
StoresSums-with_capacity b m (bucket h w n k r) s = (s.0 ∙ sym (weight_sum-with_capacity b m k), StoresSums-with_capacity b m k s.1, StoresSums-with_capacity b m r s.2)

pub StoresUpTo-with_capacity : (limit b m : ℕ) (t : Items) → StoresUpTo limit t → StoresUpTo limit (with_capacity b m t)
StoresUpTo-with_capacity limit b m none s = tt
StoresUpTo-with_capacity limit b m (device d r) s = StoresUpTo-with_capacity limit b m r s
StoresUpTo-with_capacity limit b m (bucket h w n k r) s = (s.0, StoresUpTo-with_capacity limit b m k s.1, StoresUpTo-with_capacity limit b m r s.2)

pub count-with_capacity : (b m : ℕ) (t : Items) → count (with_capacity b m t) ≡ count t
count-with_capacity b m none = refl
count-with_capacity b m (device d r) = ap (λ z. 1 + z) (count-with_capacity b m r)
count-with_capacity b m (bucket h w n k r) = ap (λ z. 1 + z) (count-with_capacity b m r)

-- THE CHANGE: with the changed bucket in place of the old one, the items are those with its new capacity
rehoused_taken : (b m : ℕ) (t : Items) → count_of_id (Bucket b) t ≡ 1 → with_own_capacity m (part_of (Bucket b) t) ≡ with_capacity b m (part_of (Bucket b) t)
rehoused_taken b m t one = one_taken (λ x. with_own_capacity m x ≡ with_capacity b m x) (Bucket b) t one
    (λ d here. absurd (omega (arith, here)))
    (λ h w n k here gone. λ j. bucket h w (sym (pick_yes (h.id == b) m n here) j) (sym (with_capacity-absent b m k gone) j) none)

pub rehoused : (b m : ℕ) (t y : Items) → count_of_id (Bucket b) t ≡ 1 → StoresSums t → y ≡ with_own_capacity m (part_of (Bucket b) t) → with_sums (with_item (Bucket b) y t) ≡ with_capacity b m t
rehoused b m t y one s e =
    ap with_sums (local (with_capacity b m) (Bucket b) (with_capacity-join b m) (with_capacity-absent b m) (λ h w n k misses. ap (λ z. bucket h w z (with_capacity b m k) none) (pick_no (h.id == b) m n misses)) t y one (e ∙ rehoused_taken b m t one))
    ∙ has_sums (with_capacity b m t) (StoresSums-with_capacity b m t s)

-- a vector for as many items as the bucket has is large enough
pub holds_up_to : (b m : ℕ) (t : Items) → count_of_id (Bucket b) t ≡ 1 → count (bucket_in b t).kids ≤ m → HoldsUpTo m (part_of (Bucket b) t)
holds_up_to b m t one = one_taken (λ x. count (first_as_bucket x).kids ≤ m → HoldsUpTo m x) (Bucket b) t one (λ d here. absurd (omega (arith, here))) (λ h w n k here gone le. le)

pub held_up_to : (m : ℕ) (x : Items) → HoldsUpTo m x → count (first_as_bucket x).kids ≤ m
held_up_to m none le = absurd le
held_up_to m (device d r) le = absurd le
held_up_to m (bucket h w n k r) le = le

-- TWICE: the second of two capacities replaces the first, and with the original capacity the items are the same as before
last_capacity : (c : Bool) (m n o : ℕ) → (if c then m else (if c then n else o)) ≡ (if c then m else o)
last_capacity true m n o = refl
last_capacity false m n o = refl

pub with_capacity-twice : (b m n : ℕ) (t : Items) → with_capacity b m (with_capacity b n t) ≡ with_capacity b m t
with_capacity-twice b m n none = refl
with_capacity-twice b m n (device d r) = ap (device d) (with_capacity-twice b m n r)
with_capacity-twice b m n (bucket h w o k r) = λ j. bucket h w (last_capacity (h.id == b) m n o j) (with_capacity-twice b m n k j) (with_capacity-twice b m n r j)

own_taken : (b : ℕ) (t : Items) → count_of_id (Bucket b) t ≡ 1 → part_of (Bucket b) t ≡ with_own_capacity (bucket_in b t).capacity (part_of (Bucket b) t)
own_taken b t one = one_taken (λ x. x ≡ with_own_capacity (first_as_bucket x).capacity x) (Bucket b) t one (λ d here. absurd (omega (arith, here))) (λ h w n k here gone. refl)

pub with_capacity-own : (b : ℕ) (t : Items) → count_of_id (Bucket b) t ≡ 1 → with_capacity b (bucket_in b t).capacity t ≡ t
with_capacity-own b t one =
    let part = part_of (Bucket b) t in
    let m = (bucket_in b t).capacity in
    sym (local (with_capacity b m) (Bucket b) (with_capacity-join b m) (with_capacity-absent b m) (λ h w n k misses. ap (λ z. bucket h w z (with_capacity b m k) none) (pick_no (h.id == b) m n misses)) t part one (own_taken b t one ∙ rehoused_taken b m t one))
    ∙ local (λ x. x) (Bucket b) (λ u v. refl) (λ u gone. refl) (λ h w n k misses. refl) t part one refl

pub rehoused_back : (b m : ℕ) (t : Items) → count_of_id (Bucket b) t ≡ 1 → with_capacity b (bucket_in b t).capacity (with_capacity b m t) ≡ t
rehoused_back b m t one = with_capacity-twice b (bucket_in b t).capacity m t ∙ with_capacity-own b t one

-- WHAT IS READ of the bucket afterwards: its new capacity, and as many items as before
parts_device : (c : Bool) (b m : ℕ) (d : LeafData) (x y : Items) → x ≡ with_capacity b m y → (if c then device d x else x) ≡ with_capacity b m (if c then device d y else y)
parts_device true b m d x y e = ap (device d) e
parts_device false b m d x y e = e

parts_bucket : (c : Bool) (b m : ℕ) (h : HeaderData) (w n : ℕ) (k u v x y : Items) → u ≡ with_capacity b m v → x ≡ with_capacity b m y
    → (if c then bucket h w (if h.id == b then m else n) (with_capacity b m k) x else join u x) ≡ with_capacity b m (if c then bucket h w n k y else join v y)
parts_bucket true b m h w n k u v x y e₁ e₂ = ap (bucket h w (if h.id == b then m else n) (with_capacity b m k)) e₂
parts_bucket false b m h w n k u v x y e₁ e₂ = (λ j. join (e₁ j) (e₂ j)) ∙ sym (with_capacity-join b m v y)

pub part_of-with_capacity : (b m : ℕ) (i : ItemId) (t : Items) → part_of i (with_capacity b m t) ≡ with_capacity b m (part_of i t)
part_of-with_capacity b m i none = refl
part_of-with_capacity b m i (device d r) = parts_device (same_id (Device d.id) i) b m d _ (part_of i r) (part_of-with_capacity b m i r)
part_of-with_capacity b m i (bucket h w n k r) = parts_bucket (same_id (Bucket h.id) i) b m h w n k _ (part_of i k) _ (part_of i r) (part_of-with_capacity b m i k) (part_of-with_capacity b m i r)

first_count : (b m : ℕ) (t : Items) → count (first_as_bucket (with_capacity b m t)).kids ≡ count (first_as_bucket t).kids
first_count b m none = refl
first_count b m (device d r) = refl
first_count b m (bucket h w n k r) = count-with_capacity b m k

pub count_rehoused : (b m : ℕ) (t : Items) → count (bucket_in b (with_capacity b m t)).kids ≡ count (bucket_in b t).kids
count_rehoused b m t = ap (λ x. count (first_as_bucket x).kids) (part_of-with_capacity b m (Bucket b) t) ∙ first_count b m (part_of (Bucket b) t)

pub capacity_rehoused : (b m : ℕ) (t : Items) → count_of_id (Bucket b) t ≡ 1 → (bucket_in b (with_capacity b m t)).capacity ≡ m
capacity_rehoused b m t one = ap (λ x. (first_as_bucket x).capacity) (part_of-with_capacity b m (Bucket b) t)
    ∙ one_taken (λ x. (first_as_bucket (with_capacity b m x)).capacity ≡ m) (Bucket b) t one (λ d here. absurd (omega (arith, here))) (λ h w n k here gone. pick_yes (h.id == b) m n here)

pub count_of_id-with_capacity : (b m : ℕ) (i : ItemId) (t : Items) → count_of_id i (with_capacity b m t) ≡ count_of_id i t
count_of_id-with_capacity b m i none = refl
count_of_id-with_capacity b m i (device d r) = ap (λ z. one_if (same_id (Device d.id) i) + z) (count_of_id-with_capacity b m i r)
count_of_id-with_capacity b m i (bucket h w n k r) = λ j. one_if (same_id (Bucket h.id) i) + (count_of_id-with_capacity b m i k j + count_of_id-with_capacity b m i r j)

-- ROOM: a bucket's room is its capacity less the number of its items, and the room of another bucket doesn't change
pub room_of_bucket : (b : ℕ) (t : Items) → count_of_id (Bucket b) t ≡ 1 → bucket_room b t ≡ (bucket_in b t).capacity - count (bucket_in b t).kids
room_of_bucket b t one =
    let a = taken_bucket b t one in
    sym a.room ∙ room_here b a.header a.weight a.capacity a.kids a.own a.one ∙ ap (λ x. (first_as_bucket x).capacity - count (first_as_bucket x).kids) (sym a.is)

pub room_rehoused : (b m : ℕ) (t : Items) → count_of_id (Bucket b) t ≡ 1 → bucket_room b (with_capacity b m t) ≡ m - count (bucket_in b t).kids
room_rehoused b m t one = room_of_bucket b (with_capacity b m t) (count_of_id-with_capacity b m (Bucket b) t ∙ one) ∙ (λ j. capacity_rehoused b m t one j - count_rehoused b m t j)

own_other : (x y : Bool) (m n k l : ℕ) → (x ≡ true → y ≡ false) → k ≡ l → (if x then (if y then m else n) - k else 0) ≡ (if x then n - l else 0)
own_other false y m n k l apart e = refl
own_other true false m n k l apart e = ap (λ z. n - z) e
own_other true true m n k l apart e = absurd (let no : true ≡ false = apart refl in cc)

pub other_room : (b m c : ℕ) (t : Items) → (c == b) ≡ false → bucket_room c (with_capacity b m t) ≡ bucket_room c t
other_room b m c none e = refl
other_room b m c (device d r) e = other_room b m c r e
other_room b m c (bucket h w n k r) e = λ j.
    own_other (h.id == c) (h.id == b) m n _ (count k) (λ here. ap (λ z. z == b) (eqb-true h.id c here) ∙ e) (count-with_capacity b m k) j + (other_room b m c k e j + other_room b m c r e j)

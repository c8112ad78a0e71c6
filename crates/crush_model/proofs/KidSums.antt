-- The sum of a bucket is the sum of the weights of its items.
use Rattle.std.proofs.Common.{◌≡◌, ℕ, zero, suc, ◌+◌, ◌*◌, ◌≤◌, Bool, true, false, List, [], ◌∷◌, length, ap, sym, ◌∙◌, refl, arith, ⊎_elim}
use Rattle.std.specs.Prelude.{◌==◌, if◌then◌else◌, Option, Some, None, map, filter, is_some, option_and_then, unwrap_or}
use Rattle.std.specs.List.{sum_by}
use Rattle.std.specs.Option.{option_map}
use Rattle.std.proofs.lemmas.List.Sums.{sum_by-cons}
use Rattle.crush_units.specs.declared.id.ItemId.{ItemId}
use Rattle.crush_units.specs.declared.id.ItemId.TheVariants.{Device, Bucket}
use Rattle.crush_units.specs.Id.{same_id}
use Rattle.crush_units.proofs.Ids.{same_id_tells, same_id_comm}
use Rattle.crush_model.specs.Table.{Row, is_device_id, row_of, parent_of, own_weight_of, then_up, climb, above, is_below, is_parent, kids, sum_below, summed_weight, item_weight, weight_of}
use Rattle.crush_model.specs.Lawful.{Lawful}
use Rattle.crush_model.proofs.Reorder.{one_if}
use Rattle.crush_model.proofs.Found.{Distinct, times, times-cons}
use Rattle.crush_model.proofs.Climbs.{eqb_turned, times_in, by_parent, climb-above, one_if-is_below, sum_by-plus, sum_by-zero, sum_below-absent}

-- SUMS of sums
module _ {X : Type 0} where
  pub sum_by-agree : (f g : X → ℕ) → ((x : X) → f x ≡ g x) → (xs : List X) → sum_by f xs ≡ sum_by g xs
  sum_by-agree f g h xs = ap (λ k. sum_by k xs) (λ i x. h x i)

  pub sum_by-times : (n : ℕ) (f : X → ℕ) (xs : List X) → sum_by (λ x. f x * n) xs ≡ sum_by f xs * n
  sum_by-times n f [] = omega arith
  sum_by-times n f (x ∷ xs) =
      let spread : f x * n + sum_by f xs * n ≡ (f x + sum_by f xs) * n = omega arith in
      sum_by-cons (λ z. f z * n) x xs ∙ ap (λ m. f x * n + m) (sum_by-times n f xs) ∙ spread ∙ ap (λ m. m * n) (sym (sum_by-cons f x xs))

  pub sum_by-if : (b : Bool) (f : X → ℕ) (xs : List X) → sum_by (λ x. if b then f x else 0) xs ≡ (if b then sum_by f xs else 0)
  sum_by-if true f xs = refl
  sum_by-if false f xs = sum_by-zero (λ _. 0) (λ _. refl) xs

module _ {X Y : Type 0} where
  pub sum_by-swap : (f : X → Y → ℕ) (xs : List X) (ys : List Y) → sum_by (λ x. sum_by (λ y. f x y) ys) xs ≡ sum_by (λ y. sum_by (λ x. f x y) xs) ys
  sum_by-swap f [] ys = sym (sum_by-zero (λ y. sum_by (λ x. f x y) []) (λ _. refl) ys)
  sum_by-swap f (x ∷ xs) ys =
      sum_by-cons (λ z. sum_by (λ y. f z y) ys) x xs ∙ ap (λ n. sum_by (λ y. f x y) ys + n) (sum_by-swap f xs ys)
      ∙ sym (sum_by-plus (λ y. f x y) (λ y. sum_by (λ z. f z y) xs) ys)
      ∙ sum_by-agree (λ y. f x y + sum_by (λ z. f z y) xs) (λ y. sum_by (λ z. f z y) (x ∷ xs)) (λ y. sym (sum_by-cons (λ z. f z y) x xs)) ys

if_plus : (b : Bool) (x y : ℕ) → (if b then x + y else 0) ≡ (if b then x else 0) + (if b then y else 0)
if_plus true x y = refl
if_plus false x y = refl

if_times : (b : Bool) (x n : ℕ) → (if b then x else 0) * n ≡ (if b then x * n else 0)
if_times true x n = refl
if_times false x n = omega arith

-- the sum of a number for each id, over the rows whose parent is b
abbrev pub over_kids : List Row → ℕ → (ItemId → ℕ) → ℕ
over_kids t b g = sum_by (λ (k : Row). if is_parent b k.parent then g k.id else 0) t

pub over_kids-plus : (t : List Row) (b : ℕ) (f g : ItemId → ℕ) → over_kids t b (λ i. f i + g i) ≡ over_kids t b f + over_kids t b g
over_kids-plus t b f g =
    sum_by-agree (λ (k : Row). if is_parent b k.parent then f k.id + g k.id else 0) (λ k. (if is_parent b k.parent then f k.id else 0) + (if is_parent b k.parent then g k.id else 0)) (λ k. if_plus (is_parent b k.parent) (f k.id) (g k.id)) t
    ∙ sum_by-plus (λ (k : Row). if is_parent b k.parent then f k.id else 0) (λ k. if is_parent b k.parent then g k.id else 0) t

kids_if : (b : Bool) (i : ItemId) (g : ItemId → ℕ) (is : List ItemId) → sum_by g (if b then i ∷ is else is) ≡ (if b then g i else 0) + sum_by g is
kids_if true i g is = sum_by-cons g i is
kids_if false i g is = omega arith

ids_if : (b : Bool) (r : Row) (rs : List Row) → map (λ (x : Row). x.id) (if b then r ∷ rs else rs) ≡ (if b then r.id ∷ map (λ (x : Row). x.id) rs else map (λ (x : Row). x.id) rs)
ids_if true r rs = refl
ids_if false r rs = refl

-- it equals the sum over the items of the bucket
pub over_kids-kids : (t : List Row) (b : ℕ) (g : ItemId → ℕ) → over_kids t b g ≡ sum_by g (kids t b)
over_kids-kids [] b g = refl
over_kids-kids (r ∷ t) b g =
    sum_by-cons (λ (k : Row). if is_parent b k.parent then g k.id else 0) r t ∙ ap (λ n. (if is_parent b r.parent then g r.id else 0) + n) (over_kids-kids t b g)
    ∙ sym (ap (sum_by g) (ids_if (is_parent b r.parent) r (filter (λ (x : Row). is_parent b x.parent) t)) ∙ kids_if (is_parent b r.parent) r.id g (kids t b))

none_kid : (i : ItemId) (t : List Row) (b : ℕ) → times i t ≡ 0 → over_kids t b (λ k. one_if (same_id k i)) ≡ 0
none_kid i [] b h = refl
none_kid i (r ∷ t) b h =
    let gone : one_if (same_id r.id i) ≡ 0 = omega (arith, h, times-cons i r t) in
    let own : (if is_parent b r.parent then one_if (same_id r.id i) else 0) ≡ 0 = ap (λ n. if is_parent b r.parent then n else 0) gone ∙ nothing (is_parent b r.parent) in
    omega (arith, own, sum_by-cons (λ (k : Row). if is_parent b k.parent then one_if (same_id k.id i) else 0) r t, none_kid i t b (omega (arith, h, times-cons i r t))) where
      nothing : (c : Bool) → ◌≡◌ {A = ℕ} (if c then 0 else 0) 0
      nothing true = refl
      nothing false = refl

-- an item is among the items of its parent only, and occurs there once
pub kid_once : (i : ItemId) (t : List Row) (b : ℕ) → times i t ≤ 1 → over_kids t b (λ k. one_if (same_id k i)) ≡ one_if (is_parent b (parent_of t i))
kid_once i [] b h = refl
kid_once i (r ∷ t) b h = ⊎_elim
    (λ p. let one : one_if (same_id r.id i) ≡ 1 = ap one_if p.0 in
    let own : (if is_parent b r.parent then one_if (same_id r.id i) else 0) ≡ one_if (is_parent b r.parent) = ap (λ n. if is_parent b r.parent then n else 0) one in
    let found : one_if (is_parent b (parent_of (r ∷ t) i)) ≡ one_if (is_parent b r.parent) = ap (λ z. one_if (is_parent b (option_and_then (λ (x : Row). x.parent) (if z then Some r else row_of t i)))) p.0 in
    omega (arith, own, found, sum_by-cons (λ (k : Row). if is_parent b k.parent then one_if (same_id k.id i) else 0) r t, none_kid i t b (omega (arith, one, h, times-cons i r t))))
    (λ p. let miss : one_if (same_id r.id i) ≡ 0 = ap one_if p.0 in
    let own : (if is_parent b r.parent then one_if (same_id r.id i) else 0) ≡ 0 = ap (λ z. if is_parent b r.parent then one_if z else 0) p.0 ∙ nothing (is_parent b r.parent) in
    let found : one_if (is_parent b (parent_of (r ∷ t) i)) ≡ one_if (is_parent b (parent_of t i)) = ap (λ z. one_if (is_parent b (option_and_then (λ (x : Row). x.parent) (if z then Some r else row_of t i)))) p.0 in
    omega (arith, own, found, sum_by-cons (λ (k : Row). if is_parent b k.parent then one_if (same_id k.id i) else 0) r t, kid_once i t b (omega (arith, miss, h, times-cons i r t))))
    (same_id_tells r.id i) where
      nothing : (c : Bool) → ◌≡◌ {A = ℕ} (if c then 0 else 0) 0
      nothing true = refl
      nothing false = refl

none_met : (t : List Row) (b : ℕ) → over_kids t b (λ k. 0) ≡ 0
none_met t b = sum_by-zero (λ (k : Row). if is_parent b k.parent then 0 else 0) (λ k. nothing (is_parent b k.parent)) t where
  nothing : (c : Bool) → ◌≡◌ {A = ℕ} (if c then 0 else 0) 0
  nothing true = refl
  nothing false = refl

-- the way up from an item below a bucket leads through exactly one item of the bucket
pub climb_kids : (t : List Row) (b : ℕ) → Distinct t → (n : ℕ) (i : ItemId) → over_kids t b (λ k. one_if (same_id k i) + times_in k (climb t n i)) ≡ times_in (Bucket b) (climb t (suc n) i)
climb_kids t b d zero i =
    over_kids-plus t b (λ k. one_if (same_id k i)) (λ k. 0) ∙ omega (arith, kid_once i t b (d i), none_met t b)
    ∙ by_parent (λ o. one_if (is_parent b o) ≡ times_in (Bucket b) (then_up o (λ p. []))) refl (λ p. ap one_if (eqb_turned p b) ∙ omega arith) (parent_of t i)
climb_kids t b d (suc n) i =
    over_kids-plus t b (λ k. one_if (same_id k i)) (λ k. times_in k (climb t (suc n) i)) ∙ ap (λ m. m + over_kids t b (λ k. times_in k (climb t (suc n) i))) (kid_once i t b (d i))
    ∙ by_parent (λ o. one_if (is_parent b o) + over_kids t b (λ k. times_in k (then_up o (λ p. climb t n (Bucket p)))) ≡ times_in (Bucket b) (then_up o (λ p. climb t (suc n) (Bucket p))))
    (let nobody : over_kids t b (λ k. 0) ≡ 0 = none_met t b in omega (arith, nobody))
    (λ p. let turned : one_if (p == b) ≡ one_if (b == p) = ap one_if (eqb_turned p b) in omega (arith, turned, climb_kids t b d n (Bucket p)))
    (parent_of t i)

-- THE LAW, for any weights of the rows: the sum over the items of a bucket and all that is below them is the sum over all that is below the bucket
abbrev pub own_sum : List Row → ItemId → ℕ
own_sum t i = sum_by (λ (r : Row). one_if (same_id i r.id) * summed_weight r) t

abbrev pub met_sum : List Row → ItemId → ℕ
met_sum t i = sum_by (λ (r : Row). times_in i (above t r.id) * summed_weight r) t

hit_times : (b : Bool) (w : ℕ) → (if b then w else 0) ≡ one_if b * w
hit_times true w = omega arith
hit_times false w = omega arith

-- a bucket's sum is the sum over the rows that are below the bucket
pub sum_below-met : (t : List Row) → Lawful t → (b : ℕ) → sum_below t b ≡ met_sum t (Bucket b)
sum_below-met t l b = sum_by-agree (λ (r : Row). if is_below t b r.id then summed_weight r else 0) (λ r. times_in (Bucket b) (above t r.id) * summed_weight r)
    (λ r. hit_times (is_below t b r.id) (summed_weight r) ∙ ap (λ n. n * summed_weight r) (one_if-is_below t l b r.id)) t

row_met : (t : List Row) → Lawful t → (b : ℕ) (r : Row) → times_in (Bucket b) (above t r.id) * summed_weight r ≡ over_kids t b (λ k. (one_if (same_id k r.id) + times_in k (above t r.id)) * summed_weight r)
row_met t l b r =
    ap (λ xs. times_in (Bucket b) xs * summed_weight r) (sym (climb-above t l (suc (length t)) r.id (omega arith))) ∙ ap (λ n. n * summed_weight r) (sym (climb_kids t b l.ids (length t) r.id))
    ∙ sym (sum_by-times (summed_weight r) (λ (k : Row). if is_parent b k.parent then one_if (same_id k.id r.id) + times_in k.id (above t r.id) else 0) t)
    ∙ sum_by-agree (λ (k : Row). (if is_parent b k.parent then one_if (same_id k.id r.id) + times_in k.id (above t r.id) else 0) * summed_weight r) (λ k. if is_parent b k.parent then (one_if (same_id k.id r.id) + times_in k.id (above t r.id)) * summed_weight r else 0)
    (λ k. if_times (is_parent b k.parent) (one_if (same_id k.id r.id) + times_in k.id (above t r.id)) (summed_weight r)) t

kid_sums : (t : List Row) (i : ItemId) → sum_by (λ (r : Row). (one_if (same_id i r.id) + times_in i (above t r.id)) * summed_weight r) t ≡ own_sum t i + met_sum t i
kid_sums t i =
    sum_by-agree (λ (r : Row). (one_if (same_id i r.id) + times_in i (above t r.id)) * summed_weight r) (λ r. one_if (same_id i r.id) * summed_weight r + times_in i (above t r.id) * summed_weight r) (λ r. omega arith) t
    ∙ sum_by-plus (λ (r : Row). one_if (same_id i r.id) * summed_weight r) (λ r. times_in i (above t r.id) * summed_weight r) t

pub sum_below-kids_met : (t : List Row) → Lawful t → (b : ℕ) → sum_below t b ≡ sum_by (λ i. own_sum t i + met_sum t i) (kids t b)
sum_below-kids_met t l b =
    sum_below-met t l b
    ∙ sum_by-agree (λ (r : Row). times_in (Bucket b) (above t r.id) * summed_weight r) (λ r. over_kids t b (λ k. (one_if (same_id k r.id) + times_in k (above t r.id)) * summed_weight r)) (row_met t l b) t
    ∙ sum_by-swap (λ (r k : Row). if is_parent b k.parent then (one_if (same_id k.id r.id) + times_in k.id (above t r.id)) * summed_weight r else 0) t t
    ∙ sum_by-agree (λ (k : Row). sum_by (λ (r : Row). if is_parent b k.parent then (one_if (same_id k.id r.id) + times_in k.id (above t r.id)) * summed_weight r else 0) t) (λ k. if is_parent b k.parent then own_sum t k.id + met_sum t k.id else 0)
    (λ k. sum_by-if (is_parent b k.parent) (λ (r : Row). (one_if (same_id k.id r.id) + times_in k.id (above t r.id)) * summed_weight r) t ∙ ap (λ n. if is_parent b k.parent then n else 0) (kid_sums t k.id)) t
    ∙ over_kids-kids t b (λ i. own_sum t i + met_sum t i)

-- the weight of an item of the table, otherwise 0
abbrev pub weight_or_none : List Row → ItemId → ℕ
weight_or_none t i = unwrap_or (weight_of t i) 0

own_sum-absent : (t : List Row) (i : ItemId) → times i t ≡ 0 → own_sum t i ≡ 0
own_sum-absent [] i h = refl
own_sum-absent (r ∷ t) i h =
    let gone : one_if (same_id i r.id) ≡ 0 = ap one_if (same_id_comm i r.id) ∙ omega (arith, h, times-cons i r t) in
    let own : one_if (same_id i r.id) * summed_weight r ≡ 0 = ap (λ n. n * summed_weight r) gone ∙ omega arith in
    omega (arith, own, sum_by-cons (λ (x : Row). one_if (same_id i x.id) * summed_weight x) r t, own_sum-absent t i (omega (arith, h, times-cons i r t)))

-- the sum over the row of a device is the device's own weight
own_sum-device : (t : List Row) (d : ℕ) → times (Device d) t ≤ 1 → own_sum t (Device d) ≡ unwrap_or (own_weight_of t (Device d)) 0
own_sum-device [] d h = refl
own_sum-device (r ∷ t) d h = ⊎_elim
    (λ p. let one : one_if (same_id r.id (Device d)) ≡ 1 = ap one_if p.0 in
    let adds : summed_weight r ≡ r.weight = ap (λ i. if is_device_id i then r.weight else 0) p.1 in
    let own : one_if (same_id (Device d) r.id) * summed_weight r ≡ r.weight = ap (λ z. one_if z * summed_weight r) (same_id_comm (Device d) r.id ∙ p.0) ∙ omega (arith, adds) in
    let found : unwrap_or (own_weight_of (r ∷ t) (Device d)) 0 ≡ r.weight = ap (λ z. unwrap_or (option_map (λ (x : Row). x.weight) (if z then Some r else row_of t (Device d))) 0) p.0 in
    omega (arith, own, found, sum_by-cons (λ (x : Row). one_if (same_id (Device d) x.id) * summed_weight x) r t, own_sum-absent t (Device d) (omega (arith, one, h, times-cons (Device d) r t))))
    (λ p. let miss : one_if (same_id r.id (Device d)) ≡ 0 = ap one_if p.0 in
    let own : one_if (same_id (Device d) r.id) * summed_weight r ≡ 0 = ap (λ z. one_if z * summed_weight r) (same_id_comm (Device d) r.id ∙ p.0) ∙ omega arith in
    let found : unwrap_or (own_weight_of (r ∷ t) (Device d)) 0 ≡ unwrap_or (own_weight_of t (Device d)) 0 = ap (λ z. unwrap_or (option_map (λ (x : Row). x.weight) (if z then Some r else row_of t (Device d))) 0) p.0 in
    omega (arith, own, found, sum_by-cons (λ (x : Row). one_if (same_id (Device d) x.id) * summed_weight x) r t, own_sum-device t d (omega (arith, miss, h, times-cons (Device d) r t))))
    (same_id_tells r.id (Device d))

-- a bucket's own row adds nothing to a sum
own_sum-bucket : (t : List Row) (b : ℕ) → own_sum t (Bucket b) ≡ 0
own_sum-bucket t b = sum_by-zero (λ (r : Row). one_if (same_id (Bucket b) r.id) * summed_weight r) (λ r. by_id r.id r.weight) t where
  by_id : (i : ItemId) (w : ℕ) → one_if (same_id (Bucket b) i) * (if is_device_id i then w else 0) ≡ 0
  by_id (Device d) w = omega arith
  by_id (Bucket c) w = omega arith

device_met : (t : List Row) (d : ℕ) → met_sum t (Device d) ≡ 0
device_met t d = sum_by-zero (λ (r : Row). times_in (Device d) (above t r.id) * summed_weight r) (λ r. let never : times_in (Device d) (above t r.id) ≡ 0 = no_device d (above t r.id) in ap (λ n. n * summed_weight r) never ∙ omega arith) t where
  no_device : (d : ℕ) (xs : List ℕ) → times_in (Device d) xs ≡ 0
  no_device d [] = refl
  no_device d (x ∷ xs) = omega (arith, no_device d xs)

bucket_weight : (t : List Row) → Lawful t → (b : ℕ) (o : Option Row) → row_of t (Bucket b) ≡ o → unwrap_or (option_map (item_weight t (Bucket b)) (option_map (λ (x : Row). x.weight) o)) 0 ≡ sum_below t b
bucket_weight t l b None e = sym (sum_below-absent t l.parents b (ap is_some e))
bucket_weight t l b (Some r) e = refl

-- an item's weight is its own weight plus the weight of all that is below it
pub weight_or_none-sums : (t : List Row) → Lawful t → (i : ItemId) → own_sum t i + met_sum t i ≡ weight_or_none t i
weight_or_none-sums t l (Device d) = omega (arith, own_sum-device t d (l.ids (Device d)), device_met t d) ∙ device_weight (row_of t (Device d)) where
  device_weight : (o : Option Row) → unwrap_or (option_map (λ (x : Row). x.weight) o) 0 ≡ unwrap_or (option_map (item_weight t (Device d)) (option_map (λ (x : Row). x.weight) o)) 0
  device_weight None = refl
  device_weight (Some r) = refl
weight_or_none-sums t l (Bucket b) = ap (λ n. n + met_sum t (Bucket b)) (own_sum-bucket t b) ∙ sym (omega (arith, bucket_weight t l b (row_of t (Bucket b)) refl, sum_below-met t l b))

-- THE LAW OF SUMS: a bucket's sum is the sum of the weights of its items
pub sum_below-kids : (t : List Row) → Lawful t → (b : ℕ) → sum_below t b ≡ sum_by (weight_or_none t) (kids t b)
sum_below-kids t l b = sum_below-kids_met t l b ∙ sum_by-agree (λ i. own_sum t i + met_sum t i) (weight_or_none t) (weight_or_none-sums t l) (kids t b)

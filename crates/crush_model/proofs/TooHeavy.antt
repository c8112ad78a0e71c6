-- Tables of up to MOST_BUCKETS buckets that are lawful except for their total. With all of these buckets the total is one unit out of range, and no other condition is broken.
use Rattle.std.proofs.Common.{◌≡◌, ℕ, zero, suc, ◌+◌, ◌-◌, ◌*◌, ◌≤◌, ◌<◌, Bool, true, false, List, [], ◌∷◌, ◌++◌, ap, subst, ◌∙◌, refl, arith, ⊎_elim}
use Rattle.std.specs.Prelude.{Some, None, replicate, nat_lt, nat_le, not, ◌==◌, ◌||◌, ◌&&◌, map, bytes_eq, is_some, if◌then◌else◌}
use Rattle.std.specs.List.{list_any, list_all, sum_by}
use Rattle.std.proofs.lemmas.Bool.{ne_eqb, lt-ltb, le-leb, le-ltb}
use Rattle.std.proofs.lemmas.Bool.Decides.{eqb_tells}
use Rattle.std.proofs.lemmas.List.Sums.{sum_by-cons}
use Rattle.crush_units.specs.declared.alg.Alg.TheVariants.{Straw2}
use Rattle.crush_units.specs.declared.id.ItemId.TheVariants.{Device, Bucket}
use Rattle.crush_units.specs.declared.limits.TheConstants.{DEVICE_IDS, FARTHEST_BUCKET_ID, HEAVIEST_BUCKET, HEAVIEST_MAP, MOST_BUCKETS, MOST_DEVICES}
use Rattle.crush_units.specs.Id.{same_id}
use Rattle.crush_units.proofs.Ids.{same_id_equal, same_id_refl}
use Rattle.crush_model.specs.Items.{LeafData, HeaderData, Items, none, device, bucket}
use Rattle.crush_model.specs.ItemRows.{rows, device_row, bucket_row}
use Rattle.crush_model.specs.Table.{Row, row_of, parent_of, is_there, sum_below, summed_weight, total, is_device, is_bucket, device_count, bucket_count, used_ids}
use Rattle.crush_model.specs.Lawful.{is_over, is_too_heavy, has_too_many}
use Rattle.crush_model.specs.Tested.{are_apart, is_row, parent_is_there, is_loop, table_tests}
use Rattle.crush_model.proofs.Reorder.{one_if, sum_by-map}
use Rattle.crush_model.proofs.Found.{Distinct}
use Rattle.crush_model.proofs.Sums.{below, sum_below-rows}
use Rattle.crush_model.proofs.Tested.{apart_once}
use Rattle.crush_model.proofs.Weighs.{none_over}
use Rattle.crush_model.proofs.Numbered.{numbered, are_apart-numbered, letters, is_name-lettered, letters_differ}
use Rattle.crush_model.proofs.TooMany.{numbers_differ, root_or_rest, nothing_above}
use Rattle.crush_model.proofs.Unlawful.{all_but}

-- a root of two devices of 1073741824 units: MOST_BUCKETS such roots weigh one unit more than a map may
abbrev root : ℕ → HeaderData
root n = record { id = suc n; kind = 1; name = 97 ∷ letters n; alg = Straw2; class_ids = [] }

abbrev left : ℕ → LeafData
left n = record { id = n + n; name = 98 ∷ letters n; weight = 1073741824; class = None }

abbrev right : ℕ → LeafData
right n = record { id = suc (n + n); name = 99 ∷ letters n; weight = 1073741824; class = None }

-- n such roots, and their rows
unfoldable pub roots : ℕ → Items
roots zero = none
roots (suc n) = bucket (root n) 0 0 (device (left n) (device (right n) none)) (roots n)

abbrev pub heavy_rows : ℕ → List Row
heavy_rows n = rows None (roots n)

-- ids
no_such_bucket : (n b : ℕ) → n < b → list_any (same_id (Bucket b)) (map (λ (r : Row). r.id) (heavy_rows n)) ≡ false
unfolding roots
no_such_bucket zero b h = refl
no_such_bucket (suc n) b h = λ i. numbers_differ b (suc n) h i || no_such_bucket n b (omega arith) i

no_such_device : (n d : ℕ) → n + n ≤ d → list_any (same_id (Device d)) (map (λ (r : Row). r.id) (heavy_rows n)) ≡ false
unfolding roots
no_such_device zero d h = refl
no_such_device (suc n) d h = λ i. numbers_differ d (n + n) (omega arith) i || (numbers_differ d (suc (n + n)) (omega arith) i || no_such_device n d (omega arith) i)

ids_apart : (n : ℕ) → are_apart same_id (map (λ (r : Row). r.id) (heavy_rows n)) ≡ true
unfolding roots
ids_apart zero = refl
ids_apart (suc n) =
    let not_next : (n + n == suc (n + n)) ≡ false = ne_eqb (n + n) (suc (n + n)) (λ e. omega (arith, e)) in
    λ i. not (no_such_bucket n (suc n) (omega arith) i) && (not (not_next i || no_such_device n (n + n) (omega arith) i) && (not (no_such_device n (suc (n + n)) (omega arith) i) && ids_apart n i))

ids_distinct : (n : ℕ) → Distinct (heavy_rows n)
ids_distinct n i = subst (λ k. k ≤ 1) (sum_by-map (λ j. one_if (same_id j i)) (λ (r : Row). r.id) (heavy_rows n)) (apart_once same_id same_id_equal same_id_refl (map (λ (r : Row). r.id) (heavy_rows n)) (ids_apart n) i)

-- names
and_false : (b : Bool) → (b && false) ≡ false
and_false true = refl
and_false false = refl

no_such_name : (c n m : ℕ) → n ≤ m → m < 456976 → list_any (bytes_eq (c ∷ letters m)) (map (λ (r : Row). r.name) (heavy_rows n)) ≡ false
unfolding roots
no_such_name c zero m h l = refl
no_such_name c (suc n) m h l =
    let differ : (a : ℕ) → bytes_eq (c ∷ letters m) (a ∷ letters n) ≡ false = λ a. (λ i. (c == a) && letters_differ m n l h i) ∙ and_false (c == a) in
    λ i. differ 97 i || (differ 98 i || (differ 99 i || no_such_name c n m (omega arith) l i))

names_apart : (n : ℕ) → n ≤ 456976 → are_apart bytes_eq (map (λ (r : Row). r.name) (heavy_rows n)) ≡ true
unfolding roots
names_apart zero h = refl
names_apart (suc n) h =
    let none_before : (c : ℕ) → list_any (bytes_eq (c ∷ letters n)) (map (λ (r : Row). r.name) (heavy_rows n)) ≡ false = λ c. no_such_name c n n (omega arith) (omega arith) in
    λ i. not (none_before 97 i) && (not (none_before 98 i) && (not (none_before 99 i) && names_apart n (omega arith) i))

roots_use_ids : (n : ℕ) → used_ids (heavy_rows n) ≡ numbered suc n
unfolding roots numbered
roots_use_ids zero = refl
roots_use_ids (suc n) = ap (λ ids. suc n ∷ ids) (roots_use_ids n)

-- rows
root_is_row : (n : ℕ) → n < 456976 → is_row (bucket_row None (root n)) ≡ true
root_is_row n h =
    let some : nat_lt 0 (suc n) ≡ true = lt-ltb 0 (suc n) (omega arith) in
    let most : nat_le (suc n) FARTHEST_BUCKET_ID ≡ true = le-leb (suc n) FARTHEST_BUCKET_ID (omega arith) in
    λ i. is_name-lettered 97 n refl i && ((some i && (most i && true)) && true)

left_is_row : (n : ℕ) → n < 456976 → is_row (device_row (Some (suc n)) (left n)) ≡ true
left_is_row n h =
    let id : nat_lt (n + n) DEVICE_IDS ≡ true = lt-ltb (n + n) DEVICE_IDS (omega arith) in
    λ i. is_name-lettered 98 n refl i && ((id i && true) && true)

right_is_row : (n : ℕ) → n < 456976 → is_row (device_row (Some (suc n)) (right n)) ≡ true
right_is_row n h =
    let id : nat_lt (suc (n + n)) DEVICE_IDS ≡ true = lt-ltb (suc (n + n)) DEVICE_IDS (omega arith) in
    λ i. is_name-lettered 99 n refl i && ((id i && true) && true)

all_are_rows : (n : ℕ) → n ≤ 456976 → list_all is_row (heavy_rows n) ≡ true
unfolding roots
all_are_rows zero h = refl
all_are_rows (suc n) h = λ i. root_is_row n (omega arith) i && (left_is_row n (omega arith) i && (right_is_row n (omega arith) i && all_are_rows n (omega arith) i))

-- parents, and nothing is above a root
root_is_there : (n k : ℕ) → k < n → is_there (heavy_rows n) (Bucket (suc k)) ≡ true
unfolding roots
root_is_there zero k h = absurd (omega arith)
root_is_there (suc n) k h = ⊎_elim
    (λ p. ap (λ z. is_some (if z then Some (bucket_row None (root n)) else row_of (heavy_rows n) (Bucket (suc k)))) p.0)
    (λ p. ap (λ z. is_some (if z then Some (bucket_row None (root n)) else row_of (heavy_rows n) (Bucket (suc k)))) p.0 ∙ root_is_there n k (before n k h p.1))
    (eqb_tells (suc n) (suc k)) where
      before : (n k : ℕ) → k < suc n → (suc n ≡ suc k → ⊥) → k < n
      before n k h e = grind (arith, e)

parents_are_there : (m n : ℕ) → n ≤ m → list_all (λ (r : Row). parent_is_there (heavy_rows m) r.parent) (heavy_rows n) ≡ true
unfolding roots
parents_are_there m zero h = refl
parents_are_there m (suc n) h = λ i. root_is_there m n h i && (root_is_there m n h i && parents_are_there m n (omega arith) i)

no_parent : (n b : ℕ) → parent_of (heavy_rows n) (Bucket b) ≡ None
unfolding roots
no_parent zero b = refl
no_parent (suc n) b = root_or_rest (suc n == b) (bucket_row None (root n)) (row_of (heavy_rows n) (Bucket b)) refl (no_parent n b)

no_loops : (m n : ℕ) → list_any (λ (r : Row). is_loop (heavy_rows m) r.id) (heavy_rows n) ≡ false
unfolding roots
no_loops m zero = refl
no_loops m (suc n) = λ i. nothing_above (heavy_rows m) (suc n) (Bucket (suc n)) (no_parent m (suc n)) i || no_loops m n i

-- sums and total
nothing_in_another : (n b : ℕ) → n < b → below b (roots n) ≡ 0
unfolding roots
nothing_in_another zero b h = refl
nothing_in_another (suc n) b h =
    let other : (suc n == b) ≡ false = ne_eqb (suc n) b (λ e. omega (arith, e)) in
    λ i. (if other i then 2147483648 else 0) + nothing_in_another n b (omega arith) i

two_devices_at_most : (n b : ℕ) → below b (roots n) ≤ 2147483648
unfolding roots
two_devices_at_most zero b = omega arith
two_devices_at_most (suc n) b = ⊎_elim
    (λ p. let both : ◌≡◌ {A = ℕ} (if suc n == b then 2147483648 else 0) 2147483648 = ap (λ z. if z then 2147483648 else 0) p.0 in omega (arith, both, nothing_in_another n b (omega (arith, p.1))))
    (λ p. let neither : ◌≡◌ {A = ℕ} (if suc n == b then 2147483648 else 0) 0 = ap (λ z. if z then 2147483648 else 0) p.0 in omega (arith, neither, two_devices_at_most n b))
    (eqb_tells (suc n) b)

sums_in_range : (n b : ℕ) → sum_below (heavy_rows n) b ≤ HEAVIEST_BUCKET
sums_in_range n b = omega (arith, sum_below-rows (roots n) b (ids_distinct n), two_devices_at_most n b)

-- what each root and each of its devices adds
rows_add : (f : Row → ℕ) (w v : ℕ) → ((k : ℕ) → f (bucket_row None (root k)) ≡ w) → ((k : ℕ) → f (device_row (Some (suc k)) (left k)) ≡ v) → ((k : ℕ) → f (device_row (Some (suc k)) (right k)) ≡ v) → (n : ℕ) → sum_by f (heavy_rows n) ≡ n * (w + (v + v))
unfolding roots
rows_add f w v p q r zero = omega arith
rows_add f w v p q r (suc n) =
    let a = bucket_row None (root n) in
    let b = device_row (Some (suc n)) (left n) in
    let c = device_row (Some (suc n)) (right n) in
    omega (arith, sum_by-cons f a (b ∷ (c ∷ heavy_rows n)), sum_by-cons f b (c ∷ heavy_rows n), sum_by-cons f c (heavy_rows n), p n, q n, r n, rows_add f w v p q r n, one_more n (w + (v + v))) where
      one_more : (n x : ℕ) → x + n * x ≡ suc n * x
      one_more n x = omega arith

total_weighs : (n : ℕ) → total (heavy_rows n) ≡ n * 2147483648
total_weighs = rows_add (λ r. if is_some r.parent then summed_weight r else 0) 0 1073741824 (λ k. refl) (λ k. refl) (λ k. refl)

total_is_over : (n : ℕ) → is_too_heavy (heavy_rows n) ≡ nat_lt HEAVIEST_MAP (n * 2147483648)
total_is_over n = λ i. none_over (heavy_rows n) (sums_in_range n) (heavy_rows n) i || nat_lt HEAVIEST_MAP (total_weighs n i)

rows_have_room : (n : ℕ) → n ≤ MOST_BUCKETS → has_too_many (heavy_rows n) ≡ false
rows_have_room n h =
    let devices : device_count (heavy_rows n) ≡ n * 2 = rows_add (λ r. one_if (is_device r)) 0 1 (λ k. refl) (λ k. refl) (λ k. refl) n in
    let buckets : bucket_count (heavy_rows n) ≡ n * 1 = rows_add (λ r. one_if (is_bucket r)) 1 0 (λ k. refl) (λ k. refl) (λ k. refl) n in
    λ i. le-ltb MOST_DEVICES (device_count (heavy_rows n)) (omega (arith, devices)) i || le-ltb MOST_BUCKETS (bucket_count (heavy_rows n)) (omega (arith, buckets)) i

-- each test except for that of sums and total holds; of these two, the total fails
many_roots : (n : ℕ) → n ≤ MOST_BUCKETS → table_tests (heavy_rows n) ≡ replicate 6 true ++ not (nat_lt HEAVIEST_MAP (n * 2147483648)) ∷ (true ∷ [])
many_roots n h =
    let used : are_apart (λ a b. a == b) (used_ids (heavy_rows n)) ≡ true =
    ap (are_apart (λ a b. a == b)) (roots_use_ids n) ∙ are_apart-numbered suc (λ a b. a == b) n (λ m k l e. numbers_differ (suc m) (suc k) (omega arith)) in
    λ i. ids_apart n i ∷ (names_apart n (omega arith) i ∷ (used i ∷ (all_are_rows n (omega arith) i ∷ (parents_are_there n n (omega arith) i ∷ (not (no_loops n n i) ∷ (not (total_is_over n i) ∷ (not (rows_have_room n h i) ∷ [])))))))

-- with one fewer of these roots than the greatest number of buckets, the total is in range; with one more, it is out of range by one unit, and no sum is
heavy_total : table_tests (heavy_rows (MOST_BUCKETS - 1)) ≡ replicate 8 true
heavy_total = many_roots (MOST_BUCKETS - 1) (omega arith)

total_too_heavy : table_tests (heavy_rows MOST_BUCKETS) ≡ all_but 6 1
total_too_heavy = many_roots MOST_BUCKETS (omega arith)

one_unit_too_heavy : total (heavy_rows MOST_BUCKETS) ≡ HEAVIEST_MAP + 1
one_unit_too_heavy = total_weighs MOST_BUCKETS

no_sum_too_heavy : list_any (λ (r : Row). is_over (heavy_rows MOST_BUCKETS) r.id) (heavy_rows MOST_BUCKETS) ≡ false
no_sum_too_heavy = none_over (heavy_rows MOST_BUCKETS) (sums_in_range MOST_BUCKETS) (heavy_rows MOST_BUCKETS)

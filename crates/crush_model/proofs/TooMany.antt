-- Tables of up to 456,976 devices or buckets that are lawful except for this number. With one device or bucket too many, no other condition is broken.
use Rattle.std.proofs.Common.{◌≡◌, ℕ, zero, suc, ◌+◌, ◌≤◌, ◌<◌, Bool, true, false, List, [], ◌∷◌, ◌++◌, ap, ◌∙◌, refl, arith}
use Rattle.std.specs.Prelude.{Option, Some, None, replicate, nat_lt, nat_le, not, ◌==◌, ◌||◌, ◌&&◌, map, bytes_eq, length, option_and_then, is_some, if◌then◌else◌}
use Rattle.std.specs.List.{list_any, list_all}
use Rattle.std.proofs.lemmas.Bool.{ne_eqb, lt-ltb, le-leb}
use Rattle.crush_units.specs.declared.id.ItemId.{ItemId}
use Rattle.crush_units.specs.declared.id.ItemId.TheVariants.{Device, Bucket}
use Rattle.crush_units.specs.declared.limits.TheConstants.{DEVICE_IDS, FARTHEST_BUCKET_ID, HEAVIEST_BUCKET, HEAVIEST_MAP, MOST_BUCKETS, MOST_DEVICES}
use Rattle.crush_units.specs.Id.{same_id}
use Rattle.crush_model.specs.Table.{Row, row_of, parent_of, then_up, climb, member, is_below, sum_below, summed_weight, total, is_device, is_bucket, device_count, bucket_count, used_ids}
use Rattle.crush_model.specs.Lawful.{is_over, is_too_heavy, has_too_many}
use Rattle.crush_model.specs.Tested.{are_apart, is_row, parent_is_there, is_loop, table_tests}
use Rattle.crush_model.proofs.Reorder.{one_if}
use Rattle.crush_model.proofs.Numbered.{numbered, map-numbered, list_all-numbered, list_any-numbered, are_apart-numbered, sum_by-numbered, letters, is_name-letters, letters_differ}
use Rattle.crush_model.proofs.Unlawful.{all_but, disk, box}

pub numbers_differ : (m n : ℕ) → n < m → (m == n) ≡ false
numbers_differ m n l = ne_eqb m n (λ e. omega (arith, e))

-- DEVICES without a parent and of weight 0
abbrev disk_at : ℕ → Row
disk_at k = disk k (letters k) None 0

abbrev pub disks : ℕ → List Row
disks n = numbered disk_at n

disks_use_nothing : (n : ℕ) → used_ids (disks n) ≡ []
unfolding numbered
disks_use_nothing zero = refl
disks_use_nothing (suc n) = disks_use_nothing n

disk_is_row : (k : ℕ) → k < 456976 → is_row (disk_at k) ≡ true
disk_is_row k h =
    let id : nat_lt k DEVICE_IDS ≡ true = lt-ltb k DEVICE_IDS (omega arith) in
    λ i. is_name-letters k i && ((id i && true) && true)

disks_weigh_nothing : (n : ℕ) → is_too_heavy (disks n) ≡ false
disks_weigh_nothing n =
    let over : list_any (λ (r : Row). is_over (disks n) r.id) (disks n) ≡ false = list_any-numbered disk_at (λ r. is_over (disks n) r.id) n (λ k l. refl) in
    let nothing : total (disks n) ≡ 0 = sum_by-numbered disk_at (λ r. if is_some r.parent then summed_weight r else 0) 0 (λ k. refl) n ∙ omega arith in
    λ i. over i || nat_lt HEAVIEST_MAP (nothing i)

disks_fill : (n : ℕ) → has_too_many (disks n) ≡ nat_lt MOST_DEVICES n
disks_fill n =
    let devices : device_count (disks n) ≡ n = sum_by-numbered disk_at (λ r. one_if (is_device r)) 1 (λ k. refl) n ∙ omega arith in
    let none_else : bucket_count (disks n) ≡ 0 = sum_by-numbered disk_at (λ r. one_if (is_bucket r)) 0 (λ k. refl) n ∙ omega arith in
    (λ i. nat_lt MOST_DEVICES (devices i) || nat_lt MOST_BUCKETS (none_else i)) ∙ or_false (nat_lt MOST_DEVICES n) where
      or_false : (b : Bool) → (b || false) ≡ b
      or_false true = refl
      or_false false = refl

-- each test except for that of counts holds
many_disks : (n : ℕ) → n ≤ 456976 → table_tests (disks n) ≡ replicate 7 true ++ not (nat_lt MOST_DEVICES n) ∷ []
many_disks n h =
    let ids : are_apart same_id (map (λ (r : Row). r.id) (disks n)) ≡ true =
    ap (are_apart same_id) (map-numbered disk_at (λ r. r.id) n) ∙ are_apart-numbered (λ k. Device k) same_id n (λ m k l e. numbers_differ m k l) in
    let names : are_apart bytes_eq (map (λ (r : Row). r.name) (disks n)) ≡ true =
    ap (are_apart bytes_eq) (map-numbered disk_at (λ r. r.name) n) ∙ are_apart-numbered letters bytes_eq n (λ m k l e. letters_differ m k (omega arith) l) in
    let rows : list_all is_row (disks n) ≡ true = list_all-numbered disk_at is_row n (λ k l. disk_is_row k (omega arith)) in
    let parents : list_all (λ (r : Row). parent_is_there (disks n) r.parent) (disks n) ≡ true = list_all-numbered disk_at (λ r. parent_is_there (disks n) r.parent) n (λ k l. refl) in
    let loops : list_any (λ (r : Row). is_loop (disks n) r.id) (disks n) ≡ false = list_any-numbered disk_at (λ r. is_loop (disks n) r.id) n (λ k l. refl) in
    λ i. ids i ∷ (names i ∷ (are_apart (λ a b. a == b) (disks_use_nothing n i) ∷ (rows i ∷ (parents i ∷ (not (loops i) ∷ (not (disks_weigh_nothing n i) ∷ (not (disks_fill n i) ∷ [])))))))

most_devices : table_tests (disks MOST_DEVICES) ≡ replicate 8 true
most_devices = many_disks MOST_DEVICES (omega arith)

devices_too_many : table_tests (disks (MOST_DEVICES + 1)) ≡ all_but 7 0
devices_too_many = many_disks (MOST_DEVICES + 1) (omega arith)

-- BUCKETS that are roots without items
abbrev box_at : ℕ → Row
box_at k = box (suc k) (letters k) None []

abbrev pub boxes : ℕ → List Row
boxes n = numbered box_at n

boxes_use_ids : (n : ℕ) → used_ids (boxes n) ≡ numbered suc n
unfolding numbered
boxes_use_ids zero = refl
boxes_use_ids (suc n) = ap (λ ids. suc n ∷ ids) (boxes_use_ids n)

box_is_row : (k : ℕ) → k < 456976 → is_row (box_at k) ≡ true
box_is_row k h =
    let some : nat_lt 0 (suc k) ≡ true = lt-ltb 0 (suc k) (omega arith) in
    let most : nat_le (suc k) FARTHEST_BUCKET_ID ≡ true = le-leb (suc k) FARTHEST_BUCKET_ID (omega arith) in
    λ i. is_name-letters k i && ((some i && (most i && true)) && true)

-- if no row has a parent, no row is below another
pub root_or_rest : (c : Bool) (r : Row) (o : Option Row) → r.parent ≡ None → option_and_then (λ (x : Row). x.parent) o ≡ None → option_and_then (λ (x : Row). x.parent) (if c then Some r else o) ≡ None
root_or_rest true r o h g = h
root_or_rest false r o h g = g

pub nothing_above : (t : List Row) (b : ℕ) (i : ItemId) → parent_of t i ≡ None → is_below t b i ≡ false
nothing_above t b i h = ap (member b) (no_step (length t)) where
  no_step : (m : ℕ) → climb t m i ≡ []
  no_step zero = refl
  no_step (suc m) = ap (λ o. then_up o (λ p. climb t m (Bucket p))) h

boxes_are_roots : (n : ℕ) (i : ItemId) → parent_of (boxes n) i ≡ None
unfolding numbered
boxes_are_roots zero i = refl
boxes_are_roots (suc n) i = root_or_rest (same_id (Bucket (suc n)) i) (box_at n) (row_of (boxes n) i) refl (boxes_are_roots n i)

nothing_below_a_box : (n b : ℕ) (i : ItemId) → is_below (boxes n) b i ≡ false
nothing_below_a_box n b i = nothing_above (boxes n) b i (boxes_are_roots n i)

boxes_weigh_nothing : (n : ℕ) → is_too_heavy (boxes n) ≡ false
boxes_weigh_nothing n =
    let sum : (b : ℕ) → sum_below (boxes n) b ≡ 0 =
    λ b. sum_by-numbered box_at (λ r. if is_below (boxes n) b r.id then summed_weight r else 0) 0 (λ k i. if nothing_below_a_box n b (Bucket (suc k)) i then 0 else 0) n ∙ omega arith in
    let over : list_any (λ (r : Row). is_over (boxes n) r.id) (boxes n) ≡ false = list_any-numbered box_at (λ r. is_over (boxes n) r.id) n (λ k l i. nat_lt HEAVIEST_BUCKET (sum (suc k) i)) in
    let nothing : total (boxes n) ≡ 0 = sum_by-numbered box_at (λ r. if is_some r.parent then summed_weight r else 0) 0 (λ k. refl) n ∙ omega arith in
    λ i. over i || nat_lt HEAVIEST_MAP (nothing i)

boxes_fill : (n : ℕ) → has_too_many (boxes n) ≡ nat_lt MOST_BUCKETS n
boxes_fill n =
    let none_else : device_count (boxes n) ≡ 0 = sum_by-numbered box_at (λ r. one_if (is_device r)) 0 (λ k. refl) n ∙ omega arith in
    let buckets : bucket_count (boxes n) ≡ n = sum_by-numbered box_at (λ r. one_if (is_bucket r)) 1 (λ k. refl) n ∙ omega arith in
    λ i. nat_lt MOST_DEVICES (none_else i) || nat_lt MOST_BUCKETS (buckets i)

-- each test except for that of counts holds
many_boxes : (n : ℕ) → n ≤ 456976 → table_tests (boxes n) ≡ replicate 7 true ++ not (nat_lt MOST_BUCKETS n) ∷ []
many_boxes n h =
    let ids : are_apart same_id (map (λ (r : Row). r.id) (boxes n)) ≡ true =
    ap (are_apart same_id) (map-numbered box_at (λ r. r.id) n) ∙ are_apart-numbered (λ k. Bucket (suc k)) same_id n (λ m k l e. numbers_differ (suc m) (suc k) (omega arith)) in
    let names : are_apart bytes_eq (map (λ (r : Row). r.name) (boxes n)) ≡ true =
    ap (are_apart bytes_eq) (map-numbered box_at (λ r. r.name) n) ∙ are_apart-numbered letters bytes_eq n (λ m k l e. letters_differ m k (omega arith) l) in
    let used : are_apart (λ a b. a == b) (used_ids (boxes n)) ≡ true =
    ap (are_apart (λ a b. a == b)) (boxes_use_ids n) ∙ are_apart-numbered suc (λ a b. a == b) n (λ m k l e. numbers_differ (suc m) (suc k) (omega arith)) in
    let rows : list_all is_row (boxes n) ≡ true = list_all-numbered box_at is_row n (λ k l. box_is_row k (omega arith)) in
    let parents : list_all (λ (r : Row). parent_is_there (boxes n) r.parent) (boxes n) ≡ true = list_all-numbered box_at (λ r. parent_is_there (boxes n) r.parent) n (λ k l. refl) in
    let loops : list_any (λ (r : Row). is_loop (boxes n) r.id) (boxes n) ≡ false = list_any-numbered box_at (λ r. is_loop (boxes n) r.id) n (λ k l. nothing_below_a_box n (suc k) (Bucket (suc k))) in
    λ i. ids i ∷ (names i ∷ (used i ∷ (rows i ∷ (parents i ∷ (not (loops i) ∷ (not (boxes_weigh_nothing n i) ∷ (not (boxes_fill n i) ∷ [])))))))

most_buckets : table_tests (boxes MOST_BUCKETS) ≡ replicate 8 true
most_buckets = many_boxes MOST_BUCKETS (omega arith)

buckets_too_many : table_tests (boxes (MOST_BUCKETS + 1)) ≡ all_but 7 0
buckets_too_many = many_boxes (MOST_BUCKETS + 1) (omega arith)

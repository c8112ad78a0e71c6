-- Lemmas about a new item: a device without a class, or an empty bucket, whose id and name aren't used yet.
use Rattle.std.proofs.Common.{◌≡◌, ℕ, ◌+◌, ◌<◌, ◌≤◌, Bool, true, false, not, List, [], ◌∷◌, ◌++◌, refl, ap, sym, subst, ◌∙◌, arith}
use Rattle.std.proofs.lemmas.Bool.Decides.{nat_tests}
use Rattle.std.proofs.lemmas.List.Sums.{sum_by_push}
use Rattle.std.proofs.lemmas.List.Elements.{All-nil, All-cons}
use Rattle.std.specs.Prelude.{Option, Some, None, IfSome, nat_lt, ◌||◌, bytes_eq}
use Rattle.std.specs.List.{count_by}
use Rattle.crush_units.specs.Id.{same_id}
use Rattle.crush_units.specs.Name.{IsName}
use Rattle.crush_units.specs.declared.alg.Alg.TheVariants.{Straw2}
use Rattle.crush_units.specs.declared.id.ItemId.TheVariants.{Device, Bucket}
use Rattle.crush_units.specs.declared.limits.TheConstants.{DEVICE_IDS, FARTHEST_BUCKET_ID, HEAVIEST_DEVICE, LAST_TYPE, MOST_BUCKETS, MOST_DEVICES}
use Rattle.crush_model.specs.Count.{one_if}
use Rattle.crush_model.specs.ItemRows.{device_row, bucket_row, rows}
use Rattle.crush_model.specs.Items.{LeafData, HeaderData, ShadowData, Items, none, device, bucket}
use Rattle.crush_model.specs.Lawful.{IsRow, IsShadowId, Lawful, has_too_many, is_too_heavy}
use Rattle.crush_model.specs.Stored.{weight_sum}
use Rattle.crush_model.specs.Table.{Row, member, used_ids, is_device, is_bucket, is_there, is_named, device_count, bucket_count}
use Rattle.crush_model.proofs.Appended.{Lawful-push_device, Lawful-push_bucket, times_used-push}
use Rattle.crush_model.proofs.Attached.{Lawful-attach}
use Rattle.crush_model.proofs.Found.{Distinct, DistinctNames}
use Rattle.crush_model.proofs.Same.{times_used}
use Rattle.crush_nodes.specs.Ops.{CanCome}
use Rattle.crush_nodes.specs.declared.place.Place.TheVariants.{Bucket as AtBucket}
use Rattle.crush_map_tests.proofs.Passed.{passed}

not_less : (m n : ℕ) → n ≤ m → nat_lt m n ≡ false
not_less m n h = grind (arith, nat_tests)

-- ROOM: the table may have one more row
device_room : (t : List Row) (r : Row) → Lawful t → is_device r ≡ true → is_bucket r ≡ false → device_count t < MOST_DEVICES → has_too_many (t ++ r ∷ []) ≡ false
device_room t r l dev buck few =
    let one : one_if (is_device r) ≡ 1 = ap one_if dev in
    let no : one_if (is_bucket r) ≡ 0 = ap one_if buck in
    let devices : nat_lt MOST_DEVICES (device_count (t ++ r ∷ [])) ≡ false = not_less MOST_DEVICES (device_count (t ++ r ∷ [])) (omega (arith, one, few, sum_by_push (λ (x : Row). one_if (is_device x)) t r)) in
    let buckets : nat_lt MOST_BUCKETS (bucket_count (t ++ r ∷ [])) ≡ false = not_less MOST_BUCKETS (bucket_count (t ++ r ∷ [])) (omega (arith, no, l.buckets, sum_by_push (λ (x : Row). one_if (is_bucket x)) t r)) in
    λ i. devices i || buckets i

bucket_room : (t : List Row) (r : Row) → Lawful t → is_device r ≡ false → is_bucket r ≡ true → bucket_count t < MOST_BUCKETS → has_too_many (t ++ r ∷ []) ≡ false
bucket_room t r l dev buck few =
    let no : one_if (is_device r) ≡ 0 = ap one_if dev in
    let one : one_if (is_bucket r) ≡ 1 = ap one_if buck in
    let devices : nat_lt MOST_DEVICES (device_count (t ++ r ∷ [])) ≡ false = not_less MOST_DEVICES (device_count (t ++ r ∷ [])) (omega (arith, no, l.devices, sum_by_push (λ (x : Row). one_if (is_device x)) t r)) in
    let buckets : nat_lt MOST_BUCKETS (bucket_count (t ++ r ∷ [])) ≡ false = not_less MOST_BUCKETS (bucket_count (t ++ r ∷ [])) (omega (arith, one, few, sum_by_push (λ (x : Row). one_if (is_bucket x)) t r)) in
    λ i. devices i || buckets i

-- a row in a bucket is new if the same row, as a root without weight, is new
abbrev alone : Row → Row
alone r = record r { parent = None; weight = 0 }

module _ (t : List Row) (r : Row) (l : Lawful (t ++ alone r ∷ [])) where
  ids_apart : Distinct (t ++ r ∷ [])
  ids_apart i = subst (λ n. n ≤ 1) (sum_by_push (λ (x : Row). one_if (same_id x.id i)) t (alone r) ∙ sym (sum_by_push (λ (x : Row). one_if (same_id x.id i)) t r)) (l.ids i)

  names_apart : DistinctNames (t ++ r ∷ [])
  names_apart n = subst (λ k. k ≤ 1) (sum_by_push (λ (x : Row). one_if (bytes_eq x.name n)) t (alone r) ∙ sym (sum_by_push (λ (x : Row). one_if (bytes_eq x.name n)) t r)) (l.names n)

  uses_apart : (k : ℕ) → times_used k (t ++ r ∷ []) ≤ 1
  uses_apart k = subst (λ n. n ≤ 1) (times_used-push k t (alone r) ∙ sym (times_used-push k t r)) (l.used k)

-- the test whether sums of weights stay in range, which the items n pass
abbrev Passes : List Row → ℕ → ℕ → Type 0
Passes t b w = (n : Items) → weight_sum n ≡ w → CanCome t (AtBucket b) n → true ≡ not (is_too_heavy (t ++ rows (Some b) n))

-- A DEVICE that is new
abbrev pub new_leaf : ℕ → List ℕ → ℕ → LeafData
new_leaf d n w = record { id = d; name = n; weight = w; class = None }

module _ (t : List Row) (l : Lawful t) (d : ℕ) (n : List ℕ) (small : d < DEVICE_IDS) (form : IsName n) (fresh : is_there t (Device d) ≡ false) (new : is_named t n ≡ false) (few : device_count t < MOST_DEVICES) where
  pub unplaced_lawful : Lawful (t ++ rows None (device (new_leaf d n 0) none))
  unplaced_lawful =
      let r : Row = device_row None (new_leaf d n 0) in
      Lawful-push_device t d r refl l (record { name = form; form = record { id = small; kind = refl; light = omega arith; unplaced = λ _. refl; alg = refl; class_ids = refl; class = tt } }) refl fresh new (device_room t r l refl refl few)

  pub device_lawful : (b w : ℕ) → is_there t (Bucket b) ≡ true → w ≤ HEAVIEST_DEVICE → Passes t b w → Lawful (t ++ rows (Some b) (device (new_leaf d n w) none))
  device_lawful b w there light test =
      let m : Items = device (new_leaf d n w) none in
      let r : Row = device_row (Some b) (new_leaf d n w) in
      let apart : Distinct (t ++ r ∷ []) = ids_apart t r unplaced_lawful in
      let can : CanCome t (AtBucket b) m = record { sums = tt; small = tt; kind = tt; apart = apart } in
      Lawful-attach t (Some b) m l there (All-cons IsRow r [] (record { name = form; form = record { id = small; kind = refl; light = light; unplaced = λ e. absurd cc; alg = refl; class_ids = refl; class = tt } }) (All-nil IsRow))
      apart (names_apart t r unplaced_lawful) (uses_apart t r unplaced_lawful) (passed (is_too_heavy (t ++ r ∷ [])) (test m (omega arith) can)) (device_room t r l refl refl few)

-- AN EMPTY BUCKET that is new
abbrev pub new_header : ℕ → ℕ → List ℕ → HeaderData
new_header b k n = record { id = b; kind = k; name = n; alg = Straw2; class_ids = [] }

module _ (t : List Row) (l : Lawful t) (b k : ℕ) (n : List ℕ) (some : 0 < b) (most : b ≤ FARTHEST_BUCKET_ID) (kind_some : 0 < k) (kind_most : k ≤ LAST_TYPE) (form : IsName n) (unused : member b (used_ids t) ≡ false) (new : is_named t n ≡ false) (few : bucket_count t < MOST_BUCKETS) where
  formed : (p : Option ℕ) → IsRow (bucket_row p (new_header b k n))
  formed p = record {
    name = form;
    form = record {
      some = some;
      most = most;
      kind_some = kind_some;
      kind_most = kind_most;
      weight = refl;
      class = refl;
      alg = λ e. cc;
      class_ids = All-nil IsShadowId;
      few = omega arith;
      classes = λ c. omega arith;
    };
  }

  pub root_lawful : Lawful (t ++ rows None (bucket (new_header b k n) 0 1 none none))
  root_lawful =
      let r : Row = bucket_row None (new_header b k n) in
      Lawful-push_bucket t b r refl refl l (formed None) refl unused new (bucket_room t r l refl refl few)

  pub bucket_lawful : (p : ℕ) → is_there t (Bucket p) ≡ true → Passes t p 0 → Lawful (t ++ rows (Some p) (bucket (new_header b k n) 0 1 none none))
  bucket_lawful p there test =
      let m : Items = bucket (new_header b k n) 0 1 none none in
      let r : Row = bucket_row (Some p) (new_header b k n) in
      let apart : Distinct (t ++ r ∷ []) = ids_apart t r root_lawful in
      let can : CanCome t (AtBucket p) m = record { sums = (refl, tt, tt); small = (omega arith, tt, tt); kind = tt; apart = apart } in
      Lawful-attach t (Some p) m l there (All-cons IsRow r [] (formed (Some p)) (All-nil IsRow))
      apart (names_apart t r root_lawful) (uses_apart t r root_lawful) (passed (is_too_heavy (t ++ r ∷ [])) (test m refl can)) (bucket_room t r l refl refl few)

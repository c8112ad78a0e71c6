-- The order of the printed buckets: each bucket of the table is in it once, after the buckets among its items.
use Rattle.std.proofs.Common.{◌≡◌, ℕ, zero, suc, ◌+◌, ◌≤◌, Bool, true, false, List, [], ◌∷◌, ◌++◌, length, Option, Some, None, refl, sym, ap, subst, ◌∙◌, arith, eq-eqb, ⊎_elim}
use Rattle.std.proofs.lemmas.List.Sums.{sum_by-cons, sum_by-append}
use Rattle.std.proofs.lemmas.Bool.Decides.{eqb_tells}
use Rattle.std.proofs.lemmas.List.Elements.{All-head, All-tail}
use Rattle.std.specs.Prelude.{All, ◌||◌, IfSome, flat_map, not, ◌==◌, is_some, option_and_then, if◌then◌else◌}
use Rattle.std.specs.List.{sum_by}
use Rattle.crush_units.specs.declared.id.ItemId.{ItemId}
use Rattle.crush_units.specs.declared.id.ItemId.TheVariants.{Device, Bucket}
use Rattle.crush_units.specs.Id.{same_id}
use Rattle.crush_units.proofs.Ids.{same_id_tells}
use Rattle.crush_model.specs.Lawful.{Lawful}
use Rattle.crush_model.specs.Table.{Row, row_of, is_there, parent_of, then_up, climb, above, kids, bucket_ids}
use Rattle.crush_model.specs.Count.{one_if}
use Rattle.crush_model.proofs.Reorder.{sum_by-flat_map}
use Rattle.crush_model.proofs.Found.{times as rows_of_id, times-cons}
use Rattle.crush_model.proofs.Climbs.{above-parent, times_in, member-times_in, parent_there, climb_there, sum_by-plus, sum_by-zero, sum_by-most, met_rows, times_in_once, above_once}
use Rattle.crush_model.proofs.KidSums.{sum_by-agree, over_kids-kids, climb_kids}
use Rattle.crush_model.proofs.Relocated.{All-kids}
use Rattle.crush_print.specs.MapText.{root_number, root_numbers, bucket_numbers_at, bucket_numbers}
use Rattle.crush_items.proofs.Sorting.{times, times-ascending}
use Rattle.crush_print.proofs.PrintedTexts.{root_order}

-- no device is among the buckets above an item
device_never : (d : ℕ) (xs : List ℕ) → times_in (Device d) xs ≡ 0
device_never d [] = refl
device_never d (x ∷ xs) = omega (arith, device_never d xs)

one_time : (j b : ℕ) → times j (b ∷ []) ≡ one_if (b == j)
one_time j b = sum_by-cons (λ x. one_if (x == j)) b [] ∙ omega arith

-- HOW OFTEN the bucket j is in the printed order of an item: once if it is this item or below it, and otherwise never
module _ (t : List Row) (l : Lawful t) (j : ℕ) where
  no_order : (i : ItemId) → times j (bucket_numbers_at t zero i) ≡ 0
  no_order (Device d) = refl
  no_order (Bucket b) = refl

  pub order_times : (m : ℕ) (i : ItemId) → times j (bucket_numbers_at t (suc m) i) ≡ one_if (same_id i (Bucket j)) + times_in i (climb t m (Bucket j))
  order_times m (Device d) = omega (arith, device_never d (climb t m (Bucket j)))
  order_times zero (Bucket b) =
      let none : times j (flat_map (bucket_numbers_at t zero) (kids t b)) ≡ 0 = sum_by-flat_map (λ x. one_if (x == j)) (bucket_numbers_at t zero) (kids t b) ∙ sum_by-zero (λ i. times j (bucket_numbers_at t zero i)) no_order (kids t b) in
      omega (arith, none, one_time j b, sum_by-append (λ x. one_if (x == j)) (flat_map (bucket_numbers_at t zero) (kids t b)) (b ∷ []))
  order_times (suc m) (Bucket b) =
      let below : times j (flat_map (bucket_numbers_at t (suc m)) (kids t b)) ≡ times_in (Bucket b) (climb t (suc m) (Bucket j)) =
      sum_by-flat_map (λ x. one_if (x == j)) (bucket_numbers_at t (suc m)) (kids t b)
      ∙ sum_by-agree (λ i. times j (bucket_numbers_at t (suc m) i)) (λ i. one_if (same_id i (Bucket j)) + times_in i (climb t m (Bucket j))) (order_times m) (kids t b)
      ∙ sym (over_kids-kids t b (λ k. one_if (same_id k (Bucket j)) + times_in k (climb t m (Bucket j)))) ∙ climb_kids t b l.ids m (Bucket j) in
      omega (arith, below, one_time j b, sum_by-append (λ x. one_if (x == j)) (flat_map (bucket_numbers_at t (suc m)) (kids t b)) (b ∷ []))

  -- the bucket j is in the printed order of b's items as often as b is among the buckets above j
  pub below_times : (m b : ℕ) → times j (flat_map (bucket_numbers_at t (suc m)) (kids t b)) ≡ times_in (Bucket b) (climb t (suc m) (Bucket j))
  below_times m b =
      sum_by-flat_map (λ x. one_if (x == j)) (bucket_numbers_at t (suc m)) (kids t b)
      ∙ sum_by-agree (λ i. times j (bucket_numbers_at t (suc m) i)) (λ i. one_if (same_id i (Bucket j)) + times_in i (climb t m (Bucket j))) (order_times m) (kids t b)
      ∙ sym (over_kids-kids t b (λ k. one_if (same_id k (Bucket j)) + times_in k (climb t m (Bucket j)))) ∙ climb_kids t b l.ids m (Bucket j)

-- ROOTS
own_root : (j : ℕ) (i : ItemId) (p : Bool) → times j (if p then [] else bucket_ids i) ≡ (if p then 0 else one_if (same_id i (Bucket j)))
own_root j i true = refl
own_root j (Device d) false = refl
own_root j (Bucket b) false = one_time j b

root_none : (j : ℕ) (t : List Row) → rows_of_id (Bucket j) t ≡ 0 → times j (flat_map root_number t) ≡ 0
root_none j [] h = refl
root_none j (r ∷ t) h =
    let gone : one_if (same_id r.id (Bucket j)) ≡ 0 = omega (arith, h, times-cons (Bucket j) r t) in
    let own : times j (root_number r) ≡ 0 = own_root j r.id (is_some r.parent) ∙ (λ k. if is_some r.parent then 0 else gone k) ∙ nothing (is_some r.parent) in
    omega (arith, own, root_none j t (omega (arith, h, times-cons (Bucket j) r t)), sum_by-append (λ x. one_if (x == j)) (root_number r) (flat_map root_number t))
  where
    nothing : (b : Bool) → ◌≡◌ {A = ℕ} (if b then 0 else 0) 0
    nothing true = refl
    nothing false = refl

abbrev root_if : Option Row → ℕ
root_if None = 0
root_if (Some r) = one_if (not (is_some r.parent))

root_once : (j : ℕ) (t : List Row) → rows_of_id (Bucket j) t ≤ 1 → times j (flat_map root_number t) ≡ root_if (row_of t (Bucket j))
root_once j [] h = refl
root_once j (r ∷ t) h = ⊎_elim
    (λ p. let one : one_if (same_id r.id (Bucket j)) ≡ 1 = ap one_if p.0 in
    let own : times j (root_number r) ≡ one_if (not (is_some r.parent)) = own_root j r.id (is_some r.parent) ∙ (λ k. if is_some r.parent then 0 else one k) ∙ turned (is_some r.parent) in
    let found : root_if (row_of (r ∷ t) (Bucket j)) ≡ one_if (not (is_some r.parent)) = ap (λ b. root_if (if b then Some r else row_of t (Bucket j))) p.0 in
    omega (arith, own, found, root_none j t (omega (arith, one, h, times-cons (Bucket j) r t)), sum_by-append (λ x. one_if (x == j)) (root_number r) (flat_map root_number t)))
    (λ p. let miss : one_if (same_id r.id (Bucket j)) ≡ 0 = ap one_if p.0 in
    let own : times j (root_number r) ≡ 0 = own_root j r.id (is_some r.parent) ∙ (λ k. if is_some r.parent then 0 else miss k) ∙ nothing (is_some r.parent) in
    let found : root_if (row_of (r ∷ t) (Bucket j)) ≡ root_if (row_of t (Bucket j)) = ap (λ b. root_if (if b then Some r else row_of t (Bucket j))) p.0 in
    omega (arith, own, found, root_once j t (omega (arith, miss, h, times-cons (Bucket j) r t)), sum_by-append (λ x. one_if (x == j)) (root_number r) (flat_map root_number t)))
    (same_id_tells r.id (Bucket j))
  where
    nothing : (b : Bool) → ◌≡◌ {A = ℕ} (if b then 0 else 0) 0
    nothing true = refl
    nothing false = refl

    turned : (b : Bool) → (if b then 0 else 1) ≡ one_if (not b)
    turned true = refl
    turned false = refl

module _ (t : List Row) (l : Lawful t) where
  root_times : (j : ℕ) → times j (root_numbers t) ≡ root_if (row_of t (Bucket j))
  unfolding root_numbers
  root_times j = times-ascending j (flat_map root_number t) ∙ root_once j t (l.ids (Bucket j))

  root_here : (o : Option Row) → option_and_then (λ (r : Row). r.parent) o ≡ None → root_if o ≡ one_if (is_some o)
  root_here None e = refl
  root_here (Some r) e = ap (λ p. one_if (not (is_some p))) e

  root_gone : (o : Option Row) (p : ℕ) → option_and_then (λ (r : Row). r.parent) o ≡ Some p → (root_if o ≡ 0) × (is_some o ≡ true)
  root_gone None p e = absurd (let no : ◌≡◌ {A = Option ℕ} None (Some p) = e in cc)
  root_gone (Some r) p e = (ap (λ q. one_if (not (is_some q))) e, refl)

  -- the number of roots at which the bucket is or below which it is: 1 if the table has the bucket
  abbrev from_roots : ℕ → ℕ → ℕ
  from_roots n j = sum_by (λ b. one_if (b == j) + times_in (Bucket b) (climb t n (Bucket j))) (root_numbers t)

  ends_here : (n j : ℕ) → parent_of t (Bucket j) ≡ None → climb t n (Bucket j) ≡ []
  ends_here zero j e = refl
  ends_here (suc n) j e = ap (λ o. then_up o (λ p. climb t n (Bucket p))) e

  from_root : (n j : ℕ) → parent_of t (Bucket j) ≡ None → from_roots n j ≡ one_if (is_there t (Bucket j))
  from_root n j e =
      sum_by-agree (λ b. one_if (b == j) + times_in (Bucket b) (climb t n (Bucket j))) (λ b. one_if (b == j)) (λ b. ap (λ xs. one_if (b == j) + times_in (Bucket b) xs) (ends_here n j e) ∙ omega arith) (root_numbers t)
      ∙ root_times j ∙ root_here (row_of t (Bucket j)) e

  parent_is_there : (j p : ℕ) → parent_of t (Bucket j) ≡ Some p → is_there t (Bucket p) ≡ true
  parent_is_there j p e = by_option (parent_of t (Bucket j)) e (parent_there t t l.parents (Bucket j))
    where
      by_option : (o : Option ℕ) → o ≡ Some p → IfSome o (λ x. is_there t (Bucket x) ≡ true) → is_there t (Bucket p) ≡ true
      by_option None e h = absurd (let no : ◌≡◌ {A = Option ℕ} None (Some p) = e in cc)
      by_option (Some x) e h = let same : x ≡ p = cc in subst (λ y. is_there t (Bucket y) ≡ true) same h

  comes_down : (n j : ℕ) → length (climb t (suc n) (Bucket j)) ≤ n → from_roots n j ≡ one_if (is_there t (Bucket j))
  comes_down zero j h = by_it (parent_of t (Bucket j)) refl
    where
      by_it : (o : Option ℕ) → parent_of t (Bucket j) ≡ o → from_roots zero j ≡ one_if (is_there t (Bucket j))
      by_it None e = from_root zero j e
      by_it (Some p) e = absurd (let long : length (then_up (Some p) (λ x. climb t zero (Bucket x))) ≤ 0 = subst (λ o. length (then_up o (λ x. climb t zero (Bucket x))) ≤ 0) e h in omega (arith, long))
  comes_down (suc m) j h = by_it (λ p k. comes_down m p k) (parent_of t (Bucket j)) refl
    where
      by_it : ((p : ℕ) → length (climb t (suc m) (Bucket p)) ≤ m → from_roots m p ≡ one_if (is_there t (Bucket p))) → (o : Option ℕ) → parent_of t (Bucket j) ≡ o → from_roots (suc m) j ≡ one_if (is_there t (Bucket j))
      by_it rest None e = from_root (suc m) j e
      by_it rest (Some p) e =
          let long : length (then_up (Some p) (λ x. climb t (suc m) (Bucket x))) ≤ suc m = subst (λ o. length (then_up o (λ x. climb t (suc m) (Bucket x))) ≤ suc m) e h in
          let gone = root_gone (row_of t (Bucket j)) p e in
          let up : climb t (suc m) (Bucket j) ≡ p ∷ climb t m (Bucket p) = ap (λ o. then_up o (λ x. climb t m (Bucket x))) e in
          let split : from_roots (suc m) j ≡ times j (root_numbers t) + from_roots m p =
          sum_by-agree (λ b. one_if (b == j) + times_in (Bucket b) (climb t (suc m) (Bucket j))) (λ b. one_if (b == j) + (one_if (b == p) + times_in (Bucket b) (climb t m (Bucket p)))) (λ b. ap (λ xs. one_if (b == j) + times_in (Bucket b) xs) up ∙ omega arith) (root_numbers t)
          ∙ sum_by-plus (λ b. one_if (b == j)) (λ b. one_if (b == p) + times_in (Bucket b) (climb t m (Bucket p))) (root_numbers t) in
          let here : one_if (is_there t (Bucket j)) ≡ 1 = ap one_if gone.1 in
          let on : one_if (is_there t (Bucket p)) ≡ 1 = ap one_if (parent_is_there j p e) in
          omega (arith, split, root_times j, gone.0, rest p (omega (arith, long)), here, on)

  -- a bucket has fewer buckets above it than the table has rows
  above_short : (b : ℕ) → is_there t (Bucket b) ≡ true → suc (length (above t (Bucket b))) ≤ length t
  above_short b there =
      let once : (r : Row) → times_in r.id (b ∷ above t (Bucket b)) ≤ 1 = λ r. times_in_once r.id (b ∷ above t (Bucket b)) each in
      omega (arith, met_rows t (b ∷ above t (Bucket b)) (there, climb_there t l.parents (length t) (Bucket b)), sum_by-most (λ (r : Row). times_in r.id (b ∷ above t (Bucket b))) once t)
    where
      each : (c : ℕ) → times_in (Bucket c) (b ∷ above t (Bucket b)) ≤ 1
      each c = ⊎_elim
          (λ p. let none : times_in (Bucket b) (above t (Bucket b)) ≡ 0 = member-times_in b (above t (Bucket b)) (l.loops b) in
          let same : times_in (Bucket c) (above t (Bucket b)) ≡ times_in (Bucket b) (above t (Bucket b)) = ap (λ x. times_in (Bucket x) (above t (Bucket b))) p.1 in
          let one : one_if (c == b) ≡ 1 = ap one_if p.0 in omega (arith, none, same, one))
          (λ p. let none : one_if (c == b) ≡ 0 = ap one_if p.0 in omega (arith, none, above_once t l (Bucket b) c))
          (eqb_tells c b)

  -- EACH BUCKET is printed once
  climb_short : (m j : ℕ) → length t ≡ suc m → length (climb t (suc m) (Bucket j)) ≤ m
  climb_short m j e = by_there (is_there t (Bucket j)) refl
    where
      climbs : climb t (suc m) (Bucket j) ≡ above t (Bucket j)
      climbs = ap (λ n. climb t n (Bucket j)) (sym e)

      absent : (o : Option Row) → is_some o ≡ false → option_and_then (λ (r : Row). r.parent) o ≡ None
      absent None h = refl
      absent (Some r) h = absurd (let no : true ≡ false = h in cc)

      by_there : (b : Bool) → is_there t (Bucket j) ≡ b → length (climb t (suc m) (Bucket j)) ≤ m
      by_there true h = omega (arith, ap length climbs, above_short j h, e)
      by_there false h = omega (arith, ap length (ends_here (suc m) j (absent (row_of t (Bucket j)) h)))

  no_rows : (j : ℕ) → length t ≡ 0 → is_there t (Bucket j) ≡ false
  no_rows j e = by_table t e
    where
      by_table : (u : List Row) → length u ≡ 0 → is_there u (Bucket j) ≡ false
      by_table [] h = refl
      by_table (r ∷ u) h = absurd (omega (arith, h))

  pub root_order-times : (j : ℕ) → times j (root_order t) ≡ one_if (is_there t (Bucket j))
  unfolding bucket_numbers
  root_order-times j = by_length (length t) refl
    where
      by_length : (n : ℕ) → length t ≡ n → times j (root_order t) ≡ one_if (is_there t (Bucket j))
      by_length zero e =
          sum_by-flat_map (λ x. one_if (x == j)) (λ b. bucket_numbers_at t (length t) (Bucket b)) (root_numbers t)
          ∙ sum_by-zero (λ b. times j (bucket_numbers_at t (length t) (Bucket b))) (λ b. ap (λ n. times j (bucket_numbers_at t n (Bucket b))) e) (root_numbers t) ∙ sym (ap one_if (no_rows j e))
      by_length (suc m) e =
          sum_by-flat_map (λ x. one_if (x == j)) (λ b. bucket_numbers_at t (length t) (Bucket b)) (root_numbers t)
          ∙ sum_by-agree (λ b. times j (bucket_numbers_at t (length t) (Bucket b))) (λ b. one_if (b == j) + times_in (Bucket b) (climb t m (Bucket j))) (λ b. ap (λ n. times j (bucket_numbers_at t n (Bucket b))) e ∙ order_times t l j m (Bucket b)) (root_numbers t)
          ∙ comes_down m j (climb_short m j e)

-- AFTER ITS ITEMS: when a bucket is printed, the buckets among its items have been printed before
abbrev pub add : (ℕ → Bool) → ℕ → ℕ → Bool
add seen b j = seen j || (b == j)

abbrev pub after : (ℕ → Bool) → List ℕ → ℕ → Bool
after seen [] j = seen j
after seen (b ∷ xs) j = after (add seen b) xs j

abbrev pub Ready : List Row → (ℕ → Bool) → List ℕ → Type 0
Ready t seen [] = Unit {0}
Ready t seen (b ∷ xs) = ((j : ℕ) → parent_of t (Bucket j) ≡ Some b → seen j ≡ true) × Ready t (add seen b) xs

or_true : (b : Bool) → (b || true) ≡ true
or_true true = refl
or_true false = refl

after_seen : (seen : ℕ → Bool) (xs : List ℕ) (j : ℕ) → seen j ≡ true → after seen xs j ≡ true
after_seen seen [] j h = h
after_seen seen (b ∷ xs) j h = after_seen (add seen b) xs j (ap (λ v. v || (b == j)) h)

after_member : (seen : ℕ → Bool) (xs : List ℕ) (j : ℕ) → 1 ≤ times j xs → after seen xs j ≡ true
after_member seen [] j h = absurd (omega (arith, h))
after_member seen (b ∷ xs) j h = by_test (b == j) refl (after_member (add seen b) xs j)
  where
    count : times j (b ∷ xs) ≡ one_if (b == j) + times j xs
    count = sum_by-cons (λ x. one_if (x == j)) b xs

    by_test : (v : Bool) → (b == j) ≡ v → (1 ≤ times j xs → after (add seen b) xs j ≡ true) → after (add seen b) xs j ≡ true
    by_test true e rest = after_seen (add seen b) xs j (ap (λ v. seen j || v) e ∙ or_true (seen j))
    by_test false e rest = let miss : one_if (b == j) ≡ 0 = ap one_if e in rest (omega (arith, h, count, miss))

ready_both : (t : List Row) (seen : ℕ → Bool) (xs ys : List ℕ) → Ready t seen xs → Ready t (after seen xs) ys → Ready t seen (xs ++ ys)
ready_both t seen [] ys h k = k
ready_both t seen (b ∷ xs) ys h k = (h.0, ready_both t (add seen b) xs ys h.1 k)

module _ (t : List Row) (l : Lawful t) where
  flat_ready : (n b : ℕ) (ks : List ItemId) → All (λ (k : ItemId). parent_of t k ≡ Some b) ks → (seen : ℕ → Bool) → ((k : ItemId) → parent_of t k ≡ Some b → (s : ℕ → Bool) → Ready t s (bucket_numbers_at t n k)) → Ready t seen (flat_map (bucket_numbers_at t n) ks)
  flat_ready n b [] a seen each = tt
  flat_ready n b (k ∷ ks) a seen each = ready_both t seen (bucket_numbers_at t n k) (flat_map (bucket_numbers_at t n) ks) (each k (All-head (λ (j : ItemId). parent_of t j ≡ Some b) k ks a) seen)
      (flat_ready n b ks (All-tail (λ (j : ItemId). parent_of t j ≡ Some b) k ks a) (after seen (bucket_numbers_at t n k)) each)

  above_kid : (k : ItemId) (b : ℕ) → parent_of t k ≡ Some b → above t k ≡ b ∷ above t (Bucket b)
  above_kid k b e = above-parent t l k ∙ ap (λ o. then_up o (λ p. above t (Bucket p))) e

  seen_kid : (n b : ℕ) → length t ≤ length (above t (Bucket b)) + suc n → (seen : ℕ → Bool) (j : ℕ) → parent_of t (Bucket j) ≡ Some b → after seen (flat_map (bucket_numbers_at t n) (kids t b)) j ≡ true
  seen_kid zero b fuel seen j e =
      let there = root_gone t l (row_of t (Bucket j)) b e in
      absurd (omega (arith, above_short t l j there.1, ap length (above_kid (Bucket j) b e), fuel))
  seen_kid (suc m) b fuel seen j e =
      let up : climb t (suc m) (Bucket j) ≡ b ∷ climb t m (Bucket b) = ap (λ o. then_up o (λ p. climb t m (Bucket p))) e in
      let own : one_if (b == b) ≡ 1 = ap one_if (eq-eqb b b refl) in
      let met : times_in (Bucket b) (climb t (suc m) (Bucket j)) ≡ one_if (b == b) + times_in (Bucket b) (climb t m (Bucket b)) = ap (times_in (Bucket b)) up ∙ omega arith in
      after_member seen (flat_map (bucket_numbers_at t (suc m)) (kids t b)) j (omega (arith, below_times t l j m b, met, own))

  pub order_ready : (n : ℕ) (i : ItemId) (seen : ℕ → Bool) → length t ≤ length (above t i) + n → Ready t seen (bucket_numbers_at t n i)
  order_ready n (Device d) seen fuel = tt
  order_ready zero (Bucket b) seen fuel = tt
  order_ready (suc n) (Bucket b) seen fuel =
      ready_both t seen (flat_map (bucket_numbers_at t n) (kids t b)) (b ∷ [])
      (flat_ready n b (kids t b) (All-kids t l b) seen (λ k e s. order_ready n k s (omega (arith, fuel, ap length (above_kid k b e)))))
      (seen_kid n b fuel seen, tt)

  roots_ready : (rs : List ℕ) (seen : ℕ → Bool) → Ready t seen (flat_map (λ b. bucket_numbers_at t (length t) (Bucket b)) rs)
  roots_ready [] seen = tt
  roots_ready (b ∷ rs) seen = ready_both t seen (bucket_numbers_at t (length t) (Bucket b)) (flat_map (λ c. bucket_numbers_at t (length t) (Bucket c)) rs) (order_ready (length t) (Bucket b) seen (omega arith)) (roots_ready rs (after seen (bucket_numbers_at t (length t) (Bucket b))))

  -- EACH BUCKET is printed after the buckets among its items
  pub root_order-ready : Ready t (λ _. false) (root_order t)
  unfolding bucket_numbers
  root_order-ready = roots_ready (root_numbers t) (λ _. false)

-- The sums in a part of a table (`part_of`): a bucket below which all items are placed has the sum that it has in the whole table.
use Rattle.std.proofs.Common.{◌≡◌, ℕ, zero, suc, ◌+◌, ◌≤◌, Bool, true, false, List, [], ◌∷◌, length, Option, Some, None, refl, sym, ap, ◌∙◌, arith}
use Rattle.std.proofs.lemmas.List.Sums.{sum_by-cons}
use Rattle.std.specs.Prelude.{map, filter, ◌||◌, ◌==◌, if◌then◌else◌}
use Rattle.std.specs.List.{sum_by}
use Rattle.crush_units.specs.declared.id.ItemId.{ItemId}
use Rattle.crush_units.specs.declared.id.ItemId.TheVariants.{Bucket}
use Rattle.crush_model.specs.Lawful.{Lawful}
use Rattle.crush_model.specs.Table.{Row, is_device, is_device_id, parent_of, then_up, climb, member, is_below, sum_below, summed_weight}
use Rattle.crush_model.proofs.Reorder.{sum_by-map}
use Rattle.crush_model.proofs.Kept.{length_map}
use Rattle.crush_model.proofs.KidSums.{sum_by-agree}
use Rattle.crush_model.proofs.Climbs.{climb-above}
use Rattle.crush_model.proofs.Removed.{parent_of-only, length-filter_le, not_below_only}
use Rattle.crush_print.proofs.PartTables.{bare, shown, shown-id, part_of, parent_shown, not_below_shown, Lawful-part}

sum_if : {X : Type 0} (p : X → Bool) (f : X → ℕ) (b : Bool) (x : X) (xs : List X) (n : ℕ) → p x ≡ b → sum_by f (filter p xs) ≡ n → sum_by f (if b then x ∷ filter p xs else filter p xs) ≡ (if b then f x else 0) + n
sum_if p f true x xs n e h = sum_by-cons f x (filter p xs) ∙ ap (λ m. f x + m) h
sum_if p f false x xs n e h = h ∙ omega arith

-- the sum over the elements that pass a filter is the sum over all elements, in which an element that doesn't pass counts 0
pub sum_by-filtered : {X : Type 0} (p : X → Bool) (f : X → ℕ) (xs : List X) → sum_by f (filter p xs) ≡ sum_by (λ x. if p x then f x else 0) xs
sum_by-filtered p f [] = refl
sum_by-filtered p f (x ∷ xs) = sum_if p f (p x) x xs (sum_by (λ y. if p y then f y else 0) xs) refl (sum_by-filtered p f xs) ∙ sym (sum_by-cons (λ y. if p y then f y else 0) x xs)

no_weight : (b : Bool) → ◌≡◌ {A = ℕ} (if b then 0 else 0) 0
no_weight true = refl
no_weight false = refl

bucket_light : (r : Row) → is_device r ≡ false → summed_weight r ≡ 0
bucket_light r e = λ k. if e k then r.weight else 0

both_weigh : (q b : Bool) (x y : Row) → summed_weight x ≡ 0 → summed_weight y ≡ 0 → (c : Bool) → (if q then (if b then summed_weight x else 0) else 0) ≡ (if c then summed_weight y else 0)
both_weigh q b x y hx hy c = (λ k. if q then (if b then hx k else 0) else 0) ∙ none q b ∙ sym ((λ k. if c then hy k else 0) ∙ no_weight c)
  where
    none : (q b : Bool) → ◌≡◌ {A = ℕ} (if q then (if b then 0 else 0) else 0) 0
    none true b = no_weight b
    none false b = refl

module _ (q P : ItemId → Bool) (D : ℕ → Bool) (t : List Row) (l : Lawful t)
    (closed : (i : ItemId) (p : ℕ) → q i ≡ true → P i ≡ true → parent_of t i ≡ Some p → q (Bucket p) ≡ true)
    (full : (c : ℕ) (i : ItemId) → D c ≡ true → parent_of t i ≡ Some c → P i ≡ true)
    (done : (j : ℕ) → P (Bucket j) ≡ true → D j ≡ true)
    (devices : (i : ItemId) → is_device_id i ≡ true → q i ≡ true) where
  -- the parent of an item that is placed in the part
  parent_there : (i : ItemId) (p : ℕ) → q i ≡ true → P i ≡ true → parent_of t i ≡ Some p → parent_of (part_of q P t) i ≡ Some p
  parent_there i p a b e = parent_of-only q (map (shown P) t) i ∙ (λ k. if a k then parent_of (map (shown P) t) i else None) ∙ parent_shown P t l i ∙ (λ k. if b k then parent_of t i else None) ∙ e

  -- if an item is below a bucket in t, and all items below this bucket are placed, then the item is below the bucket in the part, too
  abbrev Climbs : ℕ → ℕ → ItemId → Type 0
  Climbs c n i = (P i ≡ true) × (q i ≡ true → member c (climb (part_of q P t) n i) ≡ true)

  climbs : (c : ℕ) → D c ≡ true → (n : ℕ) (i : ItemId) → member c (climb t n i) ≡ true → Climbs c n i
  climbs c d zero i h = absurd (let no : false ≡ true = h in cc)
  climbs c d (suc n) i h = by_parent (λ p x. climbs c d n (Bucket p) x) (parent_of t i) refl h
    where
      up : (p : ℕ) → parent_of t i ≡ Some p → P i ≡ true → q i ≡ true → ((p == c) || member c (climb (part_of q P t) n (Bucket p))) ≡ true → member c (climb (part_of q P t) (suc n) i) ≡ true
      up p e a b m = ap (λ o. member c (then_up o (λ x. climb (part_of q P t) n (Bucket x)))) (parent_there i p b a e) ∙ m

      by_test : (p : ℕ) → parent_of t i ≡ Some p → (b : Bool) → (p == c) ≡ b → (b || member c (climb t n (Bucket p))) ≡ true → (member c (climb t n (Bucket p)) ≡ true → Climbs c n (Bucket p)) → Climbs c (suc n) i
      by_test p e true k m rest =
          let same : p ≡ c = grind (arith, k) in
          let placed : P i ≡ true = full c i d (e ∙ ap (λ (x : ℕ). Some x) same) in
          (placed, λ a. up p e placed a (ap (λ b. b || member c (climb (part_of q P t) n (Bucket p))) k))
      by_test p e false k m rest =
          let r = rest m in
          let placed : P i ≡ true = full p i (done p r.0) e in
          (placed, λ a. up p e placed a (ap (λ b. b || member c (climb (part_of q P t) n (Bucket p))) k ∙ r.1 (closed i p a placed e)))

      by_parent : ((p : ℕ) → member c (climb t n (Bucket p)) ≡ true → Climbs c n (Bucket p)) → (o : Option ℕ) → parent_of t i ≡ o → member c (then_up o (λ p. climb t n (Bucket p))) ≡ true → Climbs c (suc n) i
      by_parent rest None e m = absurd (let no : false ≡ true = m in cc)
      by_parent rest (Some p) e m = by_test p e (p == c) refl m (rest p)

  below_same : (c : ℕ) → D c ≡ true → (i : ItemId) → q i ≡ true → is_below (part_of q P t) c i ≡ is_below t c i
  below_same c d i a = by_test (is_below t c i) refl
    where
      few : length (part_of q P t) ≤ length t
      few = omega (arith, length-filter_le (λ (r : Row). q r.id) (map (shown P) t), length_map (shown P) t)

      by_test : (b : Bool) → is_below t c i ≡ b → is_below (part_of q P t) c i ≡ b
      by_test true e = ap (member c) (sym (climb-above (part_of q P t) (Lawful-part P t l q closed) (length t) i few)) ∙ (climbs c d (length t) i e).1 a
      by_test false e = not_below_only q (map (shown P) t) c i (not_below_shown P t l c i e)

  shown_by : (b : Bool) (r : Row) → b ≡ true → (if b then r else bare r) ≡ r
  shown_by true r e = refl
  shown_by false r e = absurd (let no : false ≡ true = e in cc)

  device_same : (c : ℕ) → D c ≡ true → (r : Row) → is_device r ≡ true → (if is_below (part_of q P t) c (shown P r).id then summed_weight (shown P r) else 0) ≡ (if is_below t c r.id then summed_weight r else 0)
  device_same c d r e = (λ k. if (ap (is_below (part_of q P t) c) (shown-id P r) ∙ below_same c d r.id (devices r.id e)) k then summed_weight (shown P r) else 0) ∙ by_below (is_below t c r.id) refl
    where
      by_below : (b : Bool) → is_below t c r.id ≡ b → (if b then summed_weight (shown P r) else 0) ≡ (if b then summed_weight r else 0)
      by_below true h = ap summed_weight (shown_by (P r.id) r (climbs c d (length t) r.id h).0)
      by_below false h = refl

  row_same : (c : ℕ) → D c ≡ true → (r : Row) → (if q (shown P r).id then (if is_below (part_of q P t) c (shown P r).id then summed_weight (shown P r) else 0) else 0) ≡ (if is_below t c r.id then summed_weight r else 0)
  row_same c d r = by_kind (is_device r) refl
    where
      by_kind : (b : Bool) → is_device r ≡ b → (if q (shown P r).id then (if is_below (part_of q P t) c (shown P r).id then summed_weight (shown P r) else 0) else 0) ≡ (if is_below t c r.id then summed_weight r else 0)
      by_kind true e = (λ k. if (ap q (shown-id P r) ∙ devices r.id e) k then (if is_below (part_of q P t) c (shown P r).id then summed_weight (shown P r) else 0) else 0) ∙ device_same c d r e
      by_kind false e = both_weigh (q (shown P r).id) (is_below (part_of q P t) c (shown P r).id) (shown P r) r (bucket_light (shown P r) (ap is_device_id (shown-id P r) ∙ e)) (bucket_light r e) (is_below t c r.id)

  -- THE SUM of a bucket below which all items are placed
  pub sum_below-part : (c : ℕ) → D c ≡ true → sum_below (part_of q P t) c ≡ sum_below t c
  sum_below-part c d =
      sum_by-filtered (λ (x : Row). q x.id) (λ (x : Row). if is_below (part_of q P t) c x.id then summed_weight x else 0) (map (shown P) t)
      ∙ sum_by-map (λ (x : Row). if q x.id then (if is_below (part_of q P t) c x.id then summed_weight x else 0) else 0) (shown P) t
      ∙ sum_by-agree (λ (r : Row). if q (shown P r).id then (if is_below (part_of q P t) c (shown P r).id then summed_weight (shown P r) else 0) else 0) (λ (r : Row). if is_below t c r.id then summed_weight r else 0) (row_same c d) t

-- A table stays lawful if a row without a parent is appended.
use Rattle.std.proofs.Common.{◌≡◌, ℕ, zero, suc, ◌+◌, ◌≤◌, Bool, true, false, List, [], ◌∷◌, ◌++◌, length, ap, sym, subst, ◌∙◌, refl, arith, length-append, ⊎_elim}
use Rattle.std.specs.Prelude.{◌==◌, if◌then◌else◌, Option, Some, None, IfSome, map, is_some, option_and_then, bytes_eq, nat_lt}
use Rattle.std.specs.List.{sum_by, count_by}
use Rattle.std.specs.Option.{option_map}
use Rattle.std.proofs.lemmas.Bool.{ltb-false}
use Rattle.std.proofs.lemmas.Slice.Eq.{bytes_eq-Decides}
use Rattle.std.proofs.lemmas.List.Sums.{sum_by-cons, sum_by_push, sum_by-le-sum_by}
use Rattle.std.proofs.lemmas.Bool.Decides.{eqb_tells}
use Rattle.std.proofs.lemmas.List.Elements.{All-weaker, All-push}
use Rattle.crush_units.specs.declared.id.ItemId.{ItemId}
use Rattle.crush_units.specs.declared.id.ItemId.TheVariants.{Device, Bucket}
use Rattle.crush_units.specs.Id.{same_id}
use Rattle.crush_units.proofs.Ids.{same_id_tells}
use Rattle.crush_model.specs.Items.{ShadowData}
use Rattle.crush_model.specs.Table.{Row, row_of, row_named, is_there, is_named, parent_of, then_up, climb, above, member, is_below, sum_below, summed_weight, total, device_count, bucket_count, bucket_ids, used_ids}
use Rattle.crush_model.specs.Lawful.{IsRow, IsRowOf, HasParent, Lawful, has_too_many}
use Rattle.crush_model.proofs.Reorder.{one_if}
use Rattle.crush_model.proofs.Found.{times, times-absent, is_there-times}
use Rattle.crush_model.proofs.Same.{uses, times_used, times_used-rows, climb-agree, member-count}
use Rattle.crush_model.proofs.Climbs.{climb-above}
use Rattle.crush_model.proofs.Weighs.{or_left, or_right, true_or_false}
use Rattle.crush_units.specs.declared.limits.TheConstants.{HEAVIEST_BUCKET, HEAVIEST_MAP, MOST_BUCKETS, MOST_DEVICES}

-- if the first row or a row of the first table has the id, it is found; otherwise a row of the second table is
row_first : (b : Bool) (r : Row) (o q : Option Row) → (if is_some (if b then Some r else o) then (if b then Some r else o) else q) ≡ (if b then Some r else (if is_some o then o else q))
row_first true r o q = refl
row_first false r o q = refl

pub row_of-append : (t u : List Row) (i : ItemId) → row_of (t ++ u) i ≡ (if is_there t i then row_of t i else row_of u i)
row_of-append [] u i = refl
row_of-append (r ∷ t) u i = ap (λ z. if same_id r.id i then Some r else z) (row_of-append t u i) ∙ sym (row_first (same_id r.id i) r (row_of t i) (row_of u i))

-- if no item has a name, no row has it
pub unnamed : (t : List Row) (n : List ℕ) → is_named t n ≡ false → count_by (λ (r : Row). bytes_eq r.name n) t ≡ 0
unnamed [] n h = refl
unnamed (r ∷ t) n h = by_name (bytes_eq r.name n) h (unnamed t n) (sum_by-cons (λ (x : Row). one_if (bytes_eq x.name n)) r t) where
  by_name : (b : Bool) → is_some (option_map (λ (x : Row). x.id) (if b then Some r else row_named t n)) ≡ false → (is_named t n ≡ false → count_by (λ (x : Row). bytes_eq x.name n) t ≡ 0)
      → count_by (λ (x : Row). bytes_eq x.name n) (r ∷ t) ≡ one_if b + count_by (λ (x : Row). bytes_eq x.name n) t → count_by (λ (x : Row). bytes_eq x.name n) (r ∷ t) ≡ 0
  by_name true h ih e = absurd cc
  by_name false h ih e = omega (arith, e, ih h)

module _ (t : List Row) (l : Lawful t) (r : Row) (root : r.parent ≡ None) (fresh : is_there t r.id ≡ false) where
  pub parent_of-push : (i : ItemId) → parent_of (t ++ r ∷ []) i ≡ parent_of t i
  parent_of-push i = ap (option_and_then (λ (x : Row). x.parent)) (row_of-append t (r ∷ []) i) ∙ either (row_of t i) where
    no_parent : (b : Bool) → option_and_then (λ (x : Row). x.parent) (if b then Some r else None) ≡ None
    no_parent true = root
    no_parent false = refl

    either : (o : Option Row) → option_and_then (λ (x : Row). x.parent) (if is_some o then o else row_of (r ∷ []) i) ≡ option_and_then (λ (x : Row). x.parent) o
    either (Some x) = refl
    either None = no_parent (same_id r.id i)

  pub above-push : (i : ItemId) → above (t ++ r ∷ []) i ≡ above t i
  above-push i = climb-agree (t ++ r ∷ []) t parent_of-push (length (t ++ r ∷ [])) i ∙ climb-above t l (length (t ++ r ∷ [])) i (omega (arith, length-append t (r ∷ [])))

  pub is_below-push : (b : ℕ) (i : ItemId) → is_below (t ++ r ∷ []) b i ≡ is_below t b i
  is_below-push b i = ap (member b) (above-push i)

  -- nothing is above the new row
  root_climbs : above (t ++ r ∷ []) r.id ≡ []
  root_climbs = above-push r.id ∙ stuck (length t) where
    nowhere : parent_of t r.id ≡ None
    nowhere = absent (row_of t r.id) fresh where
      absent : (o : Option Row) → is_some o ≡ false → option_and_then (λ (x : Row). x.parent) o ≡ None
      absent None h = refl
      absent (Some x) h = absurd cc

    stuck : (n : ℕ) → climb t n r.id ≡ []
    stuck zero = refl
    stuck (suc n) = ap (λ o. then_up o (λ p. climb t n (Bucket p))) nowhere

  pub sum_below-push : (b : ℕ) → sum_below (t ++ r ∷ []) b ≡ sum_below t b
  sum_below-push b =
      let same : ◌≡◌ {A = Row → ℕ} (λ x. if is_below (t ++ r ∷ []) b x.id then summed_weight x else 0) (λ x. if is_below t b x.id then summed_weight x else 0) = λ k x. if is_below-push b x.id k then summed_weight x else 0 in
      let none_here : (if is_below t b r.id then summed_weight r else 0) ≡ 0 = ap (λ xs. if member b xs then summed_weight r else 0) (sym (above-push r.id) ∙ root_climbs) in
      ap (λ f. sum_by f (t ++ r ∷ [])) same ∙ sum_by_push (λ (x : Row). if is_below t b x.id then summed_weight x else 0) t r ∙ omega (arith, none_here)

  pub total-push : total (t ++ r ∷ []) ≡ total t
  total-push =
      let unplaced : (if is_some r.parent then summed_weight r else 0) ≡ 0 = ap (λ o. if is_some o then summed_weight r else 0) root in
      sum_by_push (λ (x : Row). if is_some x.parent then summed_weight x else 0) t r ∙ omega (arith, unplaced)

pub times_used-push : (k : ℕ) (t : List Row) (r : Row) → times_used k (t ++ r ∷ []) ≡ times_used k t + count_by (λ u. u == k) (uses r)
times_used-push k t r = times_used-rows k (t ++ r ∷ []) ∙ sum_by_push (λ (x : Row). count_by (λ u. u == k) (uses x)) t r ∙ omega (arith, times_used-rows k t)

still_there : (t : List Row) (r x : Row) → HasParent t x → HasParent (t ++ r ∷ []) x
still_there t r x h = by_parent x.parent h where
  found_first : (p : ℕ) (b : Bool) → is_there t (Bucket p) ≡ b → b ≡ true → is_there (t ++ r ∷ []) (Bucket p) ≡ true
  found_first p true e h = ap is_some (row_of-append t (r ∷ []) (Bucket p)) ∙ ap (λ z. is_some (if z then row_of t (Bucket p) else row_of (r ∷ []) (Bucket p))) e ∙ e
  found_first p false e h = absurd cc

  by_parent : (o : Option ℕ) → IfSome o (λ p. is_there t (Bucket p) ≡ true) → IfSome o (λ p. is_there (t ++ r ∷ []) (Bucket p) ≡ true)
  by_parent None h = h
  by_parent (Some p) h = found_first p (is_there t (Bucket p)) refl h

-- THE LAW: a row without a parent may be appended if its id, its name and the ids that it uses are new and there is room
pub Lawful-push : (t : List Row) (r : Row) → Lawful t → IsRow r → r.parent ≡ None → is_there t r.id ≡ false → is_named t r.name ≡ false
    → ((k : ℕ) → times_used k t + count_by (λ u. u == k) (uses r) ≤ 1) → has_too_many (t ++ r ∷ []) ≡ false → Lawful (t ++ r ∷ [])
Lawful-push t r l row root fresh new unused room = record {
  ids = λ i. subst (λ n. n ≤ 1) (sym (sum_by_push (λ (x : Row). one_if (same_id x.id i)) t r)) (one_id i);
  names = λ n. subst (λ c. c ≤ 1) (sym (sum_by_push (λ (x : Row). one_if (bytes_eq x.name n)) t r)) (one_name n);
  used = λ k. subst (λ n. n ≤ 1) (sym (times_used-push k t r)) (unused k);
  rows = All-push IsRow t r l.rows row;
  parents = All-push (HasParent (t ++ r ∷ [])) t r (All-weaker (HasParent t) (HasParent (t ++ r ∷ [])) (still_there t r) t l.parents) (subst (λ o. IfSome o (λ p. is_there (t ++ r ∷ []) (Bucket p) ≡ true)) (sym root) tt);
  loops = λ b. is_below-push t l r root fresh b (Bucket b) ∙ l.loops b;
  sums = λ b. subst (λ n. n ≤ HEAVIEST_BUCKET) (sym (sum_below-push t l r root fresh b)) (l.sums b);
  total = subst (λ n. n ≤ HEAVIEST_MAP) (sym (total-push t l r root fresh)) l.total;
  devices = ltb-false MOST_DEVICES (device_count (t ++ r ∷ [])) (or_left (nat_lt MOST_DEVICES (device_count (t ++ r ∷ []))) (nat_lt MOST_BUCKETS (bucket_count (t ++ r ∷ []))) room);
  buckets = ltb-false MOST_BUCKETS (bucket_count (t ++ r ∷ [])) (or_right (nat_lt MOST_DEVICES (device_count (t ++ r ∷ []))) (nat_lt MOST_BUCKETS (bucket_count (t ++ r ∷ []))) room);
} where
  one_id : (i : ItemId) → times i t + one_if (same_id r.id i) ≤ 1
  one_id i = ⊎_elim
      (λ p. let gone : times i t ≡ 0 = times-absent t i (ap (is_there t) (sym p.1) ∙ fresh) in let one : one_if (same_id r.id i) ≡ 1 = ap one_if p.0 in omega (arith, gone, one))
      (λ p. let other : one_if (same_id r.id i) ≡ 0 = ap one_if p.0 in omega (arith, other, l.ids i))
      (same_id_tells r.id i)

  by_name : (n : List ℕ) (b : Bool) → bytes_eq r.name n ≡ b → count_by (λ (x : Row). bytes_eq x.name n) t + one_if b ≤ 1
  by_name n true e = let same : r.name ≡ n = (bytes_eq-Decides r.name n).0 e in let gone : count_by (λ (x : Row). bytes_eq x.name n) t ≡ 0 = unnamed t n (ap (is_named t) (sym same) ∙ new) in omega (arith, gone)
  by_name n false e = omega (arith, l.names n)

  one_name : (n : List ℕ) → count_by (λ (x : Row). bytes_eq x.name n) t + one_if (bytes_eq r.name n) ≤ 1
  one_name n = by_name n (bytes_eq r.name n) refl

-- a bucket's row uses the bucket's own id
own_use : (r : Row) (b : ℕ) → one_if (same_id r.id (Bucket b)) ≤ count_by (λ u. u == b) (uses r)
own_use r b = by_id r.id where
  by_id : (i : ItemId) → one_if (same_id i (Bucket b)) ≤ count_by (λ u. u == b) (bucket_ids i ++ map (λ (c : ShadowData). c.id) r.class_ids)
  by_id (Device d) = omega arith
  by_id (Bucket c) = omega (arith, sum_by-cons (λ u. one_if (u == b)) c (map (λ (x : ShadowData). x.id) r.class_ids))

pub times-used : (t : List Row) (b : ℕ) → times (Bucket b) t ≤ times_used b t
times-used t b = omega (arith, times_used-rows b t, sum_by-le-sum_by (λ (r : Row). one_if (same_id r.id (Bucket b))) (λ (r : Row). count_by (λ u. u == b) (uses r)) t (λ r. own_use r b))

pub unused_times : (t : List Row) (b : ℕ) → member b (used_ids t) ≡ false → times_used b t ≡ 0
unused_times t b h = omega (arith, ltb-false 0 (times_used b t) (sym (member-count b (used_ids t)) ∙ h))

-- an id that isn't used isn't the id of a bucket
pub unused_fresh : (t : List Row) (b : ℕ) → member b (used_ids t) ≡ false → is_there t (Bucket b) ≡ false
unused_fresh t b h = ⊎_elim
    (λ there. absurd (omega (arith, is_there-times t (Bucket b) there, times-used t b, unused_times t b h)))
    (λ gone. gone)
    (true_or_false (is_there t (Bucket b)))

-- a device's row uses no bucket id
device_uses : (d : ℕ) (r : Row) → r.id ≡ Device d → r.class_ids ≡ [] → uses r ≡ []
device_uses d r e h = λ k. bucket_ids (e k) ++ map (λ (c : ShadowData). c.id) (h k)

-- the law for an unplaced device
pub Lawful-push_device : (t : List Row) (d : ℕ) (r : Row) → r.id ≡ Device d → Lawful t → IsRow r → r.parent ≡ None → is_there t (Device d) ≡ false → is_named t r.name ≡ false → has_too_many (t ++ r ∷ []) ≡ false → Lawful (t ++ r ∷ [])
Lawful-push_device t d r e l row root fresh new room =
    let form : IsRowOf (Device d) r = subst (λ i. IsRowOf i r) e row.form in
    let nothing_used : uses r ≡ [] = device_uses d r e form.class_ids in
    Lawful-push t r l row root (ap (is_there t) e ∙ fresh) new (λ k. subst (λ xs. times_used k t + count_by (λ u. u == k) xs ≤ 1) (sym nothing_used) (omega (arith, l.used k))) room

-- the law for a bucket without class ids
pub Lawful-push_bucket : (t : List Row) (b : ℕ) (r : Row) → r.id ≡ Bucket b → r.class_ids ≡ [] → Lawful t → IsRow r → r.parent ≡ None → member b (used_ids t) ≡ false → is_named t r.name ≡ false → has_too_many (t ++ r ∷ []) ≡ false → Lawful (t ++ r ∷ [])
Lawful-push_bucket t b r e without_capacity l row root unused new room =
    Lawful-push t r l row root (ap (is_there t) e ∙ unused_fresh t b unused) new (λ k. subst (λ xs. times_used k t + count_by (λ u. u == k) xs ≤ 1) (sym one_used) (once k)) room where
      one_used : uses r ≡ b ∷ []
      one_used = λ k. bucket_ids (e k) ++ map (λ (c : ShadowData). c.id) (without_capacity k)

      once : (k : ℕ) → times_used k t + count_by (λ u. u == k) (b ∷ []) ≤ 1
      once k = ⊎_elim
          (λ p. let gone : times_used k t ≡ 0 = ap (λ z. times_used z t) (sym p.1) ∙ unused_times t b unused in let one : one_if (b == k) ≡ 1 = ap one_if p.0 in omega (arith, gone, one))
          (λ p. let other : one_if (b == k) ≡ 0 = ap one_if p.0 in omega (arith, other, l.used k))
          (eqb_tells b k)

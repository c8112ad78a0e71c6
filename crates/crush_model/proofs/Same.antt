-- Tables that are the same have the same parents, sums, counts and ids, and are lawful together.
use Rattle.std.proofs.Common.{◌≡◌, ℕ, zero, suc, ◌+◌, ◌≤◌, Bool, true, false, List, [], ◌∷◌, ◌++◌, length, ap, sym, subst, ◌∙◌, refl, arith, ⊎_elim}
use Rattle.std.specs.Prelude.{◌==◌, ◌||◌, not, if◌then◌else◌, Option, Some, None, IfSome, map, filter, take, is_some, bytes_eq, nat_lt}
use Rattle.std.specs.List.{sum_by, count_by, list_any, range_with_len}
use Rattle.std.specs.Option.{option_map}
use Rattle.std.proofs.lemmas.List.Sums.{sum_by-cons}
use Rattle.std.proofs.lemmas.List.Elements.{All-weaker}
use Rattle.std.proofs.lemmas.List.Concat.{length-flat_map}
use Rattle.std.proofs.lemmas.Bool.Decides.{eqb_tells}
use Rattle.crush_units.specs.declared.id.ItemId.{ItemId}
use Rattle.crush_units.specs.declared.id.ItemId.TheVariants.{Device, Bucket}
use Rattle.crush_model.specs.Items.{ShadowData}
use Rattle.crush_model.specs.Reordered.{IsReordered, through}
use Rattle.crush_model.specs.Table.{Row, is_device, is_bucket, is_there, parent_of, then_up, climb, above, member, is_below, sum_below, summed_weight, total, item_weight, weight_of, device_count, bucket_count, bucket_ids, used_ids, free_ids}
use Rattle.crush_model.specs.Same.{Same}
use Rattle.crush_model.specs.Lawful.{IsRow, HasParent, Lawful, is_over, is_too_heavy, has_too_many}
use Rattle.crush_model.proofs.Reorder.{one_if, reordered-refl, reordered-sym, reordered-sum, reordered-count, reordered-length, reordered-All, sum_by-flat_map}
use Rattle.crush_model.proofs.Found.{Distinct, Distinct-same, is_there-same, parent_of-same, own_weight_of-same}
use Rattle.crush_model.proofs.Sums.{added_weight}
use Rattle.crush_units.specs.declared.limits.TheConstants.{HEAVIEST_BUCKET, HEAVIEST_MAP, MOST_BUCKETS, MOST_DEVICES}

pub Same-refl : (t : List Row) → Same t t
Same-refl t = record { rows = reordered-refl t; kids = λ b. refl }

pub Same-is : {t u : List Row} → t ≡ u → Same t u
Same-is {t} e = subst (Same t) e (Same-refl t)

pub Same-sym : (t u : List Row) → Same t u → Same u t
Same-sym t u s = record { rows = reordered-sym s.rows; kids = λ b. sym (s.kids b) }

pub Same-trans : (t u v : List Row) → Same t u → Same u v → Same t v
Same-trans t u v s r = record { rows = through s.rows r.rows; kids = λ b. s.kids b ∙ r.kids b }

-- if the parents are the same, following parents gives the same
pub climb-agree : (t u : List Row) → ((i : ItemId) → parent_of t i ≡ parent_of u i) → (n : ℕ) (i : ItemId) → climb t n i ≡ climb u n i
climb-agree t u h zero i = refl
climb-agree t u h (suc n) i = λ k. then_up (h i k) (λ p. climb-agree t u h n (Bucket p) k)

pub above-same : (t u : List Row) → IsReordered t u → Distinct t → (i : ItemId) → above t i ≡ above u i
above-same t u p d i = ap (λ n. climb t n i) (reordered-length p) ∙ climb-agree t u (parent_of-same t u p d) (length u) i

pub is_below-same : (t u : List Row) → IsReordered t u → Distinct t → (b : ℕ) (i : ItemId) → is_below t b i ≡ is_below u b i
is_below-same t u p d b i = ap (member b) (above-same t u p d i)

pub sum_below-same : (t u : List Row) → IsReordered t u → Distinct t → (b : ℕ) → sum_below t b ≡ sum_below u b
sum_below-same t u p d b =
    let up = is_below-same t u p d b in
    let same_weighed : added_weight t b ≡ added_weight u b = λ k r. if up r.id k then summed_weight r else 0 in
    reordered-sum (added_weight t b) p ∙ ap (λ f. sum_by f u) same_weighed

pub item_weight-same : (t u : List Row) → IsReordered t u → Distinct t → (i : ItemId) (w : ℕ) → item_weight t i w ≡ item_weight u i w
item_weight-same t u p d (Device n) w = refl
item_weight-same t u p d (Bucket b) w = sum_below-same t u p d b

pub weight_of-same : (t u : List Row) → IsReordered t u → Distinct t → (i : ItemId) → weight_of t i ≡ weight_of u i
weight_of-same t u p d i = λ k. option_map (λ w. item_weight-same t u p d i w k) (own_weight_of-same t u p d i k)

pub total-same : (t u : List Row) → IsReordered t u → total t ≡ total u
total-same t u p = reordered-sum (λ (r : Row). if is_some r.parent then summed_weight r else 0) p

pub device_count-same : (t u : List Row) → IsReordered t u → device_count t ≡ device_count u
device_count-same t u p = reordered-count is_device p

pub bucket_count-same : (t u : List Row) → IsReordered t u → bucket_count t ≡ bucket_count u
bucket_count-same t u p = reordered-count is_bucket p

-- the ids that one row uses
abbrev pub uses : Row → List ℕ
uses r = bucket_ids r.id ++ map (λ (c : ShadowData). c.id) r.class_ids

-- how often a number is used as an id
abbrev pub times_used : ℕ → List Row → ℕ
times_used k t = count_by (λ u. u == k) (used_ids t)

pub times_used-rows : (k : ℕ) (t : List Row) → times_used k t ≡ sum_by (λ (r : Row). count_by (λ u. u == k) (uses r)) t
times_used-rows k t = sum_by-flat_map (λ u. one_if (u == k)) uses t

pub times_used-same : (t u : List Row) → IsReordered t u → (k : ℕ) → times_used k t ≡ times_used k u
times_used-same t u p k = times_used-rows k t ∙ reordered-sum (λ (r : Row). count_by (λ x. x == k) (uses r)) p ∙ sym (times_used-rows k u)

pub used_ids-length : (t u : List Row) → IsReordered t u → length (used_ids t) ≡ length (used_ids u)
used_ids-length t u p = length-flat_map uses t ∙ reordered-sum (λ (r : Row). length (uses r)) p ∙ sym (length-flat_map uses u)

-- a number is in a list if it occurs there more than 0 times
pub member-count : (k : ℕ) (xs : List ℕ) → member k xs ≡ nat_lt 0 (count_by (λ u. u == k) xs)
member-count k [] = refl
member-count k (x ∷ xs) = ⊎_elim
    (λ p. let one : one_if (x == k) ≡ 1 = ap one_if p.0 in
    let more : count_by (λ u. u == k) (x ∷ xs) ≡ 1 + count_by (λ u. u == k) xs = omega (arith, one, sum_by-cons (λ u. one_if (u == k)) x xs) in
    ap (λ b. b || member k xs) p.0 ∙ sym (ap (nat_lt 0) more ∙ positive (count_by (λ u. u == k) xs)))
    (λ p. let no : one_if (x == k) ≡ 0 = ap one_if p.0 in
    let same : count_by (λ u. u == k) (x ∷ xs) ≡ count_by (λ u. u == k) xs = omega (arith, no, sum_by-cons (λ u. one_if (u == k)) x xs) in
    ap (λ b. b || member k xs) p.0 ∙ member-count k xs ∙ sym (ap (nat_lt 0) same))
    (eqb_tells x k) where
      positive : (n : ℕ) → nat_lt 0 (1 + n) ≡ true
      positive n = grind arith

pub used-same : (t u : List Row) → IsReordered t u → (k : ℕ) → member k (used_ids t) ≡ member k (used_ids u)
used-same t u p k = member-count k (used_ids t) ∙ ap (nat_lt 0) (times_used-same t u p k) ∙ sym (member-count k (used_ids u))

pub free_ids-same : (t u : List Row) → IsReordered t u → (n : ℕ) → free_ids t n ≡ free_ids u n
free_ids-same t u p n =
    let tests : (λ (k : ℕ). not (member k (used_ids t))) ≡ (λ (k : ℕ). not (member k (used_ids u))) = λ i k. not (used-same t u p k i) in
    λ i. take n (filter (tests i) (range_with_len 1 (used_ids-length t u p i + n)))

HasParent-same : (t u : List Row) → IsReordered t u → Distinct t → (r : Row) → HasParent t r → HasParent u r
HasParent-same t u p d r h = by_parent r.parent h where
  by_parent : (o : Option ℕ) → IfSome o (λ q. is_there t (Bucket q) ≡ true) → IfSome o (λ q. is_there u (Bucket q) ≡ true)
  by_parent None h = h
  by_parent (Some q) h = sym (is_there-same t u p d (Bucket q)) ∙ h

-- a table with the same rows as a lawful table, in another order, is lawful too
pub Lawful-reordered : (t u : List Row) → IsReordered t u → Lawful t → Lawful u
Lawful-reordered t u p l = record {
  ids = Distinct-same p l.ids;
  names = λ n. omega (arith, l.names n, reordered-count (λ (r : Row). bytes_eq r.name n) p);
  used = λ k. omega (arith, l.used k, times_used-same t u p k);
  rows = reordered-All IsRow p l.rows;
  parents = All-weaker (HasParent t) (HasParent u) (HasParent-same t u p l.ids) u (reordered-All (HasParent t) p l.parents);
  loops = λ b. sym (is_below-same t u p l.ids b (Bucket b)) ∙ l.loops b;
  sums = λ b. subst (λ n. n ≤ HEAVIEST_BUCKET) (sum_below-same t u p l.ids b) (l.sums b);
  total = subst (λ n. n ≤ HEAVIEST_MAP) (total-same t u p) l.total;
  devices = subst (λ n. n ≤ MOST_DEVICES) (device_count-same t u p) l.devices;
  buckets = subst (λ n. n ≤ MOST_BUCKETS) (bucket_count-same t u p) l.buckets;
}

pub Lawful-same : (t u : List Row) → Same t u → Lawful t → Lawful u
Lawful-same t u s = Lawful-reordered t u s.rows

-- the tests for sums and counts
is_over-same : (t u : List Row) → IsReordered t u → Distinct t → (i : ItemId) → is_over t i ≡ is_over u i
is_over-same t u p d (Device n) = refl
is_over-same t u p d (Bucket b) = ap (nat_lt HEAVIEST_BUCKET) (sum_below-same t u p d b)

any_count : {X : Type 0} (p : X → Bool) (xs : List X) → list_any p xs ≡ nat_lt 0 (count_by p xs)
any_count p [] = refl
any_count p (x ∷ xs) = by_test (p x) (sum_by-cons (λ z. one_if (p z)) x xs) (any_count p xs) where
  by_test : (b : Bool) → count_by p (x ∷ xs) ≡ one_if b + count_by p xs → list_any p xs ≡ nat_lt 0 (count_by p xs) → (b || list_any p xs) ≡ nat_lt 0 (count_by p (x ∷ xs))
  by_test true e ih = sym (ap (nat_lt 0) e ∙ grind arith)
  by_test false e ih = let same : count_by p xs ≡ count_by p (x ∷ xs) = omega (arith, e) in ih ∙ ap (nat_lt 0) same

pub is_too_heavy-same : (t u : List Row) → IsReordered t u → Distinct t → is_too_heavy t ≡ is_too_heavy u
is_too_heavy-same t u p d =
    let tests : (λ (r : Row). is_over t r.id) ≡ (λ (r : Row). is_over u r.id) = λ k r. is_over-same t u p d r.id k in
    let over : list_any (λ (r : Row). is_over t r.id) t ≡ list_any (λ (r : Row). is_over u r.id) u =
    any_count (λ (r : Row). is_over t r.id) t ∙ ap (nat_lt 0) (reordered-count (λ (r : Row). is_over t r.id) p ∙ ap (λ f. count_by f u) tests) ∙ sym (any_count (λ (r : Row). is_over u r.id) u) in
    λ k. over k || nat_lt HEAVIEST_MAP (total-same t u p k)

pub has_too_many-same : (t u : List Row) → IsReordered t u → has_too_many t ≡ has_too_many u
has_too_many-same t u p = λ k. nat_lt MOST_DEVICES (device_count-same t u p k) || nat_lt MOST_BUCKETS (bucket_count-same t u p k)

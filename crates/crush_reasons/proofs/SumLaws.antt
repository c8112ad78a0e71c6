-- The sums of a forest's buckets are those of the forest's table, with one sum for each bucket.
use Rattle.std.proofs.Common.{◌≡◌, ℕ, zero, suc, ◌+◌, ◌<◌, ◌≤◌, ◌==◌, List, [], ◌∷◌, ◌++◌, length, get_or, take, ap, sym, subst, ◌∙◌, refl, arith, append_assoc, ⊎_elim, Less, Equal, Greater}
use Rattle.std.specs.Prelude.{All, Option, None, Some}
use Rattle.std.specs.List.{sum_by}
use Rattle.std.specs.List.Sorted.{IsPermutation, IsNonDecreasingBy, IsPartitionPoint}
use Rattle.std.specs.Option.{option_map}
use Rattle.std.specs.Ordering.{nat_cmp, ordering_index}
use Rattle.std.proofs.lemmas.Bool.Decides.{eqb_tells, leb_tells, nat_tests}
use Rattle.std.proofs.lemmas.Cmp.{ranked}
use Rattle.std.proofs.lemmas.List.Sums.{sum_by-append, sum_by-cons}
use Rattle.std.proofs.lemmas.List.Sorted.{All-permutation, sum_by-IsPermutation}
use Rattle.std.proofs.lemmas.List.Elements.{All-nil, All-cons, All-head, All-tail, All-append}
use Rattle.crush_units.specs.declared.id.ItemId.TheVariants.{Bucket as BucketItem}
use Rattle.crush_units.specs.Id.{same_id}
use Rattle.crush_model.specs.Count.{one_if}
use Rattle.crush_model.specs.Items.{BucketData, Items, none, device, bucket}
use Rattle.crush_model.specs.Forest.{ForestData, all_items, join, OnlyDevices}
use Rattle.crush_model.specs.Stands.{Stands}
use Rattle.crush_model.specs.Table.{Row, item_weight, weight_of}
use Rattle.crush_model.proofs.Found.{row_of-absent}
use Rattle.crush_model.proofs.Reorder.{reordered-sum}
use Rattle.crush_model.proofs.Sums.{buckets, buckets-rows}
use Rattle.crush_nodes.specs.Seen.{items_of}
use Rattle.crush_nodes.specs.declared.node.Node.{Node}
use Rattle.crush_nodes.specs.declared.node.Node.TheVariants.{Bucket}
use Rattle.crush_nodes.proofs.Steps.{items_of-taken}
use Rattle.crush_print.proofs.Told.{Told, stands_told}
use Rattle.crush_reasons.specs.Sums.{AreSums, sum, sums_of}
use Rattle.crush_reasons.specs.declared.sums.Sum.{Sum}

-- the sums of two lists of items
sums-join : (a b : Items) → sums_of (join a b) ≡ sums_of a ++ sums_of b
sums-join none b = refl
sums-join (device d rest) b = sums-join rest b
sums-join (bucket h w m k rest) b =
    ap (λ (l : List Sum). sums_of k ++ (sum h.id w ∷ l)) (sums-join rest b) ∙ sym (append_assoc (sums_of k) (sum h.id w ∷ sums_of rest) (sums_of b))

-- the sums of the first nodes of a list, and of one more node
pub sums-more : {A : _} (ns : List (Node A)) (i : ℕ) (x : Node A) → i < length ns → x ≡ get_or ns i x
    → sums_of (items_of (take (i + 1) ns)) ≡ sums_of (items_of (take i ns)) ++ sums_of (items_of (x ∷ []))
sums-more ns i x lt is = ap sums_of (items_of-taken ns i x lt is) ∙ sums-join (items_of (take i ns)) (items_of (x ∷ []))

-- the sums for a bucket are the sums for its items, followed by the bucket's own sum
pub bucket_summed : {A : _} (x : Node A) (b : _) (k : Items) (d : BucketData) → x ≡ Bucket b → d ≡ b.value → k ≡ d.kids
    → sums_of k ++ sum d.header.id d.weight ∷ [] ≡ sums_of (items_of (x ∷ []))
bucket_summed x b k d at same kids_are =
    ap (λ (i : Items). sums_of i ++ sum d.header.id d.weight ∷ []) kids_are
    ∙ ap (λ (e : BucketData). sums_of e.kids ++ sum e.header.id e.weight ∷ []) same
    ∙ ap (λ y. sums_of (items_of (y ∷ []))) (sym at)

-- devices have no sums
no_sums : (n : Items) → OnlyDevices n → sums_of n ≡ []
no_sums none only = refl
no_sums (device d rest) only = no_sums rest only
no_sums (bucket h w m k rest) only = absurd only

pub roots_summed : (f : ForestData) → OnlyDevices f.unplaced → sums_of f.roots ≡ sums_of (all_items f)
roots_summed f only = sym (sums-join f.unplaced f.roots ∙ ap (λ (l : List Sum). l ++ sums_of f.roots) (no_sums f.unplaced only))

-- THE WEIGHT that the table has for a bucket is its sum
abbrev pub IsTold : List Row → Sum → Type 0
IsTold t s = weight_of t (BucketItem s.bucket) ≡ Some s.weight

sums_told : (t : List Row) (p : Option ℕ) (n : Items) → Told t p n → All (IsTold t) (sums_of n)
sums_told t p none told = All-nil (IsTold t)
sums_told t p (device d rest) told = sums_told t p rest told.1
sums_told t p (bucket h w m k rest) told =
    All-append (IsTold t) (sums_of k) (sum h.id w ∷ sums_of rest) (sums_told t (Some h.id) k told.3)
    (All-cons (IsTold t) (sum h.id w) (sums_of rest)
    (ap (λ (o : Option Row). option_map (item_weight t (BucketItem h.id)) (option_map (λ (r : Row). r.weight) o)) told.0 ∙ ap Some told.2)
    (sums_told t p rest told.4))

-- there is one sum for each bucket of the table
abbrev hits : ℕ → List Sum → ℕ
hits b sums = sum_by (λ (s : Sum). one_if (s.bucket == b)) sums

hits_of : (b : ℕ) (n : Items) → hits b (sums_of n) ≡ buckets b n
hits_of b none = refl
hits_of b (device d rest) = hits_of b rest
hits_of b (bucket h w m k rest) =
    omega (
      arith,
      hits_of b k,
      hits_of b rest,
      sum_by-append (λ (s : Sum). one_if (s.bucket == b)) (sums_of k) (sum h.id w ∷ sums_of rest),
      sum_by-cons (λ (s : Sum). one_if (s.bucket == b)) (sum h.id w) (sums_of rest),
    )

-- THE SUMS, SORTED by the buckets' ids, are those of the table
pub sorted_sums : (f : ForestData) (t : List Row) (xs ys : List Sum) → Stands f t → xs ≡ sums_of (all_items f) → IsPermutation xs ys → IsNonDecreasingBy (λ (s : Sum). s.bucket) ys → AreSums t ys
sorted_sums f t xs ys stands are same up = record {
  told = All-permutation (IsTold t) xs ys same (subst (All (IsTold t)) (sym are) (sums_told t None (all_items f) (stands_told f t stands)));
  each = λ b.
      sum_by-IsPermutation (λ (s : Sum). one_if (s.bucket == b)) xs ys same ∙ ap (hits b) are ∙ hits_of b (all_items f) ∙ sym (buckets-rows b None (all_items f))
      ∙ reordered-sum (λ (r : Row). one_if (same_id r.id (BucketItem b))) stands.same.rows;
  rising = up;
}

-- A SEARCH for a sum by its bucket's id
comparisons_rise : (xs : List Sum) (k : ℕ) → IsNonDecreasingBy (λ (s : Sum). s.bucket) xs → IsNonDecreasingBy (λ (s : Sum). ordering_index (nat_cmp s.bucket k)) xs
comparisons_rise xs k up i j d le lt = let rise : (get_or xs i d).bucket ≤ (get_or xs j d).bucket = up i j d le lt in grind (arith, nat_tests)

-- if the search finds a sum, it is the weight of the bucket in the table
told_at : (t : List Row) (sums : List Sum) (i : ℕ) (d : Sum) → All (IsTold t) sums → i < length sums → IsTold t (get_or sums i d)
told_at t [] i d all lt = absurd (omega (arith, lt))
told_at t (x ∷ sums) zero d all lt = All-head (IsTold t) x sums all
told_at t (x ∷ sums) (suc i) d all lt = told_at t sums i d (All-tail (IsTold t) x sums all) (omega (arith, lt))

pub found_here : (t : List Row) (sums : List Sum) (b k at : ℕ) (x : Sum) → AreSums t sums → k ≡ b → at < length sums → x ≡ get_or sums at x → ((d : Sum) → nat_cmp (get_or sums at d).bucket k ≡ Equal) → Some x.weight ≡ weight_of t (BucketItem b)
found_here t sums b k at x are key lt is equal =
    let same : (get_or sums at x).bucket ≡ b = ranked _ k _ (sym (equal x)) ∙ key in
    ap (λ (s : Sum). Some s.weight) is ∙ sym (told_at t sums at x are.told lt) ∙ ap (λ i. weight_of t (BucketItem i)) same

-- if the search finds no sum, the table doesn't have the bucket
none_has : (sums : List Sum) (b : ℕ) → ((j : ℕ) (d : Sum) → j < length sums → (get_or sums j d).bucket ≡ b → ⊥) → hits b sums ≡ 0
none_has [] b other = refl
none_has (x ∷ sums) b other = ⊎_elim
    (λ p. absurd (other 0 x (omega arith) p.1))
    (λ p. let no : one_if (x.bucket == b) ≡ 0 = ap one_if p.0 in omega (arith, no, none_has sums b (λ j d lt. other (suc j) d (omega (arith, lt))), sum_by-cons (λ (s : Sum). one_if (s.bucket == b)) x sums))
    (eqb_tells x.bucket b)

pub found_nowhere : (t : List Row) (sums : List Sum) (b k at : ℕ) → AreSums t sums → k ≡ b
    → (IsNonDecreasingBy (λ (s : Sum). ordering_index (nat_cmp s.bucket k)) sums → IsPartitionPoint (λ (s : Sum). nat_cmp s.bucket k ≡ Less) (λ (s : Sum). nat_cmp s.bucket k ≡ Greater) sums at)
    → None ≡ weight_of t (BucketItem b)
found_nowhere t sums b k at are key parted =
    let parts = parted (comparisons_rise sums k are.rising) in
    let none = none_has sums b (λ j d lt same. ⊎_elim
    (λ p. let greater = ranked _ k _ (sym (parts.1 j d p.1 lt)) in omega (arith, greater, same, key))
    (λ p. let smaller = ranked _ k _ (sym (parts.0 j d (omega arith) p.1)) in omega (arith, smaller, same, key))
    (leb_tells at j)) in
    ap (λ (o : Option Row). option_map (item_weight t (BucketItem b)) (option_map (λ (r : Row). r.weight) o)) (sym (row_of-absent t (BucketItem b) (sym (are.each b) ∙ none)))

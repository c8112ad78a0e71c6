-- Lemmas about the list of a forest's buckets, sorted by their ids, and about a search in this list.
use Rattle.std.proofs.Common.{◌≡◌, ℕ, zero, suc, ◌+◌, ◌<◌, ◌≤◌, false, true, List, [], ◌∷◌, ◌++◌, length, get_or, map, ap, sym, subst, ◌∙◌, refl, arith, ⊎_elim, eq-eqb, Less, Equal, Greater}
use Rattle.std.specs.Prelude.{All, Option, None, Some, ◌==◌, if◌then◌else◌}
use Rattle.std.specs.List.{sum_by}
use Rattle.std.specs.List.Sorted.{IsPermutation, IsNonDecreasingBy, IsPartitionPoint}
use Rattle.std.specs.Option.{option_or}
use Rattle.std.specs.Ordering.{nat_cmp, ordering_index}
use Rattle.std.proofs.lemmas.Bool.Decides.{eqb_tells, leb_tells, nat_tests}
use Rattle.std.proofs.lemmas.Cmp.{ranked}
use Rattle.std.proofs.lemmas.List.Elements.{All-nil, All-cons, All-head, All-tail, All-append, All-weaker}
use Rattle.std.proofs.lemmas.List.Sorted.{All-permutation, IsPermutation-map, sum_by-IsPermutation}
use Rattle.std.proofs.lemmas.List.Sums.{sum_by-append, sum_by-cons}
use Rattle.crush_model.specs.Count.{one_if}
use Rattle.crush_model.specs.Items.{BucketData, Items, none, device, bucket}
use Rattle.crush_model.specs.Forest.{ForestData, all_items, join, IsSound, OnlyDevices}
use Rattle.crush_model.proofs.Reorder.{sum_by-map}
use Rattle.crush_model.proofs.Sums.{buckets, buckets-rows}
use Rattle.crush_nodes.specs.Search.{kids_in}
use Rattle.crush_units.specs.declared.id.ItemId.TheVariants.{Bucket as BucketItem}
use Rattle.crush_tree.proofs.ReadLemmas.Items.{kids_in-present}
use Rattle.crush_print.specs.ItemsText.{buckets_among}
use Rattle.crush_since.specs.ChangeItems.{AreBuckets}
use Rattle.crush_items.proofs.WalkLaws.{All-unmap}

-- THE ROOTS and the items below them have all buckets of the forest
pub buckets_of_roots : (u r : Items) → OnlyDevices u → buckets_among r ≡ buckets_among (join u r)
buckets_of_roots none r only = refl
buckets_of_roots (device d u) r only = buckets_of_roots u r only
buckets_of_roots (bucket h w m k u) r only = absurd only

pub sorted_buckets : {X : Type 0} (see : X → BucketData) (f : ForestData) (roots : Items) (xs ys : List X) → IsSound f → roots ≡ f.roots → map see xs ≡ buckets_among roots → IsPermutation xs ys → IsNonDecreasingBy (λ x. (see x).header.id) ys → AreBuckets see f ys
sorted_buckets see f roots xs ys sound is are same up = record {
  same = subst (λ l. IsPermutation l (map see ys)) (are ∙ ap buckets_among is ∙ buckets_of_roots f.unplaced f.roots sound.unplaced) (IsPermutation-map see xs ys same);
  rising = up;
}

-- A BUCKET AMONG ITEMS is found by a search for its id
not_this : (x b : ℕ) → one_if (x == b) ≡ 0 → (x == b) ≡ false
not_this x b zero_hits = ⊎_elim (λ q. absurd (let one : one_if (x == b) ≡ 1 = ap one_if q.0 in omega (arith, one, zero_hits))) (λ q. q.0) (eqb_tells x b)

none_in : (b : ℕ) (n : Items) → buckets b n ≡ 0 → kids_in b n ≡ None
none_in b none h = refl
none_in b (device d rest) h = none_in b rest h
none_in b (bucket x w m k rest) h =
    ap (λ z. if z then Some k else option_or (kids_in b k) (kids_in b rest)) (not_this x.id b (omega arith)) ∙ (λ i. option_or (none_in b k (omega arith) i) (none_in b rest (omega arith) i))

abbrev IsFoundIn : Items → BucketData → Type 0
IsFoundIn n b = kids_in b.header.id n ≡ Some b.kids

all_found : (n : Items) → ((b : ℕ) → buckets b n ≤ 1) → All (IsFoundIn n) (buckets_among n)
all_found none once = All-nil (IsFoundIn none)
all_found (device d rest) once = all_found rest once
all_found (bucket h w m k rest) once =
    let own : BucketData = record { header = h; weight = w; capacity = m; kids = k } in
    let all : Items = bucket h w m k rest in
    All-append (IsFoundIn all) (buckets_among k ++ own ∷ []) (buckets_among rest)
    (All-append (IsFoundIn all) (buckets_among k) (own ∷ [])
    (All-weaker (IsFoundIn k) (IsFoundIn all) below (buckets_among k) (all_found k (λ b. omega (arith, once b))))
    (All-cons (IsFoundIn all) own [] (ap (λ z. if z then Some k else option_or (kids_in h.id k) (kids_in h.id rest)) (eq-eqb h.id h.id refl)) (All-nil (IsFoundIn all))))
    (All-weaker (IsFoundIn rest) (IsFoundIn all) behind (buckets_among rest) (all_found rest (λ b. omega (arith, once b)))) where
      below : (b : BucketData) → IsFoundIn k b → IsFoundIn (bucket h w m k rest) b
      below b is =
          let some = kids_in-present b.header.id k b.kids is in
          ap (λ z. if z then Some k else option_or (kids_in b.header.id k) (kids_in b.header.id rest)) (not_this h.id b.header.id (omega (arith, some, once b.header.id)))
          ∙ ap (λ (o : Option Items). option_or o (kids_in b.header.id rest)) is

      behind : (b : BucketData) → IsFoundIn rest b → IsFoundIn (bucket h w m k rest) b
      behind b is =
          let some = kids_in-present b.header.id rest b.kids is in
          ap (λ z. if z then Some k else option_or (kids_in b.header.id k) (kids_in b.header.id rest)) (not_this h.id b.header.id (omega (arith, some, once b.header.id)))
          ∙ ap (λ (o : Option Items). option_or o (kids_in b.header.id rest)) (none_in b.header.id k (omega (arith, some, once b.header.id))) ∙ is

-- the number of buckets with a given id in the list is the number of such buckets among the items
numbered : (b : ℕ) (n : Items) → sum_by (λ (x : BucketData). one_if (x.header.id == b)) (buckets_among n) ≡ buckets b n
numbered b none = refl
numbered b (device d rest) = numbered b rest
numbered b (bucket h w m k rest) =
    let own : BucketData = record { header = h; weight = w; capacity = m; kids = k } in
    omega (
      arith,
      numbered b k,
      numbered b rest,
      sum_by-append (λ (x : BucketData). one_if (x.header.id == b)) (buckets_among k ++ own ∷ []) (buckets_among rest),
      sum_by-append (λ (x : BucketData). one_if (x.header.id == b)) (buckets_among k) (own ∷ []),
      sum_by-cons (λ (x : BucketData). one_if (x.header.id == b)) own [],
    )

-- A SEARCH among sorted buckets finds the bucket that has the id
once_each : (f : ForestData) → IsSound f → (b : ℕ) → buckets b (all_items f) ≤ 1
once_each f sound b = omega (arith, buckets-rows b None (all_items f), sound.lawful.ids (BucketItem b))

at_place : {X : Type 0} (P : X → Type 0) (xs : List X) (at : ℕ) (d : X) → All P xs → at < length xs → P (get_or xs at d)
at_place P [] at d all lt = absurd (omega (arith, lt))
at_place P (x ∷ xs) zero d all lt = All-head P x xs all
at_place P (x ∷ xs) (suc at) d all lt = at_place P xs at d (All-tail P x xs all) (omega (arith, lt))

pub bucket_found : {X : Type 0} (see : X → BucketData) (f : ForestData) (xs : List X) (k at : ℕ) (x : X) (items : Items) → IsSound f → AreBuckets see f xs → at < length xs → x ≡ get_or xs at x → ((d : X) → nat_cmp (see (get_or xs at d)).header.id k ≡ Equal) → items ≡ (see x).kids
    → Some items ≡ kids_in k (all_items f)
bucket_found see f xs k at x items sound are lt is equal kids =
    let found = at_place (λ y. IsFoundIn (all_items f) (see y)) xs at x (All-unmap (IsFoundIn (all_items f)) see xs (All-permutation (IsFoundIn (all_items f)) (buckets_among (all_items f)) (map see xs) are.same (all_found (all_items f) (once_each f sound)))) lt in
    let same : (see (get_or xs at x)).header.id ≡ k = ranked _ k _ (sym (equal x)) in
    ap Some (kids ∙ ap (λ y. (see y).kids) is) ∙ sym found ∙ ap (λ b. kids_in b (all_items f)) same

comparisons_rise : {X : Type 0} (key : X → ℕ) (xs : List X) (k : ℕ) → IsNonDecreasingBy key xs → IsNonDecreasingBy (λ y. ordering_index (nat_cmp (key y) k)) xs
comparisons_rise key xs k up i j d le lt = let rise : key (get_or xs i d) ≤ key (get_or xs j d) = up i j d le lt in grind (arith, nat_tests)

none_has : {X : Type 0} (key : X → ℕ) (xs : List X) (k : ℕ) → ((j : ℕ) (d : X) → j < length xs → key (get_or xs j d) ≡ k → ⊥) → sum_by (λ x. one_if (key x == k)) xs ≡ 0
none_has key [] k other = refl
none_has key (x ∷ xs) k other = ⊎_elim
    (λ p. absurd (other 0 x (omega arith) p.1))
    (λ p. let no : one_if (key x == k) ≡ 0 = ap one_if p.0 in omega (arith, no, none_has key xs k (λ j d lt. other (suc j) d (omega (arith, lt))), sum_by-cons (λ y. one_if (key y == k)) x xs))
    (eqb_tells (key x) k)

pub bucket_absent : {X : Type 0} (see : X → BucketData) (f : ForestData) (xs : List X) (k at : ℕ) → AreBuckets see f xs
    → (IsNonDecreasingBy (λ y. ordering_index (nat_cmp (see y).header.id k)) xs → IsPartitionPoint (λ y. nat_cmp (see y).header.id k ≡ Less) (λ y. nat_cmp (see y).header.id k ≡ Greater) xs at)
    → None ≡ kids_in k (all_items f)
bucket_absent see f xs k at are parted =
    let parts = parted (comparisons_rise (λ y. (see y).header.id) xs k are.rising) in
    let none : sum_by (λ x. one_if ((see x).header.id == k)) xs ≡ 0 = none_has (λ x. (see x).header.id) xs k (λ j d lt same. ⊎_elim
    (λ p. let greater = ranked _ k _ (sym (parts.1 j d p.1 lt)) in omega (arith, greater, same))
    (λ p. let smaller = ranked _ k _ (sym (parts.0 j d (omega arith) p.1)) in omega (arith, smaller, same))
    (leb_tells at j)) in
    sym (none_in k (all_items f) (sym (numbered k (all_items f)) ∙ sym (sum_by-IsPermutation (λ (x : BucketData). one_if (x.header.id == k)) (buckets_among (all_items f)) (map see xs) are.same) ∙ sum_by-map (λ (x : BucketData). one_if (x.header.id == k)) see xs ∙ none))

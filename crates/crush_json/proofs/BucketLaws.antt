-- Buckets in the order of their ids, and the search for a bucket among them.
use Rattle.std.proofs.Common.{◌≡◌, ℕ, zero, suc, ◌+◌, ◌<◌, ◌≤◌, ◌==◌, false, true, List, [], ◌∷◌, ◌++◌, length, get_or, map, ap, sym, subst, ◌∙◌, refl, arith, ⊎_elim, Less, Equal, Greater}
use Rattle.std.specs.Prelude.{All, Bool, None}
use Rattle.std.specs.List.{sum_by}
use Rattle.std.specs.List.Sorted.{IsPermutation, IsNonDecreasingBy, IsPartitionPoint}
use Rattle.std.specs.Ordering.{nat_cmp, ordering_index}
use Rattle.std.proofs.lemmas.Bool.Decides.{eqb_tells, leb_tells, nat_tests}
use Rattle.std.proofs.lemmas.Cmp.{ranked}
use Rattle.std.proofs.lemmas.List.Elements.{All-nil, All-cons, All-head, All-tail}
use Rattle.std.proofs.lemmas.List.Sums.{sum_by-append, sum_by-cons}
use Rattle.std.proofs.lemmas.List.Sorted.{sum_by-IsPermutation}
use Rattle.crush_units.specs.declared.id.ItemId.TheVariants.{Bucket}
use Rattle.crush_model.specs.Count.{one_if}
use Rattle.crush_model.specs.Forest.{ForestData, all_items, rows_of}
use Rattle.crush_model.specs.Items.{BucketData, Items, none, device, bucket}
use Rattle.crush_model.specs.Stands.{Stands}
use Rattle.crush_model.specs.Table.{Row, is_there, kids}
use Rattle.crush_model.proofs.Found.{times as rows_of_id, is_there-times}
use Rattle.crush_model.proofs.Reorder.{reordered-sum, sum_by-map}
use Rattle.crush_model.proofs.Sums.{buckets, buckets-rows}
use Rattle.crush_units.specs.Id.{same_id}
use Rattle.crush_nodes.specs.Seen.{items_of, node_id}
use Rattle.crush_nodes.specs.declared.node.Node.{Node}
use Rattle.crush_tree.proofs.ReadLemmas.Items.{map-node_id}
use Rattle.crush_print.specs.ItemsText.{buckets_among}
use Rattle.crush_json.specs.ItemDocuments.{AreBuckets, item_ids}
use Rattle.crush_json.proofs.ItemLaws.{buckets_have_items, ids_are}
use Rattle.crush_json.proofs.Kids.{no_kids}

-- how many of the buckets have this id
abbrev hits : ℕ → List BucketData → ℕ
hits b bs = sum_by (λ (x : BucketData). one_if (x.header.id == b)) bs

hits_among : (b : ℕ) (n : Items) → hits b (buckets_among n) ≡ buckets b n
hits_among b none = refl
hits_among b (device d rest) = hits_among b rest
hits_among b (bucket h w m k rest) =
    let own : BucketData = record { header = h; weight = w; capacity = m; kids = k } in
    let test : BucketData → ℕ = λ x. one_if (x.header.id == b) in
    omega (arith, hits_among b k, hits_among b rest, sum_by-append test (buckets_among k ++ own ∷ []) (buckets_among rest), sum_by-append test (buckets_among k) (own ∷ []), sum_by-cons test own [])

no_hits : {X : Type 0} (see : X → BucketData) (b : ℕ) (xs : List X) → All (λ x. (see x).header.id ≡ b → ⊥) xs → sum_by (λ x. one_if ((see x).header.id == b)) xs ≡ 0
no_hits see b [] others = refl
no_hits see b (x ∷ xs) others =
    let no : one_if ((see x).header.id == b) ≡ 0 = ⊎_elim (λ q. absurd (All-head (λ x. (see x).header.id ≡ b → ⊥) x xs others q.1)) (λ q. ap one_if q.0) (eqb_tells (see x).header.id b) in
    omega (arith, no, no_hits see b xs (All-tail (λ x. (see x).header.id ≡ b → ⊥) x xs others), sum_by-cons (λ x. one_if ((see x).header.id == b)) x xs)

-- if a bucket isn't among the buckets of the forest, then it isn't in the table
not_there : (t : List Row) (b : ℕ) → rows_of_id (Bucket b) t ≡ 0 → false ≡ is_there t (Bucket b)
not_there t b none_has = by_test (is_there t (Bucket b)) refl where
  by_test : (z : Bool) → is_there t (Bucket b) ≡ z → false ≡ is_there t (Bucket b)
  by_test false e = sym e
  by_test true e = absurd (omega (arith, none_has, is_there-times t (Bucket b) e))

pub are_buckets : {X : Type 0} (see : X → BucketData) (f : ForestData) (t : List Row) (found sorted : List X) → map see found ≡ buckets_among (all_items f) → IsPermutation found sorted → IsNonDecreasingBy (λ x. (see x).header.id) sorted → Stands f t → AreBuckets see t sorted
are_buckets see f t found sorted are same up stands = record {
  items = buckets_have_items see f t found sorted are same stands;
  others = λ b others.
      let test : BucketData → ℕ = λ x. one_if (x.header.id == b) in
      let here : sum_by (λ x. test (see x)) sorted ≡ 0 = no_hits see b sorted others in
      let all : hits b (buckets_among (all_items f)) ≡ 0 = ap (hits b) (sym are) ∙ sum_by-map test see found ∙ sym (sum_by-IsPermutation (λ x. test (see x)) found sorted same) ∙ here in
      let rows : rows_of_id (Bucket b) t ≡ 0 = sym (reordered-sum (λ (r : Row). one_if (same_id r.id (Bucket b))) stands.same.rows) ∙ buckets-rows b None (all_items f) ∙ sym (hits_among b (all_items f)) ∙ all in
      no_kids f t b stands (not_there t b rows);
  rising = up;
}

-- THE SEARCH for a bucket finds the items that the table has in the bucket
told_at : {X : Type 0} (P : X → Type 0) (xs : List X) (i : ℕ) (d : X) → All P xs → i < length xs → P (get_or xs i d)
told_at P [] i d all lt = absurd (omega (arith, lt))
told_at P (x ∷ xs) zero d all lt = All-head P x xs all
told_at P (x ∷ xs) (suc i) d all lt = told_at P xs i d (All-tail P x xs all) (omega (arith, lt))

pub found_items : {A : _} {X : Type 0} (see : X → BucketData) (t : List Row) (xs : List X) (b k at : ℕ) (x : X) (ns : List (Node A)) → AreBuckets see t xs → k ≡ b → at < length xs → x ≡ get_or xs at x → ((d : X) → nat_cmp (see (get_or xs at d)).header.id k ≡ Equal)
    → items_of ns ≡ (see x).kids → map node_id ns ≡ kids t b
found_items see t xs b k at x ns buckets key lt is equal below =
    let same : (see x).header.id ≡ b = ap (λ y. (see y).header.id) is ∙ ranked _ k _ (sym (equal x)) ∙ key in
    map-node_id ns ∙ ids_are (items_of ns) ∙ ap item_ids below
    ∙ ap (λ y. item_ids (see y).kids) is ∙ sym (told_at (λ y. kids t (see y).header.id ≡ item_ids (see y).kids) xs at x buckets.items lt)
    ∙ ap (λ y. kids t (see y).header.id) (sym is) ∙ ap (kids t) same

comparisons_rise : {X : Type 0} (key : X → ℕ) (xs : List X) (k : ℕ) → IsNonDecreasingBy key xs → IsNonDecreasingBy (λ y. ordering_index (nat_cmp (key y) k)) xs
comparisons_rise key xs k up i j d le lt = let rise : key (get_or xs i d) ≤ key (get_or xs j d) = up i j d le lt in grind (arith, nat_tests)

all_other : {X : Type 0} (key : X → ℕ) (b : ℕ) (xs : List X) → ((j : ℕ) (d : X) → j < length xs → key (get_or xs j d) ≡ b → ⊥) → All (λ x. key x ≡ b → ⊥) xs
all_other key b [] other = All-nil (λ x. key x ≡ b → ⊥)
all_other key b (x ∷ xs) other = All-cons (λ x. key x ≡ b → ⊥) x xs (other 0 x (omega arith)) (all_other key b xs (λ j d lt. other (suc j) d (omega (arith, lt))))

-- if the search finds no bucket, then the table has no items in the bucket
pub found_none : {X : Type 0} (see : X → BucketData) (t : List Row) (xs : List X) (b k at : ℕ) → AreBuckets see t xs → k ≡ b
    → (IsNonDecreasingBy (λ y. ordering_index (nat_cmp (see y).header.id k)) xs → IsPartitionPoint (λ y. nat_cmp (see y).header.id k ≡ Less) (λ y. nat_cmp (see y).header.id k ≡ Greater) xs at)
    → [] ≡ kids t b
found_none see t xs b k at buckets key parted =
    let parts = parted (comparisons_rise (λ x. (see x).header.id) xs k buckets.rising) in
    sym (buckets.others b (all_other (λ x. (see x).header.id) b xs (λ j d lt same. ⊎_elim
    (λ p. let greater = ranked _ k _ (sym (parts.1 j d p.1 lt)) in omega (arith, greater, same, key))
    (λ p. let smaller = ranked _ k _ (sym (parts.0 j d (omega arith) p.1)) in omega (arith, smaller, same, key))
    (leb_tells at j))))

-- Places of entries in the order of their keys, and a search among them.
use Rattle.std.proofs.Common.{◌≡◌, ℕ, suc, ◌+◌, ◌<◌, ◌≤◌, List, [], ◌∷◌, ◌++◌, length, get_or, map, ap, sym, subst, ◌∙◌, refl, arith, append_assoc, length-append, length-take, take, ⊎_elim, Less, Equal, Greater}
use Rattle.std.specs.Prelude.{All, Option, None, Some, IfSome, filter_map, if◌then◌else◌}
use Rattle.std.specs.List.{slice_get, sum_by, cons_option}
use Rattle.std.specs.List.Sorted.{IsPermutation, IsNonDecreasingBy, IsPartitionPoint}
use Rattle.std.specs.Option.{option_map, option_map_or}
use Rattle.std.specs.Ordering.{nat_cmp, ordering_index}
use Rattle.std.proofs.lemmas.Bool.Decides.{leb_tells, nat_tests}
use Rattle.std.proofs.lemmas.List.{length-map, map_push, take_more}
use Rattle.std.proofs.lemmas.Cmp.{ranked}
use Rattle.std.proofs.lemmas.List.Sums.{sum_by-cons}
use Rattle.std.proofs.lemmas.List.Sorted.{All-permutation, sum_by-IsPermutation}
use Rattle.std.proofs.lemmas.List.Elements.{All-nil, All-cons, All-head, All-tail}
use Rattle.crush_units.specs.declared.id.ItemId.{ItemId}
use Rattle.crush_units.specs.declared.id.ItemId.TheVariants.{Device as DeviceItem, Bucket as BucketItem}
use Rattle.crush_units.specs.Id.{same_id}
use Rattle.crush_units.proofs.Ids.{same_id_tells}
use Rattle.crush_model.specs.Count.{one_if}
use Rattle.crush_model.specs.Lawful.{Lawful, IsRow, IsRowOf}
use Rattle.crush_model.specs.Table.{Row, row_of}
use Rattle.crush_model.proofs.Found.{row_of-absent}
use Rattle.crush_items.specs.ById.{AreById, IsPlaceIn, IsShort, entry_at, id_key, places_from}
use Rattle.crush_items.specs.Entries.{EntryData, entry_of, row_entry}
use Rattle.crush_items.specs.Items.{HasEntries, entry_id}
use Rattle.crush_items.specs.declared.by_id.Place.{Place}
use Rattle.crush_items.proofs.EntryLaws.{IsTold, summed}

-- what an element of a list is mapped to satisfies P, if the element is mapped to anything
abbrev pub Holds : {X Y : Type 0} → (Y → Type 0) → (X → Option Y) → X → Type 0
Holds P h x = IfSome (h x) P

all_there : {X Y : Type 0} (P : Y → Type 0) (h : X → Option Y) (xs : List X) → All (Holds P h) xs → All P (filter_map h xs)
all_there P h [] all = All-nil P
all_there {X} {Y} P h (x ∷ xs) all = step (h x) (All-head (Holds P h) x xs all) (all_there P h xs (All-tail (Holds P h) x xs all)) where
  step : (o : Option Y) → IfSome o P → All P (filter_map h xs) → All P (cons_option o (filter_map h xs))
  step None s rest = rest
  step (Some y) s rest = All-cons P y (filter_map h xs) s rest

there_all : {X Y : Type 0} (P : Y → Type 0) (h : X → Option Y) (xs : List X) → All P (filter_map h xs) → All (Holds P h) xs
there_all P h [] all = All-nil (Holds P h)
there_all {X} {Y} P h (x ∷ xs) all = All-cons (Holds P h) x xs (first (h x) all) (there_all P h xs (rest (h x) all)) where
  first : (o : Option Y) → All P (cons_option o (filter_map h xs)) → IfSome o P
  first None a = tt
  first (Some y) a = All-head P y (filter_map h xs) a

  rest : (o : Option Y) → All P (cons_option o (filter_map h xs)) → All P (filter_map h xs)
  rest None a = a
  rest (Some y) a = All-tail P y (filter_map h xs) a

sum_there : {X Y : Type 0} (f : Y → ℕ) (h : X → Option Y) (xs : List X) → sum_by f (filter_map h xs) ≡ sum_by (λ x. option_map_or f (h x) 0) xs
sum_there f h [] = refl
sum_there {X} {Y} f h (x ∷ xs) = step (h x) ∙ ap (λ m. option_map_or f (h x) 0 + m) (sum_there f h xs) ∙ sym (sum_by-cons (λ y. option_map_or f (h y) 0) x xs) where
  step : (o : Option Y) → sum_by f (cons_option o (filter_map h xs)) ≡ option_map_or f o 0 + sum_by f (filter_map h xs)
  step None = omega arith
  step (Some y) = sum_by-cons f y (filter_map h xs)

-- PLACES in the order of the entries: each place has its entry's position and key
get_behind : {X : Type 0} (before : List X) (x : X) (rest : List X) → slice_get (before ++ x ∷ rest) (length before) ≡ Some x
get_behind [] x rest = refl
get_behind (y ∷ before) x rest = get_behind before x rest

abbrev place : ℕ → EntryData → Place
place at e = record { key = id_key (entry_id e); at = at }

here : (all before : List EntryData) (e : EntryData) (rest : List EntryData) (at : ℕ) → all ≡ before ++ e ∷ rest → at ≡ length before → entry_at all (place at e) ≡ Some e
here all before e rest at is n = (λ i. slice_get (is i) (n i)) ∙ get_behind before e rest

places_placed : (all before es : List EntryData) (at : ℕ) → all ≡ before ++ es → at ≡ length before → All (IsPlaceIn all) (places_from at es)
places_placed all before [] at is n = All-nil (IsPlaceIn all)
places_placed all before (e ∷ es) at is n =
    All-cons (IsPlaceIn all) (place at e) (places_from (at + 1) es) (ap (option_map (λ x. id_key (entry_id x))) (here all before e es at is n))
    (places_placed all (before ++ e ∷ []) es (at + 1) (is ∙ sym (append_assoc before (e ∷ []) es)) (omega (arith, n, length-append before (e ∷ []))))

places_list : (all before es : List EntryData) (at : ℕ) → all ≡ before ++ es → at ≡ length before → filter_map (entry_at all) (places_from at es) ≡ es
places_list all before [] at is n = refl
places_list all before (e ∷ es) at is n =
    ap (λ o. cons_option o (filter_map (entry_at all) (places_from (at + 1) es))) (here all before e es at is n)
    ∙ ap (λ (l : List EntryData). e ∷ l) (places_list all (before ++ e ∷ []) es (at + 1) (is ∙ sym (append_assoc before (e ∷ []) es)) (omega (arith, n, length-append before (e ∷ []))))

-- BY ID: after the places are sorted by their keys, they are in the order of the ids
pub sorted_by_id : (t : List Row) (es : List EntryData) (ps qs : List Place) → HasEntries t es → ps ≡ places_from 0 es → IsPermutation ps qs → IsNonDecreasingBy (λ (p : Place). p.key) qs → AreById t es qs
sorted_by_id t es ps qs has are same up =
    let listed : filter_map (entry_at es) ps ≡ es = ap (filter_map (entry_at es)) are ∙ places_list es [] es 0 refl refl in
    record {
      placed = All-permutation (IsPlaceIn es) ps qs same (subst (All (IsPlaceIn es)) (sym are) (places_placed es [] es 0 refl refl));
      lists = record {
        told = all_there (IsTold t) (entry_at es) qs (All-permutation (Holds (IsTold t) (entry_at es)) ps qs same (there_all (IsTold t) (entry_at es) ps (subst (All (IsTold t)) (sym listed) has.told)));
        ids = λ n.
            sum_there (λ (e : EntryData). n e.item.view.id) (entry_at es) qs ∙ sum_by-IsPermutation (λ p. option_map_or (λ (e : EntryData). n e.item.view.id) (entry_at es p) 0) ps qs same
            ∙ sym (sum_there (λ (e : EntryData). n e.item.view.id) (entry_at es) ps) ∙ ap (summed n) listed ∙ has.ids n;
      };
      rising = up;
    }

-- A SEARCH: two short ids that have the same key are equal
same_key : (i j : ItemId) → IsShort i → IsShort j → id_key i ≡ id_key j → i ≡ j
same_key (DeviceItem d) (DeviceItem e) a b h = ap DeviceItem (omega (arith, h))
same_key (BucketItem b) (BucketItem c) x y h = ap BucketItem (omega (arith, h))
same_key (DeviceItem d) (BucketItem c) a b h = absurd (omega (arith, h, b))
same_key (BucketItem b) (DeviceItem e) x y h = absurd (omega (arith, h, x))

-- the ids of a lawful table are short
row_short : (t : List Row) (i : ItemId) (r : Row) → All IsRow t → row_of t i ≡ Some r → IsShort i
row_short [] i r rows found = absurd cc
row_short (x ∷ t) i r rows found = ⊎_elim
    (λ p. short x.id i p.1 (All-head IsRow x t rows).form)
    (λ p. row_short t i r (All-tail IsRow x t rows) (sym (ap (λ b. if b then Some x else row_of t i) p.0) ∙ found))
    (same_id_tells x.id i) where
      short : (j k : ItemId) → j ≡ k → IsRowOf j x → IsShort k
      short (DeviceItem d) k e form = subst IsShort e tt
      short (BucketItem b) k e form = subst IsShort e (let most = form.most in omega (arith, most))

entry_short : (t : List Row) (i : ItemId) (e : EntryData) → All IsRow t → entry_of t i ≡ Some e → IsShort i
entry_short t i e rows found = by_row (row_of t i) refl found where
  by_row : (o : Option Row) → row_of t i ≡ o → option_map (row_entry t i) o ≡ Some e → IsShort i
  by_row None is f = absurd cc
  by_row (Some r) is f = row_short t i r rows is

-- if a place has the key of an id, then the entry at this place is the entry that the table has for the id
pub found_here : (t : List Row) (es : List EntryData) (ps : List Place) (i : ItemId) (at : ℕ) (d : Place) → Lawful t → AreById t es ps → at < length ps → (get_or ps at d).key ≡ id_key i → IsShort i
    → Some (entry_at es (get_or ps at d)) ≡ option_map Some (entry_of t i)
found_here t es ps i at d lawful by_id lt key short = by_entry (entry_at es (get_or ps at d)) (by_id.placed at d lt) (there_all (IsTold t) (entry_at es) ps by_id.lists.told at d lt) where
  by_entry : (o : Option EntryData) → option_map (λ e. id_key (entry_id e)) o ≡ Some (get_or ps at d).key → IfSome o (IsTold t) → Some o ≡ option_map Some (entry_of t i)
  by_entry None placed told = absurd cc
  by_entry (Some e) placed told =
      let one : id_key (entry_id e) ≡ (get_or ps at d).key = cc in
      let same : entry_id e ≡ i = same_key (entry_id e) i (entry_short t (entry_id e) e lawful.rows told) short (one ∙ key) in
      ap (option_map Some) (sym told ∙ ap (entry_of t) same)

-- if no place has the key of an id, then no entry has this id
none_there : (es : List EntryData) (ps : List Place) (i : ItemId) → All (IsPlaceIn es) ps → ((j : ℕ) (d : Place) → j < length ps → (get_or ps j d).key ≡ id_key i → ⊥)
    → sum_by (λ e. one_if (same_id (entry_id e) i)) (filter_map (entry_at es) ps) ≡ 0
none_there es [] i placed other = refl
none_there es (p ∷ ps) i placed other = step (entry_at es p) (All-head (IsPlaceIn es) p ps placed) (none_there es ps i (All-tail (IsPlaceIn es) p ps placed) (λ j d lt. other (suc j) d (omega (arith, lt)))) where
  step : (o : Option EntryData) → option_map (λ e. id_key (entry_id e)) o ≡ Some p.key → sum_by (λ e. one_if (same_id (entry_id e) i)) (filter_map (entry_at es) ps) ≡ 0
      → sum_by (λ e. one_if (same_id (entry_id e) i)) (cons_option o (filter_map (entry_at es) ps)) ≡ 0
  step None key rest = absurd cc
  step (Some e) key rest =
      let one : id_key (entry_id e) ≡ p.key = cc in
      ⊎_elim
      (λ q. absurd (other 0 p (omega arith) (sym one ∙ ap id_key q.1)))
      (λ q. let no : one_if (same_id (entry_id e) i) ≡ 0 = ap one_if q.0 in omega (arith, no, rest, sum_by-cons (λ x. one_if (same_id (entry_id x) i)) e (filter_map (entry_at es) ps)))
      (same_id_tells (entry_id e) i)

comparisons_rise : {X : Type 0} (key : X → ℕ) (xs : List X) (k : ℕ) → IsNonDecreasingBy key xs → IsNonDecreasingBy (λ y. ordering_index (nat_cmp (key y) k)) xs
comparisons_rise key xs k up i j d le lt = let rise : key (get_or xs i d) ≤ key (get_or xs j d) = up i j d le lt in grind (arith, nat_tests)

pub found_nowhere : (t : List Row) (es : List EntryData) (ps : List Place) (i : ItemId) (k at : ℕ) → AreById t es ps → k ≡ id_key i
    → (IsNonDecreasingBy (λ (p : Place). ordering_index (nat_cmp p.key k)) ps → IsPartitionPoint (λ (p : Place). nat_cmp p.key k ≡ Less) (λ (p : Place). nat_cmp p.key k ≡ Greater) ps at)
    → None ≡ option_map Some (entry_of t i)
found_nowhere t es ps i k at by_id key parted =
    let parts = parted (comparisons_rise (λ (p : Place). p.key) ps k by_id.rising) in
    let none = none_there es ps i by_id.placed (λ j d lt same. ⊎_elim
    (λ p. let greater = ranked _ k _ (sym (parts.1 j d p.1 lt)) in omega (arith, greater, same, key))
    (λ p. let smaller = ranked _ k _ (sym (parts.0 j d (omega arith) p.1)) in omega (arith, smaller, same, key))
    (leb_tells at j)) in
    ap (λ o. option_map Some (option_map (row_entry t i) o)) (sym (row_of-absent t i (sym (by_id.lists.ids (λ j. one_if (same_id j i))) ∙ none)))

-- the place that a search finds has the key that was searched for
pub found_key : (ps : List Place) (k at : ℕ) (d : Place) → ((d : Place) → nat_cmp (get_or ps at d).key k ≡ Equal) → (get_or ps at d).key ≡ k
found_key ps k at d equal = ranked _ k _ (sym (equal d))

-- one more entry adds one place at the end
places_more : (at : ℕ) (es : List EntryData) (e : EntryData) → places_from at (es ++ e ∷ []) ≡ places_from at es ++ place (at + length es) e ∷ []
places_more at [] e = ap (λ n. place n e ∷ []) (let same : at ≡ at + 0 = omega arith in same)
places_more at (x ∷ es) e =
    ap (λ (l : List Place). place at x ∷ l) (places_more (at + 1) es e)
    ∙ ap (λ n. place at x ∷ (places_from (at + 1) es ++ place n e ∷ [])) (let same : at + 1 + length es ≡ at + length (x ∷ es) = omega arith in same)

pub places_next : {X : Type 0} (see : X → EntryData) (xs : List X) (i : ℕ) (x : X) (old : List Place) (p : Place) → i < length xs → x ≡ get_or xs i x → old ≡ places_from 0 (map see (take i xs))
    → p.key ≡ id_key (entry_id (see x)) → p.at ≡ i → old ++ p ∷ [] ≡ places_from 0 (map see (take (i + 1) xs))
places_next see xs i x old p lt is before key at =
    let size : length (map see (take i xs)) ≡ i = length-map (take i xs) see ∙ length-take i xs ∙ omega (arith, lt) in
    let from_0 : 0 + length (map see (take i xs)) ≡ i = omega (arith, size) in
    let own : p ≡ place (0 + length (map see (take i xs))) (see x) = (λ j. record { key = key j; at = (at ∙ sym from_0) j }) in
    (λ j. before j ++ own j ∷ []) ∙ sym (places_more 0 (map see (take i xs)) (see x)) ∙ ap (places_from 0) (sym (map_push see (take i xs) x) ∙ ap (map see) (sym (take_more xs i x lt ∙ ap (λ y. take i xs ++ y ∷ []) (sym is))))

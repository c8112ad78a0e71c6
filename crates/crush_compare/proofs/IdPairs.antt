-- Proves that if two lawful tables are matched by ids, there is one pair for each id that at least one of the tables has.
use Rattle.std.proofs.Common.{◌≡◌, ◌≢◌, ℕ, suc, ◌+◌, ◌<◌, ◌≤◌, ◌==◌, ◌||◌, Bool, true, false, nat_lt, List, [], ◌∷◌, Option, Some, None, length, get_or, refl, sym, ap, subst, ◌∙◌, arith, map, filter_map, if◌then◌else◌, ◌⊎◌, inl, inr, ⊎_elim}
use Rattle.std.specs.Prelude.{All, option_and_then}
use Rattle.std.specs.Cmp.Lexicographic.{pointwise}
use Rattle.std.specs.List.{slice_get, sum_by, cons_option}
use Rattle.std.specs.List.Sorted.{IsNonDecreasingBy}
use Rattle.std.specs.Option.{option_map, option_map_or}
use Rattle.std.proofs.lemmas.Bool.{eqb-true, eqb-false}
use Rattle.std.proofs.lemmas.Bool.Decides.{nat_tests}
use Rattle.std.proofs.lemmas.List.Sums.{sum_by-cons}
use Rattle.std.proofs.lemmas.List.Elements.{All-head, All-tail, All-weaker}
use Rattle.crush_units.specs.declared.id.ItemId.{ItemId}
use Rattle.crush_units.specs.declared.id.ItemId.TheVariants.{Device, Bucket}
use Rattle.crush_units.specs.Id.{same_id}
use Rattle.crush_units.proofs.Ids.{same_id_refl, same_id_tells}
use Rattle.crush_model.specs.Count.{one_if}
use Rattle.crush_model.specs.Lawful.{Lawful, IsRow, IsRowOf}
use Rattle.crush_model.specs.Table.{Row, row_of}
use Rattle.crush_model.proofs.Found.{row_of-absent}
use Rattle.crush_model.proofs.Moved.{row_id}
use Rattle.crush_model.proofs.Renamed.{All-row}
use Rattle.crush_model.proofs.Reorder.{sum_by-map}
use Rattle.crush_compare.specs.AllIds.{all_ids}
use Rattle.crush_items.specs.ById.{AreById, IsPlaceIn, IsShort, entry_at, id_key}
use Rattle.crush_items.specs.Entries.{EntryData, entry_of, row_entry}
use Rattle.crush_compare.specs.IdPairs.{AreBothById, DifferencesOfIds, EachIdOnce, EachItemOnceByIds, EntryPair, KeysOfAllIds, entries_at, id_entries}
use Rattle.crush_compare.specs.Difference.{difference_by_ids}
use Rattle.crush_items.specs.Items.{HasEntries, entry_id}
use Rattle.crush_compare.specs.SameItem.{same_class_id}
use Rattle.crush_compare.specs.Pairs.{ArePairsOf, RiseFrom, Rise, key_pair, keys, place_of, position, positions}
use Rattle.crush_compare.specs.declared.by_id.KeyPair.{KeyPair}
use Rattle.crush_items.specs.declared.by_id.Place.{Place}
use Rattle.crush_items.proofs.EntryLaws.{entry_item, entry_class_ids}
use Rattle.crush_compare.proofs.FoundLaws.{found_pairs, keys_of_pairs}
use Rattle.crush_compare.proofs.IdKeys.{has-all_ids, rise-all_ids, row_keys, short_ids}
use Rattle.crush_compare.proofs.KeyLaws.{UpFrom, has, more_than}

same_key : (i j : ItemId) → IsShort i → IsShort j → id_key i ≡ id_key j → i ≡ j
same_key (Device d) (Device e) x y h = ap Device (omega (arith, h))
same_key (Bucket b) (Bucket c) x y h = ap Bucket h
same_key (Device d) (Bucket c) x y h = absurd (omega (arith, h, y))
same_key (Bucket b) (Device e) x y h = absurd (omega (arith, h, x))

-- in a lawful table the number of each bucket is less than 2^32, which `IsShort` says
short_row : (i : ItemId) (r : Row) → IsRowOf i r → IsShort i
short_row (Device d) r row = tt
short_row (Bucket b) r row = let most : b ≤ 2147483648 = row.most in omega (arith, most)

short_by : (t : List Row) (i : ItemId) (e : EntryData) (o : Option Row) → row_of t i ≡ o → option_map (row_entry t i) o ≡ Some e → All IsRow t → IsShort i
short_by t i e None found is rows = absurd (grind (arith, is))
short_by t i e (Some r) found is rows = short_row i r (subst (λ j. IsRowOf j r) (row_id i t r found) (All-row IsRow t rows i r found).form)

abbrev Told : List Row → EntryData → Type 0
Told t e = entry_of t (entry_id e) ≡ Some e

short_told : (t : List Row) (e : EntryData) → All IsRow t → Told t e → IsShort (entry_id e)
short_told t e rows told = short_by t (entry_id e) e (row_of t (entry_id e)) refl told rows

-- the entries at the positions of the places ps, and the keys of these entries
abbrev found : List EntryData → List Place → List EntryData
found es ps = filter_map (entry_at es) ps

abbrev entry_key : EntryData → ℕ
entry_key e = id_key (entry_id e)

keys_by : (es : List EntryData) (p : Place) (ps : List Place) (o : Option EntryData) → option_map entry_key o ≡ Some p.key → keys ps ≡ map entry_key (found es ps) → p.key ∷ keys ps ≡ map entry_key (cons_option o (found es ps))
keys_by es p ps None is rest = absurd (grind (arith, is))
keys_by es p ps (Some e) is rest = (λ i. key (sym is) i ∷ rest i) where
  key : Some p.key ≡ Some (entry_key e) → p.key ≡ entry_key e
  key h = ap (λ o. option_map_or (λ (n : ℕ). n) o 0) h

keys_of : (es : List EntryData) (ps : List Place) → All (IsPlaceIn es) ps → keys ps ≡ map entry_key (found es ps)
keys_of es [] placed = refl
keys_of es (p ∷ ps) placed = keys_by es p ps (entry_at es p) (All-head (IsPlaceIn es) p ps placed) (keys_of es ps (All-tail (IsPlaceIn es) p ps placed))

-- A PLACE OF A KEY: the entry at the place of an id's key is what the table has for this id
abbrev times_in : ItemId → List EntryData → ℕ
times_in i es = sum_by (λ e. one_if (same_id (entry_id e) i)) es

other_id : (i j : ItemId) → (id_key i ≡ id_key j → ⊥) → one_if (same_id j i) ≡ 0
other_id i j other = ⊎_elim (λ p. absurd (other (ap id_key (sym p.1)))) (λ p. ap one_if p.0) (same_id_tells j i)

-- the step of this proof for one more place p, by the entry at p's position and by whether p's key is the id's key
of_one : (t : List Row) (es : List EntryData) (p : Place) (ps : List Place) (i : ItemId) (o : Option EntryData) (b : Bool) → All IsRow t → IsShort i
    → entry_at es p ≡ o → option_map entry_key o ≡ Some p.key → All (Told t) (cons_option o (found es ps)) → (id_key i == p.key) ≡ b
    → (option_and_then (entry_at es) (place_of (id_key i) ps) ≡ entry_of t i) ⊎ ((place_of (id_key i) ps ≡ None) × (times_in i (found es ps) ≡ 0))
    → (option_and_then (entry_at es) (if b then Some p else place_of (id_key i) ps) ≡ entry_of t i) ⊎ (((if b then Some p else place_of (id_key i) ps) ≡ None) × (times_in i (cons_option o (found es ps)) ≡ 0))
of_one t es p ps i None b rows short at key told is rest = absurd (grind (arith, key))
of_one t es p ps i (Some e) true rows short at key told is rest =
    let own : Told t e = All-head (Told t) e (found es ps) told in
    let same : entry_key e ≡ id_key i = ap (λ o. option_map_or (λ (n : ℕ). n) o 0) key ∙ sym (eqb-true (id_key i) p.key is) in
    inl (at ∙ sym own ∙ ap (entry_of t) (same_key (entry_id e) i (short_told t e rows own) short same))
of_one t es p ps i (Some e) false rows short at key told is (inl rest) = inl rest
of_one t es p ps i (Some e) false rows short at key told is (inr rest) =
    let key_is : entry_key e ≡ p.key = ap (λ o. option_map_or (λ (n : ℕ). n) o 0) key in
    let no : one_if (same_id (entry_id e) i) ≡ 0 = other_id i (entry_id e) (λ h. eqb-false (id_key i) p.key is (h ∙ key_is)) in
    inr (rest.0, omega (arith, no, rest.1, sum_by-cons (λ x. one_if (same_id (entry_id x) i)) e (found es ps)))

All-rest : (t : List Row) (o : Option EntryData) (es : List EntryData) → All (Told t) (cons_option o es) → All (Told t) es
All-rest t None es told = told
All-rest t (Some e) es told = All-tail (Told t) e es told

look : (t : List Row) (es : List EntryData) (ps : List Place) (i : ItemId) → All IsRow t → IsShort i → All (IsPlaceIn es) ps → All (Told t) (found es ps)
    → (option_and_then (entry_at es) (place_of (id_key i) ps) ≡ entry_of t i) ⊎ ((place_of (id_key i) ps ≡ None) × (times_in i (found es ps) ≡ 0))
look t es [] i rows short placed told = inr (refl, refl)
look t es (p ∷ ps) i rows short placed told =
    of_one t es p ps i (entry_at es p) (id_key i == p.key) rows short refl (All-head (IsPlaceIn es) p ps placed) told refl
    (look t es ps i rows short (All-tail (IsPlaceIn es) p ps placed) (All-rest t (entry_at es p) (found es ps) told))

pub looked_up : (t : List Row) (es : List EntryData) (ps : List Place) (i : ItemId) → Lawful t → AreById t es ps → IsShort i → option_and_then (entry_at es) (place_of (id_key i) ps) ≡ entry_of t i
looked_up t es ps i lawful by_id short = ⊎_elim
    (λ h. h)
    (λ h. ap (option_and_then (entry_at es)) h.0 ∙ sym (ap (option_map (row_entry t i)) (row_of-absent t i (sym (by_id.lists.ids (λ j. one_if (same_id j i))) ∙ h.1))))
    (look t es ps i lawful.rows short by_id.placed by_id.lists.told)

-- THE KEYS RISE, because no two rows have the same id
up_keys : (low : ℕ) (ps : List Place) → IsNonDecreasingBy (λ (p : Place). p.key) ps → ((d : Place) → 0 < length ps → low ≤ (get_or ps 0 d).key) → UpFrom low (keys ps)
up_keys low [] up least = tt
up_keys low (p ∷ ps) up least =
    (least p (omega arith), up_keys p.key ps (λ i j d le lt. up (suc i) (suc j) d (omega (arith, le)) (omega (arith, lt))) (λ d some. up 0 1 d (omega arith) (omega (arith, some))))

raised_by : (k : ℕ) (i : ItemId) (e : EntryData) (es : List EntryData) → id_key i ≡ k → IsShort i → IsShort (entry_id e) → times_in i (e ∷ es) ≡ 0 → k ≤ entry_key e
    → ((same_id (entry_id e) i ≡ true) × (entry_id e ≡ i)) ⊎ ((same_id (entry_id e) i ≡ false) × (entry_id e ≢ i)) → k + 1 ≤ entry_key e
raised_by k i e es is short own none least (inl p) = absurd (let one : one_if (same_id (entry_id e) i) ≡ 1 = ap one_if p.0 in omega (arith, one, none, sum_by-cons (λ x. one_if (same_id (entry_id x) i)) e es))
raised_by k i e es is short own none least (inr p) = more_than k (entry_key e) least (λ h. p.1 (same_key (entry_id e) i own short (sym h ∙ sym is)))

raised : (k : ℕ) (i : ItemId) (es : List EntryData) → id_key i ≡ k → IsShort i → All (λ e. IsShort (entry_id e)) es → times_in i es ≡ 0 → UpFrom k (map entry_key es) → UpFrom (k + 1) (map entry_key es)
raised k i [] is short all none up = tt
raised k i (e ∷ es) is short all none up =
    (raised_by k i e es is short (All-head (λ x. IsShort (entry_id x)) e es all) none up.0 (same_id_tells (entry_id e) i), up.1)

rise_entries : (low : ℕ) (es : List EntryData) → UpFrom low (map entry_key es) → All (λ e. IsShort (entry_id e)) es → ((i : ItemId) → times_in i es ≤ 1) → RiseFrom low (map entry_key es)
rise_entries low [] up all once = tt
rise_entries low (e ∷ es) up all once =
    let own : one_if (same_id (entry_id e) (entry_id e)) ≡ 1 = ap one_if (same_id_refl (entry_id e)) in
    let rest : All (λ x. IsShort (entry_id x)) es = All-tail (λ x. IsShort (entry_id x)) e es all in
    let none : times_in (entry_id e) es ≡ 0 = omega (arith, own, once (entry_id e), sum_by-cons (λ x. one_if (same_id (entry_id x) (entry_id e))) e es) in (
      up.0,
      rise_entries (entry_key e + 1) es (raised (entry_key e) (entry_id e) es refl (All-head (λ x. IsShort (entry_id x)) e es all) rest none up.1) rest
          (λ i. omega (arith, once i, sum_by-cons (λ x. one_if (same_id (entry_id x) i)) e es)),
    )

pub by_id_rises : (t : List Row) (es : List EntryData) (ps : List Place) → Lawful t → AreById t es ps → Rise (keys ps)
by_id_rises t es ps lawful by_id =
    let are : keys ps ≡ map entry_key (found es ps) = keys_of es ps by_id.placed in
    subst Rise (sym are)
    (rise_entries 0 (found es ps) (subst (UpFrom 0) are (up_keys 0 ps by_id.rising (λ d some. omega arith)))
    (All-weaker (Told t) (λ e. IsShort (entry_id e)) (λ e. short_told t e lawful.rows) (found es ps) by_id.lists.told)
    (λ i. omega (arith, by_id.lists.ids (λ j. one_if (same_id j i)), lawful.ids i)))

-- the keys of the places are the keys of the rows
less : (n : ℕ) → 0 < n → true ≡ nat_lt 0 n
less n some = grind (arith, nat_tests)

has_sum_by : (k x : ℕ) (xs : List ℕ) (b : Bool) → (k == x) ≡ b → has k xs ≡ nat_lt 0 (sum_by (λ y. one_if (k == y)) xs) → (b || has k xs) ≡ nat_lt 0 (sum_by (λ y. one_if (k == y)) (x ∷ xs))
has_sum_by k x xs true is rest = let one : one_if (k == x) ≡ 1 = ap one_if is in less (sum_by (λ y. one_if (k == y)) (x ∷ xs)) (omega (arith, one, sum_by-cons (λ y. one_if (k == y)) x xs))
has_sum_by k x xs false is rest = let none : one_if (k == x) ≡ 0 = ap one_if is in rest ∙ ap (nat_lt 0) (omega (arith, none, sum_by-cons (λ y. one_if (k == y)) x xs))

pub has-sum : (k : ℕ) (xs : List ℕ) → has k xs ≡ nat_lt 0 (sum_by (λ x. one_if (k == x)) xs)
has-sum k [] = refl
has-sum k (x ∷ xs) = has_sum_by k x xs (k == x) refl (has-sum k xs)

has_by_id : (k : ℕ) (t : List Row) (es : List EntryData) (ps : List Place) → AreById t es ps → has k (keys ps) ≡ has k (row_keys t)
has_by_id k t es ps by_id =
    ap (has k) (keys_of es ps by_id.placed) ∙ has-sum k (map entry_key (found es ps))
    ∙ ap (nat_lt 0) (sum_by-map (λ x. one_if (k == x)) entry_key (found es ps) ∙ by_id.lists.ids (λ i. one_if (k == id_key i)) ∙ sym (sum_by-map (λ x. one_if (k == x)) (λ (r : Row). id_key r.id) t))
    ∙ sym (has-sum k (row_keys t))

-- THE KEYS of the pairs are the keys of all ids of the tables
pub keys_of_all_ids : KeysOfAllIds
keys_of_all_ids t u es fs old new ps both are =
    keys_of_pairs old new ps (map id_key (all_ids t u)) are (rise-all_ids t u both.old_lawful both.new_lawful)
    (λ k. has-all_ids k t u ∙ (λ i. sym (has_by_id k t es old both.before) i || sym (has_by_id k u fs new both.after) i))

-- EACH ID ONCE: there is one pair for each id
pub at_position : (es : List EntryData) (o : Option Place) → option_and_then (slice_get es) (position o) ≡ option_and_then (entry_at es) o
at_position es None = refl
at_position es (Some p) = refl

of_ids : (t u : List Row) (es fs : List EntryData) (old new : List Place) (is : List ItemId) → AreBothById t u es fs old new → All IsShort is
    → map (entries_at es fs) (map positions (map (key_pair old new) (map id_key is))) ≡ map (id_entries t u) is
of_ids t u es fs old new [] both short = refl
of_ids t u es fs old new (i ∷ is) both short =
    let own : IsShort i = All-head IsShort i is short in
    let before = at_position es (place_of (id_key i) old) ∙ looked_up t es old i both.old_lawful both.before own in
    let after = at_position fs (place_of (id_key i) new) ∙ looked_up u fs new i both.new_lawful both.after own in
    λ k. record { before = before k; after = after k } ∷ of_ids t u es fs old new is both (All-tail IsShort i is short) k

pub each_id_once : EachIdOnce
each_id_once t u es fs old new ps both pairs =
    let h : ArePairsOf old new ps = pairs (by_id_rises t es old both.old_lawful both.before) (by_id_rises u fs new both.new_lawful both.after) in
    ap (map (entries_at es fs)) (h.are ∙ ap (map positions) (found_pairs old new h.keyed h.of_keys ∙ ap (map (key_pair old new)) (keys_of_all_ids t u es fs old new h.keyed both h.of_keys)))
    ∙ of_ids t u es fs old new (all_ids t u) both (short_ids t u both.old_lawful both.new_lawful)

-- EACH ITEM ONCE: each item of either table is in exactly one pair
before_by : (es : List EntryData) (o : Option Place) (xs : List EntryData) (ps : List Place) → xs ≡ found es ps → cons_option (option_and_then (slice_get es) (position o)) xs ≡ found es (cons_option o ps)
before_by es None xs ps rest = rest
before_by es (Some x) xs ps rest = ap (cons_option (entry_at es x)) rest

befores_found : (es fs : List EntryData) (ps : List KeyPair) → filter_map (λ (q : EntryPair). q.before) (map (entries_at es fs) (map positions ps)) ≡ found es (filter_map (λ (p : KeyPair). p.before) ps)
befores_found es fs [] = refl
befores_found es fs (p ∷ ps) = before_by es p.before _ (filter_map (λ (q : KeyPair). q.before) ps) (befores_found es fs ps)

afters_found : (es fs : List EntryData) (ps : List KeyPair) → filter_map (λ (q : EntryPair). q.after) (map (entries_at es fs) (map positions ps)) ≡ found fs (filter_map (λ (p : KeyPair). p.after) ps)
afters_found es fs [] = refl
afters_found es fs (p ∷ ps) = before_by fs p.after _ (filter_map (λ (q : KeyPair). q.after) ps) (afters_found es fs ps)

pub each_item_once : EachItemOnceByIds
each_item_once t u es fs old new ps both pairs =
    let h : ArePairsOf old new ps = pairs (by_id_rises t es old both.old_lawful both.before) (by_id_rises u fs new both.new_lawful both.after) in
    record {
      before = subst (HasEntries t) (sym (ap (λ qs. filter_map (λ (q : EntryPair). q.before) (map (entries_at es fs) qs)) h.are ∙ befores_found es fs h.keyed ∙ ap (found es) h.of_keys.before)) both.before.lists;
      after = subst (HasEntries u) (sym (ap (λ qs. filter_map (λ (q : EntryPair). q.after) (map (entries_at es fs) qs)) h.are ∙ afters_found es fs h.keyed ∙ ap (found fs) h.of_keys.after)) both.after.lists;
    }

-- WHAT DIFFERS: the difference that is found for the pair of an id is the difference between what the tables say about this id
pub differences_of_ids : DifferencesOfIds
differences_of_ids report s p t u i =
    λ k. difference_by_ids report (entry_item t i k) (entry_item u i k) (pointwise same_class_id (entry_class_ids t i k) (entry_class_ids u i k))

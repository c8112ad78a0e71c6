-- Proves that each pair has the places that the two lists have for the pair's key.
use Rattle.std.proofs.Common.{◌≡◌, ℕ, ◌+◌, ◌≤◌, ◌==◌, ◌||◌, Bool, true, false, List, [], ◌∷◌, Option, Some, None, All, map, filter_map, refl, sym, ap, ◌∙◌, arith, if◌then◌else◌}
use Rattle.std.specs.List.{cons_option}
use Rattle.std.specs.Option.{option_map_or}
use Rattle.std.proofs.lemmas.Bool.{eqb-true, eq-eqb}
use Rattle.std.proofs.lemmas.List.Elements.{All-head, All-tail}
use Rattle.crush_compare.specs.declared.by_id.KeyPair.{KeyPair}
use Rattle.crush_items.specs.declared.by_id.Place.{Place}
use Rattle.crush_compare.specs.Pairs.{RiseFrom, Rise, keys, AreOne, IsOne, either_key, pair_key, AreKeyPairsOf, OneAnswer, positions, place_of, key_pair}
use Rattle.crush_compare.proofs.KeyLaws.{has, has-pairs, unique}

abbrev befores : List KeyPair → List Place
befores ps = filter_map (λ (p : KeyPair). p.before) ps

abbrev afters : List KeyPair → List Place
afters ps = filter_map (λ (p : KeyPair). p.after) ps

-- a key that is less than all keys of a list isn't in the list
absent_by : (k : ℕ) (x : Place) (xs : List Place) (b : Bool) → (k == x.key) ≡ b → k + 1 ≤ x.key → place_of k xs ≡ None → (if b then Some x else place_of k xs) ≡ None
absent_by k x xs true is less rest = absurd (omega (arith, eqb-true k x.key is, less))
absent_by k x xs false is less rest = rest

-- a search for the key of a list's first place finds this place
here : (k : ℕ) (x : Place) (xs : List Place) → k ≡ x.key → place_of k (x ∷ xs) ≡ Some x
here k x xs same = ap (λ b. if b then Some x else place_of k xs) (eq-eqb k x.key same)

-- a search for a key that is greater than the first place's key finds the same in the list as in the list without its first place
later_by : (k : ℕ) (x : Place) (xs : List Place) (b : Bool) → (k == x.key) ≡ b → x.key + 1 ≤ k → (if b then Some x else place_of k xs) ≡ place_of k xs
later_by k x xs true is more = absurd (omega (arith, eqb-true k x.key is, more))
later_by k x xs false is more = refl

later : (o : Option Place) (xs : List Place) (k : ℕ) → ((x : Place) → o ≡ Some x → x.key + 1 ≤ k) → place_of k (cons_option o xs) ≡ place_of k xs
later None xs k under = refl
later (Some x) xs k under = later_by k x xs (k == x.key) refl (under x refl)

all_later : (o q : Option Place) (xs ys : List Place) (low : ℕ) (ks : List ℕ) → ((x : Place) → o ≡ Some x → x.key + 1 ≤ low) → ((y : Place) → q ≡ Some y → y.key + 1 ≤ low) → RiseFrom low ks
    → map (key_pair (cons_option o xs) (cons_option q ys)) ks ≡ map (key_pair xs ys) ks
all_later o q xs ys low [] x_under y_under up = refl
all_later o q xs ys low (k ∷ ks) x_under y_under up =
    let at_x : place_of k (cons_option o xs) ≡ place_of k xs = later o xs k (λ x is. omega (arith, x_under x is, up.0)) in
    let at_y : place_of k (cons_option q ys) ≡ place_of k ys = later q ys k (λ y is. omega (arith, y_under y is, up.0)) in
    let rest = all_later o q xs ys (k + 1) ks (λ x is. omega (arith, x_under x is, up.0)) (λ y is. omega (arith, y_under y is, up.0)) up.1 in
    λ i. record { before = at_x i; after = at_y i } ∷ rest i

-- a key that is less than the keys of all pairs is in neither list
before_absent : (k : ℕ) (b a : Option Place) (xs : List Place) → k + 1 ≤ either_key b a → place_of k xs ≡ None → place_of k (cons_option b xs) ≡ None
before_absent k None a xs less rest = rest
before_absent k (Some x) a xs less rest = absent_by k x xs (k == x.key) refl less rest

after_absent : (k : ℕ) (b a : Option Place) (ys : List Place) → AreOne b a → k + 1 ≤ either_key b a → place_of k ys ≡ None → place_of k (cons_option a ys) ≡ None
after_absent k b None ys one less rest = rest
after_absent k None (Some y) ys one less rest = absent_by k y ys (k == y.key) refl less rest
after_absent k (Some x) (Some y) ys one less rest = absent_by k y ys (k == y.key) refl (omega (arith, less, one)) rest

absent : (k low : ℕ) (ps : List KeyPair) → k + 1 ≤ low → All IsOne ps → RiseFrom low (map pair_key ps) → (place_of k (befores ps) ≡ None) × (place_of k (afters ps) ≡ None)
absent k low [] less one up = (refl, refl)
absent k low (p ∷ ps) less one up =
    let rest = absent k (pair_key p + 1) ps (omega (arith, less, up.0)) (All-tail IsOne p ps one) up.1 in
    (before_absent k p.before p.after (befores ps) (omega (arith, less, up.0)) rest.0, after_absent k p.before p.after (afters ps) (All-head IsOne p ps one) (omega (arith, less, up.0)) rest.1)

-- the first pair has the places that the two lists have for its key
first_before : (b a : Option Place) (xs : List Place) → place_of (either_key b a) xs ≡ None → place_of (either_key b a) (cons_option b xs) ≡ b
first_before None a xs none = none
first_before (Some x) a xs none = here x.key x xs refl

first_after : (b a : Option Place) (ys : List Place) → AreOne b a → place_of (either_key b a) ys ≡ None → place_of (either_key b a) (cons_option a ys) ≡ a
first_after b None ys one none = none
first_after None (Some y) ys one none = here y.key y ys refl
first_after (Some x) (Some y) ys one none = here x.key y ys one

before_under : (b a : Option Place) (x : Place) → b ≡ Some x → x.key ≤ either_key b a
before_under None a x is = absurd (grind (arith, is))
before_under (Some z) a x is = let same : x.key ≡ z.key = ap (λ o. option_map_or (λ (y : Place). y.key) o 0) (sym is) in omega (arith, same)

after_under : (b a : Option Place) (y : Place) → AreOne b a → a ≡ Some y → y.key ≤ either_key b a
after_under b None y one is = absurd (grind (arith, is))
after_under None (Some z) y one is = let same : y.key ≡ z.key = ap (λ o. option_map_or (λ (y : Place). y.key) o 0) (sym is) in omega (arith, same)
after_under (Some x) (Some z) y one is = let same : y.key ≡ z.key = ap (λ o. option_map_or (λ (y : Place). y.key) o 0) (sym is) in omega (arith, same, one)

pairs_found : (low : ℕ) (ps : List KeyPair) → All IsOne ps → RiseFrom low (map pair_key ps) → ps ≡ map (key_pair (befores ps) (afters ps)) (map pair_key ps)
pairs_found low [] one up = refl
pairs_found low (p ∷ ps) one up =
    let k : ℕ = pair_key p in
    let own : AreOne p.before p.after = All-head IsOne p ps one in
    let none = absent k (k + 1) ps (omega arith) (All-tail IsOne p ps one) up.1 in
    let at_x : place_of k (befores (p ∷ ps)) ≡ p.before = first_before p.before p.after (befores ps) none.0 in
    let at_y : place_of k (afters (p ∷ ps)) ≡ p.after = first_after p.before p.after (afters ps) own none.1 in
    let rest : ps ≡ map (key_pair (befores (p ∷ ps)) (afters (p ∷ ps))) (map pair_key ps) =
    pairs_found (k + 1) ps (All-tail IsOne p ps one) up.1
    ∙ sym (all_later p.before p.after (befores ps) (afters ps) (k + 1) (map pair_key ps) (λ x is. omega (arith, before_under p.before p.after x is)) (λ y is. omega (arith, after_under p.before p.after y own is)) up.1) in
    λ i. record { before = sym at_x i; after = sym at_y i } ∷ rest i

-- FOUND: each pair of two lists has the places that the two lists have for the pair's key
pub found_pairs : (old new : List Place) (ps : List KeyPair) → AreKeyPairsOf old new ps → ps ≡ map (key_pair old new) (map pair_key ps)
found_pairs old new ps h = pairs_found 0 ps h.one h.rising ∙ (λ i. map (key_pair (h.before i) (h.after i)) (map pair_key ps))

-- THE KEYS: if the numbers ks rise and are the keys of at least one of the lists `old` and `new`, then ks are the keys of the pairs of the two lists
pub keys_of_pairs : (old new : List Place) (ps : List KeyPair) (ks : List ℕ) → AreKeyPairsOf old new ps → Rise ks → ((k : ℕ) → has k ks ≡ (has k (keys old) || has k (keys new))) → map pair_key ps ≡ ks
keys_of_pairs old new ps ks h up same =
    unique 0 (map pair_key ps) ks h.rising up
    (λ k. has-pairs k ps h.one ∙ (λ i. has k (keys (h.before i)) || has k (keys (h.after i))) ∙ sym (same k))

-- ONE ANSWER: for two lists of places, at most one list of pairs meets `ArePairsOf`
pub one_answer : OneAnswer
one_answer old new ps qs h g =
    h.are ∙ ap (map positions) (found_pairs old new h.keyed h.of_keys)
    ∙ ap (λ ks. map positions (map (key_pair old new) ks))
    (keys_of_pairs old new h.keyed (map pair_key g.keyed) h.of_keys g.of_keys.rising
    (λ k. has-pairs k g.keyed g.of_keys.one ∙ (λ i. has k (keys (g.of_keys.before i)) || has k (keys (g.of_keys.after i)))))
    ∙ sym (ap (map positions) (found_pairs old new g.keyed g.of_keys)) ∙ sym g.are

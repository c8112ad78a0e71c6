-- Lemmas about the loop of `pairs_by_key`, which pairs the first remaining places of two lists in each iteration.
use Rattle.std.proofs.Common.{◌≡◌, ℕ, ◌+◌, ◌<◌, ◌≤◌, Bool, true, false, nat_lt, List, [], ◌∷◌, ◌++◌, Option, Some, None, All, map, filter_map, option_to_list, refl, sym, ap, subst, ◌∙◌, arith, length, drop}
use Rattle.std.proofs.lemmas.Bool.{ltb-true, ltb-false}
use Rattle.std.proofs.lemmas.List.{map-append, append_assoc, append-nil, drop_all}
use Rattle.std.proofs.lemmas.List.Elements.{filter_map-append, All-append, All-cons, All-nil}
use Rattle.crush_compare.specs.declared.by_id.KeyPair.{KeyPair}
use Rattle.crush_items.specs.declared.by_id.Place.{Place}
use Rattle.crush_compare.specs.declared.by_id.Pair.{Pair}
use Rattle.crush_compare.specs.Pairs.{RiseFrom, Rise, keys, IsOne, pair_key, AreKeyPairsOf, ArePairsOf, beside, least_pair, positions, taken}

-- the pairs ps so far, and the remaining places xs and ys of the two lists
pub record ArePairedTo (old new : List Place) (xs ys : List Place) (ps : List KeyPair) : Type 0 where
  pub before : filter_map (λ (p : KeyPair). p.before) ps ++ xs ≡ old
  pub after : filter_map (λ (p : KeyPair). p.after) ps ++ ys ≡ new
  pub one : All IsOne ps
  pub old_rising : Rise (map pair_key ps ++ keys xs)
  pub new_rising : Rise (map pair_key ps ++ keys ys)

-- the places of one list that remain after a pair
abbrev pub left : Option Place → List Place → List Place → List Place
left None whole rest = whole
left (Some z) whole rest = rest

-- appending one more pair to the pairs so far
moved : (h : KeyPair → Option Place) (ps : List KeyPair) (p : KeyPair) (xs : List Place) → filter_map h (ps ++ p ∷ []) ++ xs ≡ filter_map h ps ++ (filter_map h (p ∷ []) ++ xs)
moved h ps p xs = ap (λ z. z ++ xs) (filter_map-append h ps (p ∷ [])) ∙ append_assoc (filter_map h ps) (filter_map h (p ∷ [])) xs

keyed : (ps : List KeyPair) (p : KeyPair) (ks : List ℕ) → map pair_key (ps ++ p ∷ []) ++ ks ≡ map pair_key ps ++ pair_key p ∷ ks
keyed ps p ks = ap (λ z. z ++ ks) (map-append pair_key ps (p ∷ [])) ∙ append_assoc (map pair_key ps) (pair_key p ∷ []) ks

rise_keyed : (ps : List KeyPair) (p : KeyPair) (ks : List ℕ) → Rise (map pair_key ps ++ pair_key p ∷ ks) → Rise (map pair_key (ps ++ p ∷ []) ++ ks)
rise_keyed ps p ks h = subst Rise (sym (keyed ps p ks)) h

one_more : (ps : List KeyPair) (p : KeyPair) → All IsOne ps → IsOne p → All IsOne (ps ++ p ∷ [])
one_more ps p all one = All-append IsOne ps (p ∷ []) all (All-cons IsOne p [] one (All-nil IsOne))

-- in a rising list, the rest after a key may be replaced by a rising rest that starts with a greater key
splice : (low : ℕ) (ks : List ℕ) (k m : ℕ) (l n : List ℕ) → RiseFrom low (ks ++ k ∷ l) → RiseFrom low (ks ++ m ∷ n) → k < m → RiseFrom low (ks ++ k ∷ (m ∷ n))
splice low [] k m l n a b less = (a.0, (omega (arith, less), b.1))
splice low (c ∷ ks) k m l n a b less = (a.0, splice (c + 1) ks k m l n a.1 b.1 less)

cut : (low : ℕ) (ks : List ℕ) (k : ℕ) (l : List ℕ) → RiseFrom low (ks ++ k ∷ l) → RiseFrom low (ks ++ k ∷ [])
cut low [] k l a = (a.0, tt)
cut low (c ∷ ks) k l a = (a.0, cut (c + 1) ks k l a.1)

next_of_both : (old new xs ys : List Place) (ps : List KeyPair) (x y : Place) (less more : Bool) → nat_lt x.key y.key ≡ less → nat_lt y.key x.key ≡ more
    → ArePairedTo old new (x ∷ xs) (y ∷ ys) ps
    → ArePairedTo old new (left (beside less more x y).before (x ∷ xs) xs) (left (beside less more x y).after (y ∷ ys) ys) (ps ++ beside less more x y ∷ [])
next_of_both old new xs ys ps x y true more less_is more_is h =
    let p : KeyPair = record { before = Some x; after = None } in
    record {
      before = moved (λ q. q.before) ps p xs ∙ h.before;
      after = moved (λ q. q.after) ps p (y ∷ ys) ∙ h.after;
      one = one_more ps p h.one tt;
      old_rising = rise_keyed ps p (keys xs) h.old_rising;
      new_rising = rise_keyed ps p (keys (y ∷ ys)) (splice 0 (map pair_key ps) x.key y.key (keys xs) (keys ys) h.old_rising h.new_rising (ltb-true _ _ less_is));
    }
next_of_both old new xs ys ps x y false true less_is more_is h =
    let p : KeyPair = record { before = None; after = Some y } in
    record {
      before = moved (λ q. q.before) ps p (x ∷ xs) ∙ h.before;
      after = moved (λ q. q.after) ps p ys ∙ h.after;
      one = one_more ps p h.one tt;
      old_rising = rise_keyed ps p (keys (x ∷ xs)) (splice 0 (map pair_key ps) y.key x.key (keys ys) (keys xs) h.new_rising h.old_rising (ltb-true _ _ more_is));
      new_rising = rise_keyed ps p (keys ys) h.new_rising;
    }
next_of_both old new xs ys ps x y false false less_is more_is h =
    let p : KeyPair = record { before = Some x; after = Some y } in
    let same : x.key ≡ y.key = omega (arith, ltb-false x.key y.key less_is, ltb-false y.key x.key more_is) in
    record {
      before = moved (λ q. q.before) ps p xs ∙ h.before;
      after = moved (λ q. q.after) ps p ys ∙ h.after;
      one = one_more ps p h.one same;
      old_rising = rise_keyed ps p (keys xs) h.old_rising;
      new_rising = rise_keyed ps p (keys ys) (subst (λ k. Rise (map pair_key ps ++ k ∷ keys ys)) (sym same) h.new_rising);
    }

-- NEXT: the next pair has the lesser of the two first places, or both. A list without a first place is empty
pub next : (old new xs ys : List Place) (ps : List KeyPair) (ox oy : Option Place) → (ox ≡ None → xs ≡ []) → (oy ≡ None → ys ≡ []) → (ox ≡ None → oy ≡ None → ⊥)
    → ArePairedTo old new (option_to_list ox ++ xs) (option_to_list oy ++ ys) ps
    → ArePairedTo old new (left (least_pair ox oy).before (option_to_list ox ++ xs) xs) (left (least_pair ox oy).after (option_to_list oy ++ ys) ys) (ps ++ least_pair ox oy ∷ [])
next old new xs ys ps None None no_xs no_ys some h = absurd (some refl refl)
next old new xs ys ps (Some x) None no_xs no_ys some h =
    let p : KeyPair = record { before = Some x; after = None } in
    record {
      before = moved (λ q. q.before) ps p xs ∙ h.before;
      after = moved (λ q. q.after) ps p ys ∙ h.after;
      one = one_more ps p h.one tt;
      old_rising = rise_keyed ps p (keys xs) h.old_rising;
      new_rising = rise_keyed ps p (keys ys) (subst (λ z. Rise (map pair_key ps ++ x.key ∷ keys z)) (sym (no_ys refl)) (cut 0 (map pair_key ps) x.key (keys xs) h.old_rising));
    }
next old new xs ys ps None (Some y) no_xs no_ys some h =
    let p : KeyPair = record { before = None; after = Some y } in
    record {
      before = moved (λ q. q.before) ps p xs ∙ h.before;
      after = moved (λ q. q.after) ps p ys ∙ h.after;
      one = one_more ps p h.one tt;
      old_rising = rise_keyed ps p (keys xs) (subst (λ z. Rise (map pair_key ps ++ y.key ∷ keys z)) (sym (no_xs refl)) (cut 0 (map pair_key ps) y.key (keys ys) h.new_rising));
      new_rising = rise_keyed ps p (keys ys) h.new_rising;
    }
next old new xs ys ps (Some x) (Some y) no_xs no_ys some h =
    next_of_both old new xs ys ps x y (nat_lt x.key y.key) (nat_lt y.key x.key) refl refl h

-- ENDED: if no place remains in either list, the pairs are those of the two lists
pub ended : (old new : List Place) (ps : List KeyPair) → ArePairedTo old new [] [] ps → AreKeyPairsOf old new ps
ended old new ps h = record {
  before = sym (append-nil _) ∙ h.before;
  after = sym (append-nil _) ∙ h.after;
  one = h.one;
  rising = subst Rise (append-nil _) h.old_rising;
}

of_both : (less more : Bool) (x y : Place) → 1 ≤ taken (beside less more x y).before + taken (beside less more x y).after
of_both true more x y = omega arith
of_both false true x y = omega arith
of_both false false x y = omega arith

-- a pair uses up at least one place
pub takes_some : (ox oy : Option Place) → (ox ≡ None → oy ≡ None → ⊥) → 1 ≤ taken (least_pair ox oy).before + taken (least_pair ox oy).after
takes_some None None some = absurd (some refl refl)
takes_some None (Some y) some = omega arith
takes_some (Some x) None some = omega arith
takes_some (Some x) (Some y) some = of_both (nat_lt x.key y.key) (nat_lt y.key x.key) x y

takes_no_more_before : (less more : Bool) (x y : Place) → taken (beside less more x y).before ≤ 1
takes_no_more_before true more x y = omega arith
takes_no_more_before false true x y = omega arith
takes_no_more_before false false x y = omega arith

takes_no_more_after : (less more : Bool) (x y : Place) → taken (beside less more x y).after ≤ 1
takes_no_more_after true more x y = omega arith
takes_no_more_after false true x y = omega arith
takes_no_more_after false false x y = omega arith

pub least_before : (ox oy : Option Place) → taken (least_pair ox oy).before ≤ taken ox
least_before None oy = omega arith
least_before (Some x) None = omega arith
least_before (Some x) (Some y) = takes_no_more_before (nat_lt x.key y.key) (nat_lt y.key x.key) x y

pub least_after : (ox oy : Option Place) → taken (least_pair ox oy).after ≤ taken oy
least_after None oy = omega arith
least_after (Some x) None = omega arith
least_after (Some x) (Some y) = takes_no_more_after (nat_lt x.key y.key) (nat_lt y.key x.key) x y

left_is : (o : Option Place) (i : ℕ) (xs : List Place) → left o (drop i xs) (drop (i + 1) xs) ≡ drop (i + taken o) xs
left_is None i xs = ap (λ n. drop n xs) (omega arith)
left_is (Some z) i xs = refl

-- o is the first remaining place of a list from the index i, or none if no place remains
pub record IsFirstAt (xs : List Place) (i : ℕ) (o : Option Place) : Type 0 where
  pub first : drop i xs ≡ option_to_list o ++ drop (i + 1) xs
  pub none : o ≡ None → length xs ≤ i

-- one iteration of the loop keeps the invariant
pub iterated : (old new : List Place) (ps : List KeyPair) (i j : ℕ) (ox oy : Option Place) → IsFirstAt old i ox → IsFirstAt new j oy → (ox ≡ None → oy ≡ None → ⊥)
    → ArePairedTo old new (drop i old) (drop j new) ps
    → ArePairedTo old new (drop (i + taken (least_pair ox oy).before) old) (drop (j + taken (least_pair ox oy).after) new) (ps ++ least_pair ox oy ∷ [])
iterated old new ps i j ox oy x y some h =
    let p : KeyPair = least_pair ox oy in let xs : List Place = drop (i + 1) old in let ys : List Place = drop (j + 1) new in
    let at_first : ArePairedTo old new (option_to_list ox ++ xs) (option_to_list oy ++ ys) ps =
    subst (λ z. ArePairedTo old new z (option_to_list oy ++ ys) ps) x.first (subst (λ z. ArePairedTo old new (drop i old) z ps) y.first h) in
    let more : ArePairedTo old new (left p.before (option_to_list ox ++ xs) xs) (left p.after (option_to_list oy ++ ys) ys) (ps ++ p ∷ []) =
    next old new xs ys ps ox oy (λ e. drop_all (i + 1) old (omega (arith, x.none e))) (λ e. drop_all (j + 1) new (omega (arith, y.none e))) some at_first in
    let of_old : left p.before (option_to_list ox ++ xs) xs ≡ drop (i + taken p.before) old = ap (λ w. left p.before w xs) (sym x.first) ∙ left_is p.before i old in
    let of_new : left p.after (option_to_list oy ++ ys) ys ≡ drop (j + taken p.after) new = ap (λ w. left p.after w ys) (sym y.first) ∙ left_is p.after j new in
    subst (λ z. ArePairedTo old new z (drop (j + taken p.after) new) (ps ++ p ∷ [])) of_old (subst (λ z. ArePairedTo old new (left p.before (option_to_list ox ++ xs) xs) z (ps ++ p ∷ [])) of_new more)

-- the same, stated with the variables that the loop has after an iteration
pub iterated_to : (old new : List Place) (ps qs : List KeyPair) (i j k l : ℕ) (ox oy : Option Place) (p : KeyPair) → p ≡ least_pair ox oy → k ≡ i + taken p.before → l ≡ j + taken p.after
    → qs ≡ ps ++ p ∷ []
    → ArePairedTo old new (drop (i + taken (least_pair ox oy).before) old) (drop (j + taken (least_pair ox oy).after) new) (ps ++ least_pair ox oy ∷ [])
    → ArePairedTo old new (drop k old) (drop l new) qs
iterated_to old new ps qs i j k l ox oy p p_is k_is l_is qs_is h =
    subst (λ q. ArePairedTo old new (drop k old) (drop l new) q) (sym qs_is)
    (subst (λ a. ArePairedTo old new (drop a old) (drop l new) (ps ++ p ∷ [])) (sym k_is)
    (subst (λ b. ArePairedTo old new (drop (i + taken p.before) old) (drop b new) (ps ++ p ∷ [])) (sym l_is)
    (subst (λ r. ArePairedTo old new (drop (i + taken r.before) old) (drop (j + taken r.after) new) (ps ++ r ∷ [])) (sym p_is) h)))

pub at_end : (old new : List Place) (ps : List KeyPair) (i j : ℕ) → length old ≤ i → length new ≤ j → ArePairedTo old new (drop i old) (drop j new) ps → AreKeyPairsOf old new ps
at_end old new ps i j no_old no_new h =
    ended old new ps (subst (λ z. ArePairedTo old new z [] ps) (drop_all i old no_old) (subst (λ z. ArePairedTo old new (drop i old) z ps) (drop_all j new no_new) h))

-- the index into one of the lists stays within the list
pub stays_within : (n i k o t : ℕ) → i + o ≤ n → t ≤ o → k ≡ i + t → k ≤ n
stays_within n i k o t within most is = omega (arith, within, most, is)

-- the same invariant, stated with the positions of the pairs so far
pub record ArePositionsTo (old new : List Place) (xs ys : List Place) (ps : List Pair) : Type 0 where
  pub keyed : List KeyPair
  pub to : ArePairedTo old new xs ys keyed
  pub are : ps ≡ map positions keyed

pub begun : (old new : List Place) (ps : List Pair) → ps ≡ [] → Rise (keys old) → Rise (keys new) → ArePositionsTo old new old new ps
begun old new ps none x y = record { keyed = []; to = record { before = refl; after = refl; one = All-nil IsOne; old_rising = x; new_rising = y }; are = none }

pub moved_on : (old new : List Place) (ps qs : List Pair) (i j k l : ℕ) (ox oy : Option Place) (p : KeyPair) (q : Pair) → IsFirstAt old i ox → IsFirstAt new j oy → (ox ≡ None → oy ≡ None → ⊥)
    → p ≡ least_pair ox oy → k ≡ i + taken p.before → l ≡ j + taken p.after → q ≡ positions p → qs ≡ ps ++ q ∷ []
    → ArePositionsTo old new (drop i old) (drop j new) ps → ArePositionsTo old new (drop k old) (drop l new) qs
moved_on old new ps qs i j k l ox oy p q x y some p_is k_is l_is q_is qs_is h = record {
  keyed = h.keyed ++ p ∷ [];
  to = iterated_to old new h.keyed (h.keyed ++ p ∷ []) i j k l ox oy p p_is k_is l_is refl (iterated old new h.keyed i j ox oy x y some h.to);
  are = qs_is ∙ (λ n. h.are n ++ q_is n ∷ []) ∙ sym (map-append positions h.keyed (p ∷ []));
}

pub positions_at_end : (old new : List Place) (ps : List Pair) (i j : ℕ) → length old ≤ i → length new ≤ j → ArePositionsTo old new (drop i old) (drop j new) ps → ArePairsOf old new ps
positions_at_end old new ps i j no_old no_new h = record { keyed = h.keyed; of_keys = at_end old new h.keyed i j no_old no_new h.to; are = h.are }

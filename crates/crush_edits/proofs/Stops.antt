-- The stops of a location that passes its tests make a route.
use Rattle.std.proofs.Common.{◌≡◌, ℕ, suc, ◌+◌, ◌<◌, ◌≤◌, Bool, true, false, List, [], ◌∷◌, length, take, drop, ap, sym, ◌∙◌, refl, arith, ⊎_elim, subst}
use Rattle.std.specs.Prelude.{◌==◌, ◌||◌, not, if◌then◌else◌, Option, Some, None, IfSome, All, find, fold, insert, map, is_none, bytes_eq, nat_le}
use Rattle.std.specs.List.{sum_by, count_by, list_any, position_or_len}
use Rattle.std.specs.Option.{option_map}
use Rattle.std.proofs.lemmas.Bool.{leb-true, leb-false, not-false}
use Rattle.std.proofs.lemmas.Bool.Decides.{eqb_tells}
use Rattle.std.proofs.lemmas.List.{length-append, take-append-drop}
use Rattle.std.proofs.lemmas.List.Sums.{sum_by-cons, sum_by-insert, fold-append}
use Rattle.std.proofs.lemmas.List.Elements.{All-nil, All-cons, All-head, All-tail, All-append, All-take, All-drop, All-weaker}
use Rattle.crush_units.specs.Name.{IsName}
use Rattle.crush_units.specs.declared.limits.TheConstants.{LAST_TYPE, MOST_PAIRS}
use Rattle.crush_model.specs.Table.{Row, is_device_id}
use Rattle.crush_model.specs.Tested.{are_apart}
use Rattle.crush_model.proofs.Reorder.{sum_by-map}
use Rattle.crush_model.specs.Count.{one_if}
use Rattle.crush_model.proofs.Tested.{apart_once}
use Rattle.crush_model.proofs.Weighs.{or_left, or_right}
use Rattle.std.proofs.lemmas.Slice.Eq.{bytes_eq-Decides}
use Rattle.crush_edits.specs.declared.location.Pair.{Pair}
use Rattle.crush_edits.specs.Stops.{StopData, insert_stop, with_stop, stops, end_id}
use Rattle.crush_edits.specs.New.{IsStop, OnceNamed, IsRoute}
use Rattle.crush_edits.specs.Answer.{meets}
use Rattle.crush_edits.specs.Located.{has_twice, is_type_zero, is_bad_location, has_no_kind, names_it}
use Rattle.crush_edits.specs.Setting.{KindData, SettingData, kind_number}
use Rattle.crush_edits.specs.Fits.{IsKind, Fits}
use Rattle.crush_edits.specs.LawRoute.{StopsStep, Rises, StopsRise, of_stop, StopsArePairs}

abbrev more : SettingData → List StopData → Pair → List StopData
more s ps p = with_stop (kind_number s p.kind) p.name ps

-- HOW OFTEN a name occurs among the stops
abbrev stop_hit : List ℕ → StopData → ℕ
stop_hit n q = one_if (bytes_eq q.name n)

abbrev pair_hit : List ℕ → Pair → ℕ
pair_hit n q = one_if (bytes_eq q.name n)

with_hit : (n : List ℕ) (o : Option ℕ) (m : List ℕ) (ps : List StopData) → sum_by (stop_hit n) (with_stop o m ps) ≤ sum_by (stop_hit n) ps + one_if (bytes_eq m n)
with_hit n None m ps = omega arith
with_hit n (Some k) m ps = omega (arith, sum_by-insert (stop_hit n) ps (position_or_len (λ (q : StopData). nat_le k q.kind) ps) (record { kind = k; name = m }))

fold_hit : (s : SettingData) (n : List ℕ) (l : List Pair) (a : List StopData) → sum_by (stop_hit n) (fold (more s) a l) ≤ sum_by (stop_hit n) a + sum_by (pair_hit n) l
fold_hit s n [] a = omega arith
fold_hit s n (p ∷ l) a = omega (arith, fold_hit s n l (more s a p), with_hit n (kind_number s p.kind) p.name a, sum_by-cons (pair_hit n) p l)

-- HOW MANY stops there are
length_insert : (xs : List StopData) (i : ℕ) (y : StopData) → length (insert xs i y) ≡ suc (length xs)
length_insert xs i y = length-append (take i xs) (y ∷ drop i xs) ∙ (let both : length (take i xs) + length (drop i xs) ≡ length xs = sym (length-append (take i xs) (drop i xs)) ∙ ap length (take-append-drop i xs) in omega (arith, both))

with_length : (o : Option ℕ) (m : List ℕ) (ps : List StopData) → is_none o ≡ false → length (with_stop o m ps) ≡ suc (length ps)
with_length None m ps h = absurd cc
with_length (Some k) m ps h = length_insert ps (position_or_len (λ (q : StopData). nat_le k q.kind) ps) (record { kind = k; name = m })

pub fold_length : (s : SettingData) (l : List Pair) (a : List StopData) → has_no_kind s l ≡ false → length (fold (more s) a l) ≡ length a + length l
fold_length s [] a h = omega arith
fold_length s (p ∷ l) a h =
    omega (
      arith,
      fold_length s l (more s a p) (or_right (is_none (kind_number s p.kind)) (has_no_kind s l) h),
      with_length (kind_number s p.kind) p.name a (or_left (is_none (kind_number s p.kind)) (has_no_kind s l) h),
    )

-- THE STOPS ARE VALID
find_holds : {X : Type 0} (P : X → Type 0) (test : X → Bool) (xs : List X) → All P xs → IfSome (find test xs) P
find_holds P test [] a = tt
find_holds P test (x ∷ xs) a = by_test (test x) (find_holds P test xs (All-tail P x xs a)) where
  by_test : (b : Bool) → IfSome (find test xs) P → IfSome (if b then Some x else find test xs) P
  by_test true rest = All-head P x xs a
  by_test false rest = rest

pub kind_most : (s : SettingData) → All IsKind s.kinds → (n : List ℕ) → IfSome (kind_number s n) (λ k. k ≤ LAST_TYPE)
kind_most s a n = by_kind (find (λ (k : KindData). bytes_eq k.name n) s.kinds) (find_holds IsKind (λ (k : KindData). bytes_eq k.name n) s.kinds a) where
  by_kind : (o : Option KindData) → IfSome o IsKind → IfSome (option_map (λ (k : KindData). k.number) o) (λ k. k ≤ LAST_TYPE)
  by_kind None h = tt
  by_kind (Some k) h = h.number

with_form : (o : Option ℕ) (m : List ℕ) (ps : List StopData) → IfSome o (λ k. k ≤ LAST_TYPE) → meets (λ k. k == 0) o ≡ false → IsName m → All IsStop ps → All IsStop (with_stop o m ps)
with_form None m ps most some name a = a
with_form (Some k) m ps most some name a =
    let i = position_or_len (λ (q : StopData). nat_le k q.kind) ps in
    let positive : 0 < k = ⊎_elim (λ p. absurd (let no_more = p.0 in cc)) (λ p. omega (arith, p.1)) (eqb_tells k 0) in
    All-append IsStop (take i ps) (record { kind = k; name = m } ∷ drop i ps) (All-take IsStop i ps a) (All-cons IsStop (record { kind = k; name = m }) (drop i ps) (record { kind_some = positive; kind_most = most; name = name }) (All-drop IsStop i ps a))

fold_form : (s : SettingData) → All IsKind s.kinds → (l : List Pair) (a : List StopData) → All (λ (p : Pair). IsName p.name) l → list_any (is_type_zero s) l ≡ false → All IsStop a → All IsStop (fold (more s) a l)
fold_form s kinds [] a names h forms = forms
fold_form s kinds (p ∷ l) a names h forms =
    fold_form s kinds l (more s a p) (All-tail (λ (q : Pair). IsName q.name) p l names) (or_right (is_type_zero s p) (list_any (is_type_zero s) l) h)
    (with_form (kind_number s p.kind) p.name a (kind_most s kinds p.kind) (or_left (is_type_zero s p) (list_any (is_type_zero s) l) h) (All-head (λ (q : Pair). IsName q.name) p l names) forms)

-- if no bucket name occurs twice in the location, then no name occurs twice among the stops
once_named : (s : SettingData) (l : List Pair) → has_twice (map (λ (p : Pair). p.name) l) ≡ false → OnceNamed (stops s l)
once_named s l h n =
    let once : count_by (λ m. bytes_eq m n) (map (λ (p : Pair). p.name) l) ≤ 1 =
    apart_once bytes_eq (λ a b. (bytes_eq-Decides a b).0) (λ a. (bytes_eq-Decides a a).1 refl) (map (λ (p : Pair). p.name) l) (not-false (are_apart bytes_eq (map (λ (p : Pair). p.name) l)) h) n in
    omega (arith, fold_hit s n l [], once, sum_by-map (λ m. one_if (bytes_eq m n)) (λ (p : Pair). p.name) l)

-- no stop has a name that the location doesn't have
none_named : (l : List Pair) (n : List ℕ) → names_it l n ≡ false → sum_by (pair_hit n) l ≡ 0
none_named [] n h = refl
none_named (p ∷ l) n h =
    let here : one_if (bytes_eq p.name n) ≡ 0 = ap one_if (or_left (bytes_eq p.name n) (names_it l n) h) in
    omega (arith, here, sum_by-cons (pair_hit n) p l, none_named l n (or_right (bytes_eq p.name n) (names_it l n) h))

pub no_stop_named : (s : SettingData) (l : List Pair) (n : List ℕ) → names_it l n ≡ false → count_by (λ (p : StopData). bytes_eq p.name n) (stops s l) ≡ 0
no_stop_named s l n h = omega (arith, fold_hit s n l [], none_named l n h)

-- THE LAW: if a location passes its tests and the item that ends its route isn't a device, then its stops are a route
pub location_route : (s : SettingData) (t : List Row) (l : List Pair) → Fits s t → All (λ (p : Pair). IsName p.name) l → length l ≤ MOST_PAIRS → is_bad_location s l ≡ false → has_no_kind s l ≡ false → (length l == 0) ≡ false
    → IfSome (end_id t (stops s l)) (λ i. is_device_id i ≡ false) → IsRoute t (stops s l)
location_route s t l fits names few good known some ends =
    let twice : Bool = has_twice (map (λ (p : Pair). p.name) l) in
    let rest : (has_twice (map (λ (p : Pair). p.name) l) || list_any (is_type_zero s) l) ≡ false = or_right (has_twice (map (λ (p : Pair). p.kind) l)) (has_twice (map (λ (p : Pair). p.name) l) || list_any (is_type_zero s) l) good in
    let long : length (stops s l) ≡ 0 + length l = fold_length s l [] known in
    let positive : 0 < length l = ⊎_elim (λ p. absurd (let no_more = p.0 in cc)) (λ p. omega (arith, p.1)) (eqb_tells (length l) 0) in
    record {
      some = omega (arith, long, positive);
      few = omega (arith, long, few);
      forms = fold_form s fits.setting.kinds l [] names (or_right (has_twice (map (λ (p : Pair). p.name) l)) (list_any (is_type_zero s) l) rest) (All-nil IsStop);
      once = once_named s l (or_left (has_twice (map (λ (p : Pair). p.name) l)) (list_any (is_type_zero s) l) rest);
      ends = ends;
    }

-- STOPS as a list, built by one step for each pair
pub stops_step : StopsStep
stops_step s l p = fold-append (more s) [] l (p ∷ [])

-- any sum over the stops is the sum over the pairs of known types
with_sum : (f : StopData → ℕ) (o : Option ℕ) (n : List ℕ) (ps : List StopData) → sum_by f (with_stop o n ps) ≡ sum_by f ps + of_stop f o n
with_sum f None n ps = omega arith
with_sum f (Some k) n ps = omega (arith, sum_by-insert f ps (position_or_len (λ (q : StopData). nat_le k q.kind) ps) (record { kind = k; name = n }))

fold_sum : (s : SettingData) (f : StopData → ℕ) (l : List Pair) (a : List StopData) → sum_by f (fold (more s) a l) ≡ sum_by f a + sum_by (λ (p : Pair). of_stop f (kind_number s p.kind) p.name) l
fold_sum s f [] a = omega arith
fold_sum s f (p ∷ l) a = omega (arith, fold_sum s f l (more s a p), with_sum f (kind_number s p.kind) p.name a, sum_by-cons (λ (q : Pair). of_stop f (kind_number s q.kind) q.name) p l)

pub stops_are_pairs : StopsArePairs
stops_are_pairs s l f = fold_sum s f l [] ∙ omega arith

-- the stops are in ascending order: a stop is inserted before the first whose type number is not less
insert_cons : (p x : StopData) (xs : List StopData) → insert_stop p (x ∷ xs) ≡ (if nat_le p.kind x.kind then p ∷ x ∷ xs else x ∷ insert_stop p xs)
insert_cons p x xs = by_test (nat_le p.kind x.kind) refl where
  by_test : (b : Bool) → nat_le p.kind x.kind ≡ b → insert_stop p (x ∷ xs) ≡ (if b then p ∷ x ∷ xs else x ∷ insert_stop p xs)
  by_test true e = ap (λ b. insert (x ∷ xs) (if not b then 1 + position_or_len (λ (q : StopData). nat_le p.kind q.kind) xs else 0) p) e
  by_test false e =
      let one : 1 + position_or_len (λ (q : StopData). nat_le p.kind q.kind) xs ≡ suc (position_or_len (λ (q : StopData). nat_le p.kind q.kind) xs) = omega arith in
      ap (λ b. insert (x ∷ xs) (if not b then 1 + position_or_len (λ (q : StopData). nat_le p.kind q.kind) xs else 0) p) e ∙ ap (λ i. insert (x ∷ xs) i p) one

inserted_All : (P : StopData → Type 0) (p : StopData) (ps : List StopData) → P p → All P ps → All P (insert_stop p ps)
inserted_All P p ps h a =
    let i = position_or_len (λ (q : StopData). nat_le p.kind q.kind) ps in
    All-append P (take i ps) (p ∷ drop i ps) (All-take P i ps a) (All-cons P p (drop i ps) h (All-drop P i ps a))

insert_rises : (p : StopData) (ps : List StopData) → Rises ps → Rises (insert_stop p ps)
insert_rises p [] r = (All-nil (λ (q : StopData). p.kind ≤ q.kind), tt)
insert_rises p (x ∷ xs) r = subst Rises (sym (insert_cons p x xs)) (by_test (nat_le p.kind x.kind) refl (insert_rises p xs r.1)) where
  by_test : (b : Bool) → nat_le p.kind x.kind ≡ b → Rises (insert_stop p xs) → Rises (if b then p ∷ x ∷ xs else x ∷ insert_stop p xs)
  by_test true e rest =
      let le : p.kind ≤ x.kind = leb-true p.kind x.kind e in
      (All-cons (λ (q : StopData). p.kind ≤ q.kind) x xs le (All-weaker (λ (q : StopData). x.kind ≤ q.kind) (λ (q : StopData). p.kind ≤ q.kind) (λ q h. omega (arith, le, h)) xs r.0), r)
  by_test false e rest =
      let above : x.kind < p.kind = leb-false p.kind x.kind e in
      (inserted_All (λ (q : StopData). x.kind ≤ q.kind) p xs (omega (arith, above)) r.0, rest)

with_rises : (o : Option ℕ) (n : List ℕ) (ps : List StopData) → Rises ps → Rises (with_stop o n ps)
with_rises None n ps r = r
with_rises (Some k) n ps r = insert_rises (record { kind = k; name = n }) ps r

fold_rises : (s : SettingData) (l : List Pair) (a : List StopData) → Rises a → Rises (fold (more s) a l)
fold_rises s [] a r = r
fold_rises s (p ∷ l) a r = fold_rises s l (more s a p) (with_rises (kind_number s p.kind) p.name a r)

pub stops_rise : StopsRise
stops_rise s l = fold_rises s l [] tt

-- The pairs of a location for which buckets are created are the stops for which an edit creates buckets.
use Rattle.std.proofs.Common.{◌≡◌, ℕ, suc, ◌+◌, ◌<◌, ◌≤◌, Bool, true, false, List, [], ◌∷◌, take, refl, sym, ap, ◌∙◌, ⊎_elim, arith}
use Rattle.std.specs.Prelude.{◌==◌, ◌&&◌, ◌||◌, Option, Some, None, All, not, if◌then◌else◌, nat_le}
use Rattle.std.specs.List.{count_by, list_any, prefix_len, sum_by}
use Rattle.std.proofs.lemmas.Bool.{leb-false, leb-true}
use Rattle.std.proofs.lemmas.Bool.Decides.{eqb_tells}
use Rattle.std.proofs.lemmas.List.Sums.{sum_by-cons}
use Rattle.std.proofs.lemmas.List.Elements.{All-cons, All-head, All-tail}
use Rattle.crush_model.specs.Count.{one_if}
use Rattle.crush_model.specs.Table.{Row, is_named}
use Rattle.crush_edits.specs.declared.location.Pair.{Pair}
use Rattle.crush_edits.specs.Answer.{meets}
use Rattle.crush_edits.specs.LawRoute.{Rises, of_stop}
use Rattle.crush_edits.specs.Setting.{kind_number}
use Rattle.crush_edits.specs.Stops.{StopData, fresh_stops, is_fresh, stops}
use Rattle.crush_edits.proofs.Stops.{stops_are_pairs, stops_rise}
use Rattle.crush_reasons.specs.Created.{is_created}
use Rattle.crush_reasons.specs.LawCreated.{CreatedAreFresh, OnceTyped}

-- whether the table has the name of a stop, and the stop's type number is at most k
abbrev ends_to : List Row → ℕ → StopData → Bool
ends_to t k q = is_named t q.name && nat_le q.kind k

-- the value of f for a stop if no stop of the list ends the route at the type of this stop or below it; otherwise 0
abbrev unended : List Row → (StopData → ℕ) → List StopData → StopData → ℕ
unended t f ps p = if not (list_any (ends_to t p.kind) ps) then f p else 0

-- equal functions have equal sums
sum_same : {X : Type 0} → (f g : X → ℕ) (xs : List X) → ((x : X) → f x ≡ g x) → sum_by f xs ≡ sum_by g xs
sum_same f g [] same = refl
sum_same f g (x ∷ xs) same = omega (arith, sum_by-cons f x xs, sum_by-cons g x xs, same x, sum_same f g xs same)

not_zero : (n : ℕ) → 0 < n → not (n == 0) ≡ true
not_zero n some = ⊎_elim (λ p. absurd (omega (arith, p.1, some))) (λ p. ap not p.0) (eqb_tells n 0)

-- a test holds for one of the values if and only if the number of values for which it holds isn't 0
any_counts : {X : Type 0} → (test : X → Bool) (xs : List X) → list_any test xs ≡ not (sum_by (λ (x : X). one_if (test x)) xs == 0)
any_counts test [] = refl
any_counts {X} test (x ∷ xs) = at (test x) refl (any_counts test xs)
  where
    at : (b : Bool) → test x ≡ b → list_any test xs ≡ not (sum_by (λ (y : X). one_if (test y)) xs == 0) → list_any test (x ∷ xs) ≡ not (sum_by (λ (y : X). one_if (test y)) (x ∷ xs) == 0)
    at true holds rest =
        let one : one_if (test x) ≡ 1 = ap one_if holds in
        ap (λ c. c || list_any test xs) holds ∙ sym (not_zero (sum_by (λ (y : X). one_if (test y)) (x ∷ xs)) (omega (arith, one, sum_by-cons (λ (y : X). one_if (test y)) x xs)))
    at false fails rest =
        let none : one_if (test x) ≡ 0 = ap one_if fails in
        let same : sum_by (λ (y : X). one_if (test y)) xs ≡ sum_by (λ (y : X). one_if (test y)) (x ∷ xs) = omega (arith, none, sum_by-cons (λ (y : X). one_if (test y)) x xs) in
        ap (λ c. c || list_any test xs) fails ∙ rest ∙ ap (λ n. not (n == 0)) same

none_at : (g : StopData → ℕ) (k : ℕ) (qs : List StopData) → ((q : StopData) → k ≤ q.kind → g q ≡ 0) → All (λ (q : StopData). k ≤ q.kind) qs → sum_by g qs ≡ 0
none_at g k [] none all = refl
none_at g k (q ∷ qs) none all =
    let here : g q ≡ 0 = none q (All-head (λ (r : StopData). k ≤ r.kind) q qs all) in
    omega (arith, sum_by-cons g q qs, here, none_at g k qs none (All-tail (λ (r : StopData). k ≤ r.kind) q qs all))

le_true : (a b : ℕ) → a ≤ b → nat_le a b ≡ true
le_true a b le = at (nat_le a b) refl
  where
    at : (c : Bool) → nat_le a b ≡ c → nat_le a b ≡ true
    at true e = e
    at false e = absurd (omega (arith, le, leb-false a b e))

-- a stop of a type above k doesn't end the route at the type k or below it
above : (k j : ℕ) → k ≤ j → one_if (j == k) ≡ 0 → nat_le j k ≡ false
above k j le other = at (nat_le j k) refl
  where
    at : (c : Bool) → nat_le j k ≡ c → nat_le j k ≡ false
    at false e = e
    at true e = ⊎_elim (λ p. absurd (let one : one_if (j == k) ≡ 1 = ap one_if p.0 in omega (arith, one, other))) (λ p. absurd (omega (arith, p.1, le, leb-true j k e))) (eqb_tells j k)

and_false : (b : Bool) → (b && false) ≡ false
and_false true = refl
and_false false = refl

zero_both : (b : Bool) → ◌≡◌ {A = ℕ} (if b then 0 else 0) 0
zero_both true = refl
zero_both false = refl

same_type : (k : ℕ) → one_if (k == k) ≡ 1
same_type k = ⊎_elim (λ p. ap one_if p.0) (λ p. absurd (omega (arith, p.1))) (eqb_tells k k)

none_ends : (t : List Row) (k : ℕ) (qs : List StopData) → All (λ (q : StopData). k ≤ q.kind) qs → sum_by (λ (q : StopData). one_if (q.kind == k)) qs ≡ 0 → list_any (ends_to t k) qs ≡ false
none_ends t k [] all none = refl
none_ends t k (q ∷ qs) all none =
    let both = sum_by-cons (λ (r : StopData). one_if (r.kind == k)) q qs in
    let first : one_if (q.kind == k) ≡ 0 = omega (arith, both, none) in
    let others : sum_by (λ (r : StopData). one_if (r.kind == k)) qs ≡ 0 = omega (arith, both, none) in
    let high : nat_le q.kind k ≡ false = above k q.kind (All-head (λ (r : StopData). k ≤ r.kind) q qs all) first in
    ap (λ c. (is_named t q.name && c) || list_any (ends_to t k) qs) high
    ∙ ap (λ c. c || list_any (ends_to t k) qs) (and_false (is_named t q.name))
    ∙ none_ends t k qs (All-tail (λ (r : StopData). k ≤ r.kind) q qs all) others

-- the sum over the stops before the end of a route, if no two stops have the same type
fresh_sum : (t : List Row) (f : StopData → ℕ) (ps : List StopData) → Rises ps → OnceTyped ps → sum_by f (fresh_stops t ps) ≡ sum_by (unended t f ps) ps
fresh_sum t f [] rises once = refl
fresh_sum t f (p ∷ ps) rises once = at (is_named t p.name) refl (fresh_sum t f ps rises.1 later)
  where
    counted : (k : ℕ) → count_by (λ (q : StopData). q.kind == k) (p ∷ ps) ≡ one_if (p.kind == k) + count_by (λ (q : StopData). q.kind == k) ps
    counted k = sum_by-cons (λ (q : StopData). one_if (q.kind == k)) p ps

    later : OnceTyped ps
    later k = omega (arith, counted k, once k)

    alone : count_by (λ (q : StopData). q.kind == p.kind) ps ≡ 0
    alone = omega (arith, counted p.kind, once p.kind, same_type p.kind)

    next : (n : ℕ) → sum_by f (take (1 + n) (p ∷ ps)) ≡ f p + sum_by f (take n ps)
    next n = let one : 1 + n ≡ suc n = omega arith in ap (λ m. sum_by f (take m (p ∷ ps))) one ∙ sum_by-cons f p (take n ps)

    at : (b : Bool) → is_named t p.name ≡ b → sum_by f (fresh_stops t ps) ≡ sum_by (unended t f ps) ps → sum_by f (fresh_stops t (p ∷ ps)) ≡ sum_by (unended t f (p ∷ ps)) (p ∷ ps)
    at true named rest =
        let none : sum_by f (fresh_stops t (p ∷ ps)) ≡ 0 = rw named refl in
        let ended : (q : StopData) → p.kind ≤ q.kind → unended t f (p ∷ ps) q ≡ 0 = λ q le.
        ap (λ c. if not ((c && nat_le p.kind q.kind) || list_any (ends_to t q.kind) ps) then f q else 0) named
        ∙ ap (λ c. if not (c || list_any (ends_to t q.kind) ps) then f q else 0) (le_true p.kind q.kind le) in
        none ∙ sym (none_at (unended t f (p ∷ ps)) p.kind (p ∷ ps) ended (All-cons (λ (q : StopData). p.kind ≤ q.kind) p ps (omega arith) rises.0))
    at false fresh rest =
        let first : sum_by f (fresh_stops t (p ∷ ps)) ≡ f p + sum_by f (fresh_stops t ps) = rw fresh (next (prefix_len (is_fresh t) ps)) in
        let own : unended t f (p ∷ ps) p ≡ f p =
        ap (λ c. if not ((c && nat_le p.kind p.kind) || list_any (ends_to t p.kind) ps) then f p else 0) fresh
        ∙ ap (λ c. if not c then f p else 0) (none_ends t p.kind ps rises.0 alone) in
        let others : sum_by (unended t f (p ∷ ps)) ps ≡ sum_by (unended t f ps) ps =
        sum_same (unended t f (p ∷ ps)) (unended t f ps) ps
        (λ q. ap (λ c. if not ((c && nat_le p.kind q.kind) || list_any (ends_to t q.kind) ps) then f q else 0) fresh) in
        omega (arith, first, own, others, rest, sum_by-cons (unended t f (p ∷ ps)) p ps)

-- THE LAW
pub created_are_fresh : CreatedAreFresh
created_are_fresh s t l f once =
    fresh_sum t f (stops s l) (stops_rise s l) once
    ∙ stops_are_pairs s l (unended t f (stops s l))
    ∙ sum_same (λ (p : Pair). of_stop (unended t f (stops s l)) (kind_number s p.kind) p.name) (λ (p : Pair). if is_created s t l p then of_stop f (kind_number s p.kind) p.name else 0) l
    (λ p. pair_at p (kind_number s p.kind) refl)
  where
    one_at : (k : ℕ) (n : List ℕ) (o : Option ℕ) → of_stop (λ (q : StopData). one_if (ends_to t k q)) o n ≡ one_if (is_named t n && meets (λ j. nat_le j k) o)
    one_at k n None = ap one_if (sym (and_false (is_named t n)))
    one_at k n (Some j) = refl

    same_ends : (k : ℕ) → list_any (ends_to t k) (stops s l) ≡ list_any (λ (q : Pair). is_named t q.name && meets (λ j. nat_le j k) (kind_number s q.kind)) l
    same_ends k =
        any_counts (ends_to t k) (stops s l)
        ∙ ap (λ n. not (n == 0))
        (stops_are_pairs s l (λ (q : StopData). one_if (ends_to t k q))
        ∙ sum_same (λ (q : Pair). of_stop (λ (r : StopData). one_if (ends_to t k r)) (kind_number s q.kind) q.name) (λ (q : Pair). one_if (is_named t q.name && meets (λ j. nat_le j k) (kind_number s q.kind))) l
        (λ q. one_at k q.name (kind_number s q.kind)))
        ∙ sym (any_counts (λ (q : Pair). is_named t q.name && meets (λ j. nat_le j k) (kind_number s q.kind)) l)

    pair_at : (p : Pair) (o : Option ℕ) → kind_number s p.kind ≡ o
        → of_stop (unended t f (stops s l)) (kind_number s p.kind) p.name ≡ (if is_created s t l p then of_stop f (kind_number s p.kind) p.name else 0)
    pair_at p None e =
        ap (λ o. of_stop (unended t f (stops s l)) o p.name) e
        ∙ sym (ap (λ o. if is_created s t l p then of_stop f o p.name else 0) e ∙ zero_both (is_created s t l p))
    pair_at p (Some k) e =
        ap (λ o. of_stop (unended t f (stops s l)) o p.name) e
        ∙ ap (λ c. if not c then f (record { kind = k; name = p.name }) else 0) (same_ends k)
        ∙ sym (ap (λ o. if not (list_any (λ (q : Pair). is_named t q.name && meets (λ m. meets (λ j. nat_le j m) (kind_number s q.kind)) o) l) then of_stop f o p.name else 0) e)

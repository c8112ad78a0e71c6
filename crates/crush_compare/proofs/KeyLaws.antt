-- Proves that the keys of the pairs are the keys of both lists, each once, in ascending order. The reason is that two rising lists with the same members are the same list.
use Rattle.std.proofs.Common.{◌≡◌, ℕ, ◌+◌, ◌≤◌, ◌==◌, ◌||◌, Bool, true, false, nat_le, List, [], ◌∷◌, ◌++◌, Option, Some, None, All, map, filter_map, refl, sym, ap, ap₂, subst, ◌∙◌, arith, if◌then◌else◌}
use Rattle.std.specs.List.{cons_option}
use Rattle.std.proofs.Math.Bool.{or_assoc}
use Rattle.std.proofs.lemmas.Bool.{leb-true, leb-false, eqb-true, eqb-false, eq-eqb}
use Rattle.std.proofs.lemmas.List.Elements.{All-head, All-tail}
use Rattle.crush_compare.specs.declared.by_id.KeyPair.{KeyPair}
use Rattle.crush_items.specs.declared.by_id.Place.{Place}
use Rattle.crush_compare.specs.AllIds.{once_behind, once}
use Rattle.crush_items.specs.Order.{put_in, ascending}
use Rattle.crush_compare.specs.Pairs.{RiseFrom, keys, AreOne, IsOne, either_key, pair_key}

-- whether a number is in a list
abbrev pub has : ℕ → List ℕ → Bool
has n [] = false
has n (x ∷ xs) = (n == x) || has n xs

pub or_swap : (a b c : Bool) → (a || (b || c)) ≡ (b || (a || c))
or_swap true true c = refl
or_swap true false c = refl
or_swap false true c = refl
or_swap false false c = refl

or_self : (a b : Bool) → (a || (a || b)) ≡ (a || b)
or_self true b = refl
or_self false b = refl

or_both : (a p q : Bool) → (a || (p || q)) ≡ ((a || p) || (a || q))
or_both true p q = refl
or_both false p q = refl

pub no : {X : Type 0} → false ≡ true → X
no h = absurd (grind (arith, h))

pub has-append : (n : ℕ) (xs ys : List ℕ) → has n (xs ++ ys) ≡ (has n xs || has n ys)
has-append n [] ys = refl
has-append n (x ∷ xs) ys = ap (λ b. (n == x) || b) (has-append n xs ys) ∙ sym (or_assoc (n == x) (has n xs) (has n ys))

-- sorting a list doesn't change its members
put_by : (n m x : ℕ) (xs : List ℕ) (b : Bool) → has n (put_in m xs) ≡ ((n == m) || has n xs) → has n (if b then m ∷ (x ∷ xs) else x ∷ put_in m xs) ≡ ((n == m) || has n (x ∷ xs))
put_by n m x xs true ih = refl
put_by n m x xs false ih = ap (λ b. (n == x) || b) ih ∙ or_swap (n == x) (n == m) (has n xs)

has-put : (n m : ℕ) (xs : List ℕ) → has n (put_in m xs) ≡ ((n == m) || has n xs)
has-put n m [] = refl
has-put n m (x ∷ xs) = put_by n m x xs (nat_le m x) (has-put n m xs)

pub has-ascending : (n : ℕ) (xs : List ℕ) → has n (ascending xs) ≡ has n xs
has-ascending n [] = refl
has-ascending n (x ∷ xs) = has-put n x (ascending xs) ∙ ap (λ b. (n == x) || b) (has-ascending n xs)

-- a sorted list doesn't descend, which `UpFrom` says
abbrev pub UpFrom : ℕ → List ℕ → Type 0
UpFrom low [] = Unit {0}
UpFrom low (k ∷ ks) = (low ≤ k) × UpFrom k ks

up_by : (low m x : ℕ) (xs : List ℕ) (b : Bool) → nat_le m x ≡ b → low ≤ m → UpFrom low (x ∷ xs) → (x ≤ m → UpFrom x (put_in m xs)) → UpFrom low (if b then m ∷ (x ∷ xs) else x ∷ put_in m xs)
up_by low m x xs true is least up more = (least, (leb-true m x is, up.1))
up_by low m x xs false is least up more = (up.0, more (omega (arith, leb-false m x is)))

up-put : (low m : ℕ) (xs : List ℕ) → low ≤ m → UpFrom low xs → UpFrom low (put_in m xs)
up-put low m [] least up = (least, tt)
up-put low m (x ∷ xs) least up = up_by low m x xs (nat_le m x) refl least up (λ l. up-put x m xs l up.1)

pub up-ascending : (xs : List ℕ) → UpFrom 0 (ascending xs)
up-ascending [] = tt
up-ascending (x ∷ xs) = up-put 0 x (ascending xs) (omega arith) (up-ascending xs)

-- removing the repetitions of a sorted list doesn't change its members, and afterwards the list rises
once_by : (n l x : ℕ) (xs : List ℕ) (b : Bool) → (l == x) ≡ b → has n (x ∷ once_behind (Some x) xs) ≡ has n (x ∷ xs)
    → has n (l ∷ (if b then once_behind (Some x) xs else x ∷ once_behind (Some x) xs)) ≡ has n (l ∷ (x ∷ xs))
once_by n l x xs true is ih =
    subst (λ k. has n (k ∷ once_behind (Some x) xs) ≡ has n (k ∷ (x ∷ xs))) (sym (eqb-true l x is)) (ih ∙ sym (or_self (n == x) (has n xs)))
once_by n l x xs false is ih = ap (λ b. (n == l) || b) ih

has-behind : (n l : ℕ) (xs : List ℕ) → has n (l ∷ once_behind (Some l) xs) ≡ has n (l ∷ xs)
has-behind n l [] = refl
has-behind n l (x ∷ xs) = once_by n l x xs (l == x) refl (has-behind n x xs)

pub has-once : (n : ℕ) (xs : List ℕ) → has n (once xs) ≡ has n xs
has-once n [] = refl
has-once n (x ∷ xs) = has-behind n x xs

pub more_than : (l x : ℕ) → l ≤ x → (l ≡ x → ⊥) → l + 1 ≤ x
more_than l x least other = omega (arith, least, other)

rise_by : (l x : ℕ) (xs : List ℕ) (b : Bool) → (l == x) ≡ b → l ≤ x → RiseFrom (x + 1) (once_behind (Some x) xs)
    → RiseFrom (l + 1) (if b then once_behind (Some x) xs else x ∷ once_behind (Some x) xs)
rise_by l x xs true is least ih = subst (λ k. RiseFrom (k + 1) (once_behind (Some x) xs)) (sym (eqb-true l x is)) ih
rise_by l x xs false is least ih = (more_than l x least (eqb-false l x is), ih)

rise-behind : (l : ℕ) (xs : List ℕ) → UpFrom l xs → RiseFrom (l + 1) (once_behind (Some l) xs)
rise-behind l [] up = tt
rise-behind l (x ∷ xs) up = rise_by l x xs (l == x) refl up.0 (rise-behind x xs up.1)

pub rise-once : (xs : List ℕ) → UpFrom 0 xs → RiseFrom 0 (once xs)
rise-once [] up = tt
rise-once (x ∷ xs) up = (up.0, rise-behind x xs up.1)

-- every member of a list that rises from `low` is at least `low`
low_by : (n low k : ℕ) (b p : Bool) → (n == k) ≡ b → low ≤ k → (b || p) ≡ true → (p ≡ true → k + 1 ≤ n) → low ≤ n
low_by n low k true p is least told more = omega (arith, eqb-true n k is, least)
low_by n low k false p is least told more = omega (arith, least, more told)

low-of : (n low : ℕ) (ks : List ℕ) → RiseFrom low ks → has n ks ≡ true → low ≤ n
low-of n low [] up is = no is
low-of n low (k ∷ ks) up is = low_by n low k (n == k) (has n ks) refl up.0 is (λ h. low-of n (k + 1) ks up.1 h)

pub here : (x : ℕ) (xs : List ℕ) → has x (x ∷ xs) ≡ true
here x xs = ap (λ b. b || has x xs) (eq-eqb x x refl)

tail : (n x : ℕ) (xs ys : List ℕ) (b p q : Bool) → (n == x) ≡ b → has n xs ≡ p → has n ys ≡ q → RiseFrom (x + 1) xs → RiseFrom (x + 1) ys → (b || p) ≡ (b || q) → p ≡ q
tail n x xs ys false p q is p_is q_is up upper same = same
tail n x xs ys true true true is p_is q_is up upper same = refl
tail n x xs ys true false false is p_is q_is up upper same = refl
tail n x xs ys true true false is p_is q_is up upper same = absurd (omega (arith, eqb-true n x is, low-of n (x + 1) xs up p_is))
tail n x xs ys true false true is p_is q_is up upper same = absurd (omega (arith, eqb-true n x is, low-of n (x + 1) ys upper q_is))

-- ONE LIST: two rising lists with the same members are the same list
pub unique : (low : ℕ) (xs ys : List ℕ) → RiseFrom low xs → RiseFrom low ys → ((n : ℕ) → has n xs ≡ has n ys) → xs ≡ ys
unique low [] [] a b same = refl
unique low [] (y ∷ ys) a b same = no (same y ∙ here y ys)
unique low (x ∷ xs) [] a b same = no (sym (same x) ∙ here x xs)
unique low (x ∷ xs) (y ∷ ys) a b same =
    let not_less : y ≤ x = low-of x y (y ∷ ys) (omega arith, b.1) (sym (same x) ∙ here x xs) in
    let not_more : x ≤ y = low-of y x (x ∷ xs) (omega arith, a.1) (same y ∙ here y ys) in
    let head : x ≡ y = omega (arith, not_less, not_more) in
    let upper : RiseFrom (x + 1) ys = subst (λ k. RiseFrom (k + 1) ys) (sym head) b.1 in
    ap₂ (λ k ks. k ∷ ks) head
    (unique (x + 1) xs ys a.1 upper
    (λ n. tail n x xs ys (n == x) (has n xs) (has n ys) refl refl refl a.1 upper (subst (λ k. ((n == x) || has n xs) ≡ ((n == k) || has n ys)) (sym head) (same n))))

-- a number is the key of a pair if and only if it is a key of one of the two lists
has-pair : (n : ℕ) (ox oy : Option Place) (xs ys : List Place) (ks : List ℕ) → AreOne ox oy → has n ks ≡ (has n (keys xs) || has n (keys ys))
    → has n (either_key ox oy ∷ ks) ≡ (has n (keys (cons_option ox xs)) || has n (keys (cons_option oy ys)))
has-pair n None None xs ys ks one ih = absurd one
has-pair n (Some x) None xs ys ks one ih = ap (λ b. (n == x.key) || b) ih ∙ sym (or_assoc (n == x.key) (has n (keys xs)) (has n (keys ys)))
has-pair n None (Some y) xs ys ks one ih = ap (λ b. (n == y.key) || b) ih ∙ or_swap (n == y.key) (has n (keys xs)) (has n (keys ys))
has-pair n (Some x) (Some y) xs ys ks one ih =
    subst (λ k. has n (x.key ∷ ks) ≡ (((n == x.key) || has n (keys xs)) || ((n == k) || has n (keys ys)))) one
    (ap (λ b. (n == x.key) || b) ih ∙ or_both (n == x.key) (has n (keys xs)) (has n (keys ys)))

pub has-pairs : (n : ℕ) (ps : List KeyPair) → All IsOne ps
    → has n (map pair_key ps) ≡ (has n (keys (filter_map (λ (p : KeyPair). p.before) ps)) || has n (keys (filter_map (λ (p : KeyPair). p.after) ps)))
has-pairs n [] all = refl
has-pairs n (p ∷ ps) all =
    has-pair n p.before p.after (filter_map (λ (q : KeyPair). q.before) ps) (filter_map (λ (q : KeyPair). q.after) ps) (map pair_key ps) (All-head IsOne p ps all)
    (has-pairs n ps (All-tail IsOne p ps all))

-- What stays the same when a list is reordered.
use Rattle.std.proofs.Common.{◌≡◌, ℕ, ◌+◌, ◌≤◌, Bool, true, false, List, [], ◌∷◌, ◌++◌, length, ap, sym, subst, ◌∙◌, refl, arith, append_assoc, append-nil}
use Rattle.std.specs.Prelude.{map, filter, find, if◌then◌else◌, All, flat_map, Option, Some, not}
use Rattle.std.specs.List.{sum_by, count_by}
use Rattle.std.proofs.lemmas.List.Sums.{sum_by-append, sum_by-cons}
use Rattle.std.proofs.lemmas.List.Elements.{All-cons, All-head, All-tail}
use Rattle.crush_model.specs.Count.{one_if}
pub use Rattle.crush_model.specs.Count.{one_if}
use Rattle.crush_model.specs.Reordered.{IsReordered, nothing, keep, exchange, through}

module _ {X : Type 0} where
  pub reordered-refl : (xs : List X) → IsReordered xs xs
  reordered-refl [] = nothing
  reordered-refl (x ∷ xs) = keep (reordered-refl xs)

  pub reordered-sym : {xs ys : List X} → IsReordered xs ys → IsReordered ys xs
  reordered-sym nothing = nothing
  reordered-sym (keep h) = keep (reordered-sym h)
  reordered-sym exchange = exchange
  reordered-sym (through h g) = through (reordered-sym g) (reordered-sym h)

  pub reordered-is : {xs ys : List X} → xs ≡ ys → IsReordered xs ys
  reordered-is {xs} e = subst (IsReordered xs) e (reordered-refl xs)

  pub reordered-sum : (f : X → ℕ) {xs ys : List X} → IsReordered xs ys → sum_by f xs ≡ sum_by f ys
  reordered-sum f nothing = refl
  reordered-sum f (keep {x} {xs} {ys} h) = omega (arith, sum_by-cons f x xs, sum_by-cons f x ys, reordered-sum f h)
  reordered-sum f (exchange {x} {y} {xs}) = omega (arith, sum_by-cons f x (y ∷ xs), sum_by-cons f y xs, sum_by-cons f y (x ∷ xs), sum_by-cons f x xs)
  reordered-sum f (through h g) = reordered-sum f h ∙ reordered-sum f g

  pub reordered-count : (p : X → Bool) {xs ys : List X} → IsReordered xs ys → count_by p xs ≡ count_by p ys
  reordered-count p h = reordered-sum (λ x. one_if (p x)) h

  pub reordered-length : {xs ys : List X} → IsReordered xs ys → length xs ≡ length ys
  reordered-length nothing = refl
  reordered-length (keep h) = omega (arith, reordered-length h)
  reordered-length exchange = refl
  reordered-length (through h g) = reordered-length h ∙ reordered-length g

  -- what is true of each element of a list is true of each element of its reordering
  pub reordered-All : (P : X → Type 0) {xs ys : List X} → IsReordered xs ys → All P xs → All P ys
  reordered-All P nothing a = a
  reordered-All P (keep {x} {xs} {ys} h) a = All-cons P x ys (All-head P x xs a) (reordered-All P h (All-tail P x xs a))
  reordered-All P (exchange {x} {y} {xs}) a =
      let rest : All P (y ∷ xs) = All-tail P x (y ∷ xs) a in
      All-cons P y (x ∷ xs) (All-head P y xs rest) (All-cons P x xs (All-head P x (y ∷ xs) a) (All-tail P y xs rest))
  reordered-All P (through h g) a = reordered-All P g (reordered-All P h a)

  keep_if : (b : Bool) (x : X) {xs ys : List X} → IsReordered xs ys → IsReordered (if b then x ∷ xs else xs) (if b then x ∷ ys else ys)
  keep_if true x h = keep h
  keep_if false x h = h

  exchange_if : (a b : Bool) (x y : X) (xs : List X) → IsReordered (if a then x ∷ (if b then y ∷ xs else xs) else (if b then y ∷ xs else xs)) (if b then y ∷ (if a then x ∷ xs else xs) else (if a then x ∷ xs else xs))
  exchange_if true true x y xs = exchange
  exchange_if true false x y xs = reordered-refl (x ∷ xs)
  exchange_if false true x y xs = reordered-refl (y ∷ xs)
  exchange_if false false x y xs = reordered-refl xs

  pub reordered-filter : (p : X → Bool) {xs ys : List X} → IsReordered xs ys → IsReordered (filter p xs) (filter p ys)
  reordered-filter p nothing = nothing
  reordered-filter p (keep {x} {xs} {ys} h) = keep_if (p x) x (reordered-filter p h)
  reordered-filter p (exchange {x} {y} {xs}) = exchange_if (p x) (p y) x y (filter p xs)
  reordered-filter p (through h g) = through (reordered-filter p h) (reordered-filter p g)

  pub reordered-after : (ws : List X) {xs ys : List X} → IsReordered xs ys → IsReordered (ws ++ xs) (ws ++ ys)
  reordered-after [] h = h
  reordered-after (w ∷ ws) h = keep (reordered-after ws h)

  pub reordered-before : (ws : List X) {xs ys : List X} → IsReordered xs ys → IsReordered (xs ++ ws) (ys ++ ws)
  reordered-before ws nothing = reordered-refl ws
  reordered-before ws (keep h) = keep (reordered-before ws h)
  reordered-before ws exchange = exchange
  reordered-before ws (through h g) = through (reordered-before ws h) (reordered-before ws g)

  pub reordered-append : {xs ys vs ws : List X} → IsReordered xs ys → IsReordered vs ws → IsReordered (xs ++ vs) (ys ++ ws)
  reordered-append {xs} {ys} {vs} {ws} h g = through (reordered-before vs h) (reordered-after ys g)

  to_middle : (x : X) (us ts : List X) → IsReordered (x ∷ (us ++ ts)) (us ++ x ∷ ts)
  to_middle x [] ts = reordered-refl (x ∷ ts)
  to_middle x (y ∷ us) ts = through exchange (keep (to_middle x us ts))

  -- two adjacent lists can be exchanged
  pub reordered_comm : (ts us : List X) → IsReordered (ts ++ us) (us ++ ts)
  reordered_comm [] us = subst (λ z. IsReordered us z) (sym (append-nil us)) (reordered-refl us)
  reordered_comm (x ∷ ts) us = through (keep (reordered_comm ts us)) (to_middle x us ts)

  -- the last of three lists can be moved before the second
  pub reordered_end : (k r n : List X) → IsReordered ((k ++ r) ++ n) ((k ++ n) ++ r)
  reordered_end k r n = subst (λ z. IsReordered z ((k ++ n) ++ r)) (sym (append_assoc k r n)) (subst (λ z. IsReordered (k ++ (r ++ n)) z) (sym (append_assoc k n r)) (reordered-after k (reordered_comm r n)))

  split_if : (b : Bool) (x : X) (xs ys ns : List X) → IsReordered (ys ++ ns) xs → IsReordered ((if b then x ∷ ys else ys) ++ (if not b then x ∷ ns else ns)) (x ∷ xs)
  split_if true x xs ys ns h = keep h
  split_if false x xs ys ns h = through (reordered-sym (to_middle x ys ns)) (keep h)

  -- the elements that pass a test and those that fail it are all elements
  pub reordered_split : (p : X → Bool) (xs : List X) → IsReordered (filter p xs ++ filter (λ x. not (p x)) xs) xs
  reordered_split p [] = nothing
  reordered_split p (x ∷ xs) = split_if (p x) x xs (filter p xs) (filter (λ y. not (p y)) xs) (reordered_split p xs)

  find_if : (a : Bool) (x : X) (o q : Option X) → o ≡ q → (if a then Some x else o) ≡ (if a then Some x else q)
  find_if a x o q e = ap (λ z. if a then Some x else z) e

  find_exchange : (a b : Bool) (x y : X) (o : Option X) → one_if a + one_if b ≤ 1 → (if a then Some x else (if b then Some y else o)) ≡ (if b then Some y else (if a then Some x else o))
  find_exchange true true x y o h = absurd (omega arith)
  find_exchange true false x y o h = refl
  find_exchange false true x y o h = refl
  find_exchange false false x y o h = refl

  -- if at most one element passes a test, the same element is found in both orders
  pub reordered-find : (p : X → Bool) {xs ys : List X} → IsReordered xs ys → count_by p xs ≤ 1 → find p xs ≡ find p ys
  reordered-find p nothing h = refl
  reordered-find p (keep {x} {xs} {ys} r) h = find_if (p x) x (find p xs) (find p ys) (reordered-find p r (omega (arith, sum_by-cons (λ z. one_if (p z)) x xs)))
  reordered-find p (exchange {x} {y} {xs}) h = find_exchange (p x) (p y) x y (find p xs) (omega (arith, sum_by-cons (λ z. one_if (p z)) x (y ∷ xs), sum_by-cons (λ z. one_if (p z)) y xs))
  reordered-find p (through r s) h = reordered-find p r h ∙ reordered-find p s (omega (arith, reordered-count p r))

module _ {X Y : Type 0} where
  pub reordered-map : (f : X → Y) {xs ys : List X} → IsReordered xs ys → IsReordered (map f xs) (map f ys)
  reordered-map f nothing = nothing
  reordered-map f (keep h) = keep (reordered-map f h)
  reordered-map f exchange = exchange
  reordered-map f (through h g) = through (reordered-map f h) (reordered-map f g)

  pub map_append : (f : X → Y) (xs ys : List X) → map f (xs ++ ys) ≡ map f xs ++ map f ys
  map_append f [] ys = refl
  map_append f (x ∷ xs) ys = ap (λ z. f x ∷ z) (map_append f xs ys)

  pub sum_by-map : (g : Y → ℕ) (f : X → Y) (xs : List X) → sum_by g (map f xs) ≡ sum_by (λ x. g (f x)) xs
  sum_by-map g f [] = refl
  sum_by-map g f (x ∷ xs) = omega (arith, sum_by-cons g (f x) (map f xs), sum_by-cons (λ z. g (f z)) x xs, sum_by-map g f xs)

  pub sum_by-flat_map : (g : Y → ℕ) (f : X → List Y) (xs : List X) → sum_by g (flat_map f xs) ≡ sum_by (λ x. sum_by g (f x)) xs
  sum_by-flat_map g f [] = refl
  sum_by-flat_map g f (x ∷ xs) = omega (arith, sum_by-append g (f x) (flat_map f xs), sum_by-cons (λ z. sum_by g (f z)) x xs, sum_by-flat_map g f xs)

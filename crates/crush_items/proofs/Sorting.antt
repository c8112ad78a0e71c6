-- Numbers in ascending order: a sort by number gives the order that the definitions describe.
use Rattle.std.proofs.Common.{◌≡◌, ℕ, suc, ◌+◌, ◌<◌, ◌≤◌, List, [], ◌∷◌, ◌++◌, length, get_or, map, refl, ap, sym, ◌∙◌, arith, ⊎_elim, eq-eqb}
use Rattle.std.specs.Prelude.{flat_map, All, Bool, true, false, ◌==◌, nat_le, if◌then◌else◌}
use Rattle.std.specs.List.{sum_by}
use Rattle.std.specs.List.Sorted.{IsPermutation, IsNonDecreasingBy}
use Rattle.std.proofs.lemmas.Bool.Decides.{eqb_tells, leb_tells}
use Rattle.std.proofs.lemmas.List.Sums.{sum_by-append, sum_by-cons}
use Rattle.std.proofs.lemmas.List.Sorted.{All-permutation, sum_by-IsPermutation}
use Rattle.std.proofs.lemmas.List.{map-id}
use Rattle.std.proofs.lemmas.List.Elements.{All-head, All-tail}
use Rattle.crush_model.specs.Reordered.{IsReordered}
use Rattle.crush_model.proofs.Reorder.{reordered-sum}
use Rattle.crush_model.specs.Count.{one_if}
use Rattle.crush_items.specs.Order.{put_in, ascending}

-- how often a number is in a list
abbrev pub times : ℕ → List ℕ → ℕ
times n xs = sum_by (λ x. one_if (x == n)) xs

-- no number of the list is below m
abbrev pub AtLeast : ℕ → List ℕ → Type 0
AtLeast m [] = Unit {0}
AtLeast m (x ∷ xs) = (m ≤ x) × AtLeast m xs

-- no number is above a later number of the list
abbrev pub Rising : List ℕ → Type 0
Rising [] = Unit {0}
Rising (x ∷ xs) = AtLeast x xs × Rising xs

-- a number is once more in a list that begins with it than in the rest of the list
times_here : (n : ℕ) (xs : List ℕ) → times n (n ∷ xs) ≡ 1 + times n xs
times_here n xs = let one : one_if (n == n) ≡ 1 = ap one_if (eq-eqb n n refl) in omega (arith, one, sum_by-cons (λ x. one_if (x == n)) n xs)

-- a number that is less than all numbers of a list isn't in the list
times_below : (n : ℕ) (xs : List ℕ) → AtLeast (suc n) xs → times n xs ≡ 0
times_below n [] h = refl
times_below n (x ∷ xs) h = ⊎_elim
    (λ p. absurd (let le : suc n ≤ x = h.0 in let e : x ≡ n = p.1 in omega arith))
    (λ p. let no : one_if (x == n) ≡ 0 = ap one_if p.0 in omega (arith, no, times_below n xs h.1, sum_by-cons (λ y. one_if (y == n)) x xs))
    (eqb_tells x n)

-- if no number of a list is below n, and m is at most n, then no number of the list is below m
least_less : (m n : ℕ) (xs : List ℕ) → m ≤ n → AtLeast n xs → AtLeast m xs
least_less m n [] le h = tt
least_less m n (x ∷ xs) le h = (let a : n ≤ x = h.0 in omega arith, least_less m n xs le h.1)

-- if two lists have the same numbers, then the first number of one list isn't less than all numbers of the other
lower : (x y : ℕ) (xs ys : List ℕ) → AtLeast y ys → ((n : ℕ) → times n (x ∷ xs) ≡ times n (y ∷ ys)) → y ≤ x
lower x y xs ys least same = ⊎_elim
    (λ p. p.1)
    (λ p. absurd (
    let lt : x < y = p.1 in
    let none : times x (y ∷ ys) ≡ 0 = times_below x (y ∷ ys) (omega arith, least_less (suc x) y ys (omega arith) least) in
    omega (arith, none, same x, times_here x xs)))
    (leb_tells y x)

-- two lists in ascending order that have the same numbers are equal
pub rising_same : (xs ys : List ℕ) → Rising xs → Rising ys → ((n : ℕ) → times n xs ≡ times n ys) → xs ≡ ys
rising_same [] [] a b same = refl
rising_same [] (y ∷ ys) a b same = absurd (omega (arith, times_here y ys, same y))
rising_same (x ∷ xs) [] a b same = absurd (omega (arith, times_here x xs, same x))
rising_same (x ∷ xs) (y ∷ ys) a b same =
    let le : y ≤ x = lower x y xs ys b.0 same in
    let ge : x ≤ y = lower y x ys xs a.0 (λ n. sym (same n)) in
    let e : x ≡ y = omega arith in
    let rest : (n : ℕ) → times n xs ≡ times n ys = λ n. omega (arith, same n, sum_by-cons (λ z. one_if (z == n)) x xs, sum_by-cons (λ z. one_if (z == n)) y ys, ap (λ z. one_if (z == n)) e) in
    ap (λ z. z ∷ xs) e ∙ ap (λ zs. y ∷ zs) (rising_same xs ys a.1 b.1 rest)

-- if no number of a list is below m, then this is still true after a number n that isn't below m is inserted
put_in_least : (m n : ℕ) (xs : List ℕ) → m ≤ n → AtLeast m xs → AtLeast m (put_in n xs)
put_in_least m n [] le h = (le, tt)
put_in_least m n (x ∷ xs) le h = at (nat_le n x) (put_in_least m n xs le h.1) where
  at : (b : Bool) → AtLeast m (put_in n xs) → AtLeast m (if b then n ∷ (x ∷ xs) else x ∷ put_in n xs)
  at true rest = (le, h)
  at false rest = (h.0, rest)

-- a list in ascending order is still in ascending order after a number is inserted
put_in_rises : (n : ℕ) (xs : List ℕ) → Rising xs → Rising (put_in n xs)
put_in_rises n [] h = (tt, tt)
put_in_rises n (x ∷ xs) h = ⊎_elim
    (λ p. rw p.0 ((p.1, least_less n x xs p.1 h.0), h))
    (λ p. rw p.0 (put_in_least x n xs (let lt : x < n = p.1 in omega arith) h.0, put_in_rises n xs h.1))
    (leb_tells n x)

-- so `ascending` returns a list in ascending order
ascending_rises : (xs : List ℕ) → Rising (ascending xs)
ascending_rises [] = tt
ascending_rises (x ∷ xs) = put_in_rises x (ascending xs) (ascending_rises xs)

-- inserting a number into a list loses no number
times-put_in : (k n : ℕ) (xs : List ℕ) → times k (put_in n xs) ≡ times k (n ∷ xs)
times-put_in k n [] = refl
times-put_in k n (x ∷ xs) = at (nat_le n x) (times-put_in k n xs) where
  at : (b : Bool) → times k (put_in n xs) ≡ times k (n ∷ xs) → times k (if b then n ∷ (x ∷ xs) else x ∷ put_in n xs) ≡ times k (n ∷ (x ∷ xs))
  at true rest = refl
  at false rest = omega (arith, rest, sum_by-cons (λ y. one_if (y == k)) x (put_in n xs), sum_by-cons (λ y. one_if (y == k)) n xs, sum_by-cons (λ y. one_if (y == k)) n (x ∷ xs), sum_by-cons (λ y. one_if (y == k)) x xs)

-- `ascending` loses no number of the list
pub times-ascending : (k : ℕ) (xs : List ℕ) → times k (ascending xs) ≡ times k xs
times-ascending k [] = refl
times-ascending k (x ∷ xs) = times-put_in k x (ascending xs) ∙ omega (arith, times-ascending k xs, sum_by-cons (λ y. one_if (y == k)) x xs, sum_by-cons (λ y. one_if (y == k)) x (ascending xs))

-- if two lists have the same numbers, `ascending` returns the same list for both
pub ascending_same : (xs ys : List ℕ) → ((n : ℕ) → times n xs ≡ times n ys) → ascending xs ≡ ascending ys
ascending_same xs ys same = rising_same (ascending xs) (ascending ys) (ascending_rises xs) (ascending_rises ys) (λ n. times-ascending n xs ∙ same n ∙ sym (times-ascending n ys))

-- how often a number is among the numbers of the elements of a list
times-map : {X : Type 0} (number : X → ℕ) (k : ℕ) (xs : List X) → times k (map number xs) ≡ sum_by (λ x. one_if (number x == k)) xs
times-map number k [] = refl
times-map number k (x ∷ xs) = omega (arith, times-map number k xs, sum_by-cons (λ y. one_if (y == k)) (number x) (map number xs), sum_by-cons (λ y. one_if (number y == k)) x xs)

-- how often a number is among the numbers of all elements, if each element has a list of numbers
times-flat_map : {X : Type 0} (numbers : X → List ℕ) (k : ℕ) (xs : List X) → times k (flat_map numbers xs) ≡ sum_by (λ x. times k (numbers x)) xs
times-flat_map numbers k [] = refl
times-flat_map numbers k (x ∷ xs) = omega (arith, times-flat_map numbers k xs, sum_by-append (λ y. one_if (y == k)) (numbers x) (flat_map numbers xs), sum_by-cons (λ y. times k (numbers y)) x xs)

-- for elements in another order, `ascending` returns the same list of their numbers
pub ascending-reordered : {X : Type 0} (numbers : X → List ℕ) (xs ys : List X) → IsReordered xs ys → ascending (flat_map numbers xs) ≡ ascending (flat_map numbers ys)
ascending-reordered numbers xs ys h = ascending_same (flat_map numbers xs) (flat_map numbers ys)
    (λ k. times-flat_map numbers k xs ∙ reordered-sum (λ x. times k (numbers x)) h ∙ sym (times-flat_map numbers k ys))

-- if no element's number is below m, then no number of the mapped list is below m
least_of_rest : {X : Type 0} (number : X → ℕ) (m : ℕ) (xs : List X) → ((j : ℕ) (d : X) → j < length xs → m ≤ number (get_or xs j d)) → AtLeast m (map number xs)
least_of_rest number m [] h = tt
least_of_rest number m (x ∷ xs) h = (h 0 x (omega arith), least_of_rest number m xs (λ j d lt. h (suc j) d (omega arith)))

-- the numbers of sorted elements are in ascending order
sorted_rises : {X : Type 0} (number : X → ℕ) (xs : List X) → IsNonDecreasingBy number xs → Rising (map number xs)
sorted_rises number [] h = tt
sorted_rises number (x ∷ xs) h = (least_of_rest number (number x) xs (λ j d lt. h 0 (suc j) d (omega arith) (omega arith)), sorted_rises number xs (λ i j d le lt. h (suc i) (suc j) d (omega arith) (omega arith)))

-- the numbers of the sorted elements are what `ascending` returns for the numbers of the unsorted elements
pub sorted_is_ascending : {X : Type 0} (number : X → ℕ) (xs ys : List X) → IsPermutation xs ys → IsNonDecreasingBy number ys → map number ys ≡ ascending (map number xs)
sorted_is_ascending number xs ys same up = rising_same (map number ys) (ascending (map number xs)) (sorted_rises number ys up) (ascending_rises (map number xs))
    (λ k. times-map number k ys ∙ sum_by-IsPermutation (λ x. one_if (number x == k)) xs ys same ∙ sym (times-map number k xs) ∙ sym (times-ascending k (map number xs)))

-- if the line of each element is the text of the element's number, then the lines of all elements are the texts of their numbers
pub lines_by_number : {X : Type 0} (number : X → ℕ) (line : X → List ℕ) (text : ℕ → List ℕ) (xs : List X) → All (λ x. text (number x) ≡ line x) xs → flat_map line xs ≡ flat_map text (map number xs)
lines_by_number number line text [] h = refl
lines_by_number number line text (x ∷ xs) h =
    ap (λ (l : List ℕ). l ++ flat_map line xs) (sym (All-head (λ x. text (number x) ≡ line x) x xs h)) ∙ ap (λ (l : List ℕ). text (number x) ++ l) (lines_by_number number line text xs (All-tail (λ x. text (number x) ≡ line x) x xs h))

-- LINES IN ORDER: the lines of elements whose numbers ascend are the texts of the numbers in ascending order
pub lines_of_rising : {X : Type 0} (number : X → ℕ) (line : X → List ℕ) (text : ℕ → List ℕ) (xs ys : List X) → IsPermutation xs ys → map number ys ≡ ascending (map number xs) → All (λ x. text (number x) ≡ line x) xs
    → flat_map line ys ≡ flat_map text (ascending (map number xs))
lines_of_rising number line text xs ys same rising each =
    lines_by_number number line text ys (All-permutation (λ x. text (number x) ≡ line x) xs ys same each) ∙ ap (flat_map text) rising

-- the lines of elements that are sorted by their numbers are the texts of the numbers in ascending order
pub lines_in_order : {X : Type 0} (number : X → ℕ) (line : X → List ℕ) (text : ℕ → List ℕ) (xs ys : List X) → IsPermutation xs ys → IsNonDecreasingBy number ys → All (λ x. text (number x) ≡ line x) xs
    → flat_map line ys ≡ flat_map text (ascending (map number xs))
lines_in_order number line text xs ys same up each = lines_of_rising number line text xs ys same (sorted_is_ascending number xs ys same up) each

-- a sorted list of numbers is what `ascending` returns
pub numbers_sorted : (xs ys : List ℕ) → IsPermutation xs ys → IsNonDecreasingBy (λ n. n) ys → ys ≡ ascending xs
numbers_sorted xs ys same up = sym (map-id ys) ∙ sorted_is_ascending (λ n. n) xs ys same up ∙ ap ascending (map-id xs)

-- mapping twice is mapping once with both functions
map-map : {X Y : Type 0} (f : Y → ℕ) (g : X → Y) (xs : List X) → map (λ x. f (g x)) xs ≡ map f (map g xs)
map-map f g [] = refl
map-map f g (x ∷ xs) = ap (λ (l : List ℕ). f (g x) ∷ l) (map-map f g xs)

-- if the list xs becomes the list ys when each element is mapped with `see`, then both lists have the same numbers
pub numbers_seen : {X Y : Type 0} (number : Y → ℕ) (see : X → Y) (xs : List X) (ys : List Y) → map see xs ≡ ys → map (λ x. number (see x)) xs ≡ map number ys
numbers_seen number see xs ys are = map-map number see xs ∙ ap (map number) are

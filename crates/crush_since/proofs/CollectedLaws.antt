-- Lemmas about the list of classes that `collected` defines: each class comes once, in ascending order of the names.
use Rattle.std.proofs.Common.{◌≡◌, ℕ, ◌+◌, ◌<◌, ◌-◌, Bool, true, false, List, [], ◌∷◌, ◌++◌, ap, sym, ◌∙◌, refl, arith, subst}
use Rattle.std.specs.Prelude.{bytes_eq, if◌then◌else◌}
use Rattle.std.specs.List.{sum_by}
use Rattle.std.specs.Cmp.{ranks, tied_itself}
use Rattle.std.specs.Cmp.Lexicographic.{slice_cmp, nat_list_cmp_total, bytes_decides}
use Rattle.std.specs.Ordering.{nat_cmp, is_lt, is_gt, ordering_reverse, ordering_then, MatchOrdering}
use Rattle.std.specs.declared.cmp.Ordering.{Ordering}
use Rattle.std.specs.declared.cmp.Ordering.TheVariants.{Less, Equal, Greater}
use Rattle.std.proofs.lemmas.List.Sums.{sum_by-cons}
use Rattle.crush_since.specs.Grouped.{with_first, grouped}
use Rattle.crush_since.specs.Collected.{Amount, old_weight, new_weight, old_devices, new_devices, takes, ClassData, together, put_at, put_class, collected}

abbrev pub order : List ℕ → List ℕ → Ordering
order x y = slice_cmp nat_cmp x y

-- what a class adds to the amounts of a name
abbrev pub amount_at : List ℕ → Amount → ClassData → ℕ
amount_at c k x = if bytes_eq x.name c then x.amount k else 0

abbrev pub amounts : List ℕ → Amount → List ClassData → ℕ
amounts c k xs = sum_by (amount_at c k) xs

-- EQUAL NAMES: the order of two names is `Equal` if and only if the names are equal
equal_first : (x y : ℕ) (o p : Ordering) → MatchOrdering o (x < y) (x ≡ y) (y < x) → ordering_then o p ≡ Equal → (x ≡ y) × (p ≡ Equal)
equal_first x y Less p m e = absurd cc
equal_first x y Equal p m e = (m, e)
equal_first x y Greater p m e = absurd cc

pub equal_names : (x y : List ℕ) → order x y ≡ Equal → x ≡ y
equal_names [] [] e = refl
equal_names [] (y ∷ ys) e = absurd cc
equal_names (x ∷ xs) [] e = absurd cc
equal_names (x ∷ xs) (y ∷ ys) e = let q = equal_first x y (nat_cmp x y) (order xs ys) (ranks x y) e in λ i. q.0 i ∷ equal_names xs ys q.1 i

split : (b : Bool) (m n : ℕ) → (if b then m + n else 0) ≡ (if b then m else 0) + (if b then n else 0)
split true m n = refl
split false m n = refl

-- AMOUNTS: inserting a class adds its amounts
put_adds_at : (c : List ℕ) (k : Amount) (x y : ClassData) (ys rest : List ClassData) (o : Ordering) → order x.name y.name ≡ o → amounts c k rest ≡ amount_at c k x + amounts c k ys
    → amounts c k (put_at o x y ys rest) ≡ amount_at c k x + (amount_at c k y + amounts c k ys)
put_adds_at c k x y ys rest Less is more = omega (arith, sum_by-cons (amount_at c k) x (y ∷ ys), sum_by-cons (amount_at c k) y ys)
put_adds_at c k x y ys rest Equal is more =
    let same : amount_at c k (together x y) ≡ amount_at c k x + amount_at c k y = split (bytes_eq y.name c) (x.amount k) (y.amount k) ∙ ap (λ n. (if bytes_eq n c then x.amount k else 0) + amount_at c k y) (sym (equal_names x.name y.name is)) in
    omega (arith, same, sum_by-cons (amount_at c k) (together x y) ys)
put_adds_at c k x y ys rest Greater is more = omega (arith, more, sum_by-cons (amount_at c k) y rest)

put_adds : (c : List ℕ) (k : Amount) (x : ClassData) (ys : List ClassData) → amounts c k (put_class x ys) ≡ amount_at c k x + amounts c k ys
put_adds c k x [] = sum_by-cons (amount_at c k) x []
put_adds c k x (y ∷ ys) =
    put_adds_at c k x y ys (put_class x ys) (order x.name y.name) refl (put_adds c k x ys) ∙ ap (λ n. amount_at c k x + n) (sym (sum_by-cons (amount_at c k) y ys))

pub collected_adds : (c : List ℕ) (k : Amount) (xs : List ClassData) → amounts c k (collected xs) ≡ amounts c k xs
collected_adds c k [] = refl
collected_adds c k (x ∷ xs) = put_adds c k x (collected xs) ∙ ap (λ n. amount_at c k x + n) (collected_adds c k xs) ∙ sym (sum_by-cons (amount_at c k) x xs)

-- RISING NAMES: the names of the classes ascend, and none is repeated
abbrev pub Above : List ℕ → List ClassData → Type 0
Above n [] = Unit {0}
Above n (x ∷ xs) = (order n x.name ≡ Less) × Above n xs

abbrev pub Rising : List ClassData → Type 0
Rising [] = Unit {0}
Rising (x ∷ xs) = Above x.name xs × Rising xs

turned : (x y : List ℕ) → order x y ≡ Greater → order y x ≡ Less
turned x y e = nat_list_cmp_total.antisymm y x ∙ ap ordering_reverse e

above_less : (m n : List ℕ) (xs : List ClassData) → order m n ≡ Less → Above n xs → Above m xs
above_less m n [] less h = tt
above_less m n (x ∷ xs) less h = (nat_list_cmp_total.trans m n x.name less h.0, above_less m n xs less h.1)

above_put_at : (n : List ℕ) (x y : ClassData) (ys rest : List ClassData) (o : Ordering) → order n x.name ≡ Less → Above n (y ∷ ys) → Above n rest → Above n (put_at o x y ys rest)
above_put_at n x y ys rest Less less h r = (less, h)
above_put_at n x y ys rest Equal less h r = h
above_put_at n x y ys rest Greater less h r = (h.0, r)

above_put : (n : List ℕ) (x : ClassData) (ys : List ClassData) → order n x.name ≡ Less → Above n ys → Above n (put_class x ys)
above_put n x [] less h = (less, tt)
above_put n x (y ∷ ys) less h = above_put_at n x y ys (put_class x ys) (order x.name y.name) less h (above_put n x ys less h.1)

rising_put_at : (x y : ClassData) (ys rest : List ClassData) (o : Ordering) → order x.name y.name ≡ o → Rising (y ∷ ys) → (order y.name x.name ≡ Less → Above y.name rest) → Rising rest → Rising (put_at o x y ys rest)
rising_put_at x y ys rest Less is h above r = ((is, above_less x.name y.name ys is h.0), h)
rising_put_at x y ys rest Equal is h above r = h
rising_put_at x y ys rest Greater is h above r = (above (turned x.name y.name is), r)

rising_put : (x : ClassData) (ys : List ClassData) → Rising ys → Rising (put_class x ys)
rising_put x [] h = (tt, tt)
rising_put x (y ∷ ys) h = rising_put_at x y ys (put_class x ys) (order x.name y.name) refl h (λ less. above_put y.name x ys less h.0) (rising_put x ys h.1)

pub rising_collected : (xs : List ClassData) → Rising (collected xs)
rising_collected [] = tt
rising_collected (x ∷ xs) = rising_put x (collected xs) (rising_collected xs)

-- COUNTED: each class is named by a device or by a step of a rule
abbrev pub times : ClassData → ℕ
times x = x.amount old_devices + x.amount new_devices + x.amount takes

abbrev pub Counted : List ClassData → Type 0
Counted [] = Unit {0}
Counted (x ∷ xs) = (0 < times x) × Counted xs

counted_put_at : (x y : ClassData) (ys rest : List ClassData) (o : Ordering) → 0 < times x → Counted (y ∷ ys) → Counted rest → Counted (put_at o x y ys rest)
counted_put_at x y ys rest Less some h r = (some, h)
counted_put_at x y ys rest Equal some h r = (omega (arith, h.0), h.1)
counted_put_at x y ys rest Greater some h r = (h.0, r)

counted_put : (x : ClassData) (ys : List ClassData) → 0 < times x → Counted ys → Counted (put_class x ys)
counted_put x [] some h = (some, tt)
counted_put x (y ∷ ys) some h = counted_put_at x y ys (put_class x ys) (order x.name y.name) some h (counted_put x ys some h.1)

pub counted_collected : (xs : List ClassData) → Counted xs → Counted (collected xs)
counted_collected [] h = tt
counted_collected (x ∷ xs) h = counted_put x (collected xs) h.0 (counted_collected xs h.1)

-- ONE LIST: two lists of classes with rising names are equal if they have the same amounts for each name
other_name : (n x : List ℕ) → order n x ≡ Less → bytes_eq x n ≡ false
other_name n x less = at (bytes_eq x n) refl where
  at : (b : Bool) → bytes_eq x n ≡ b → b ≡ false
  at false is = refl
  at true is = absurd (let e : Less ≡ Equal = sym less ∙ ap (order n) ((bytes_decides x n).0 is) ∙ tied_itself nat_list_cmp_total n in cc)

none_above : (n : List ℕ) (k : Amount) (xs : List ClassData) → Above n xs → amounts n k xs ≡ 0
none_above n k [] h = refl
none_above n k (x ∷ xs) h =
    let none : amount_at n k x ≡ 0 = ap (λ b. if b then x.amount k else 0) (other_name n x.name h.0) in
    omega (arith, none, none_above n k xs h.1, sum_by-cons (amount_at n k) x xs)

own_amount : (k : Amount) (x : ClassData) → amount_at x.name k x ≡ x.amount k
own_amount k x = ap (λ b. if b then x.amount k else 0) ((bytes_decides x.name x.name).1 refl)

pub first_amount : (k : Amount) (x : ClassData) (xs : List ClassData) → Above x.name xs → amounts x.name k (x ∷ xs) ≡ x.amount k
first_amount k x xs above = omega (arith, own_amount k x, none_above x.name k xs above, sum_by-cons (amount_at x.name k) x xs)

not_lacking : (x : ClassData) (xs ys : List ClassData) → 0 < times x → Above x.name xs → Above x.name ys → ((c : List ℕ) (k : Amount) → amounts c k (x ∷ xs) ≡ amounts c k ys) → ⊥
not_lacking x xs ys some above lacks same =
    let zero_of : (k : Amount) → x.amount k ≡ 0 = λ k. sym (first_amount k x xs above) ∙ same x.name k ∙ none_above x.name k ys lacks in
    absurd (omega (arith, some, zero_of old_devices, zero_of new_devices, zero_of takes))

same_class : (x y : ClassData) → x.name ≡ y.name → ((k : Amount) → x.amount k ≡ y.amount k) → x ≡ y
same_class x y name amount = λ i. record { name = name i; amount = λ k. amount k i }

one_list : (xs ys : List ClassData) → Rising xs → Rising ys → Counted xs → Counted ys → ((c : List ℕ) (k : Amount) → amounts c k xs ≡ amounts c k ys) → xs ≡ ys
one_list [] [] a b m n same = refl
one_list [] (y ∷ ys) a b m n same = absurd (not_lacking y ys [] n.0 b.0 tt (λ c k. sym (same c k)))
one_list (x ∷ xs) [] a b m n same = absurd (not_lacking x xs [] m.0 a.0 tt same)
one_list (x ∷ xs) (y ∷ ys) a b m n same = at (order x.name y.name) refl (λ rest. one_list xs ys a.1 b.1 m.1 n.1 rest) where
  at : (o : Ordering) → order x.name y.name ≡ o → (((c : List ℕ) (k : Amount) → amounts c k xs ≡ amounts c k ys) → xs ≡ ys) → x ∷ xs ≡ y ∷ ys
  at Less is tails = absurd (not_lacking x xs (y ∷ ys) m.0 a.0 (is, above_less x.name y.name ys is b.0) same)
  at Greater is tails = let less = turned x.name y.name is in absurd (not_lacking y ys (x ∷ xs) n.0 b.0 (less, above_less y.name x.name xs less a.0) (λ c k. sym (same c k)))
  at Equal is tails =
      let name = equal_names x.name y.name is in
      let amount : (k : Amount) → x.amount k ≡ y.amount k = λ k. sym (first_amount k x xs a.0) ∙ same x.name k ∙ ap (λ n. amounts n k (y ∷ ys)) name ∙ first_amount k y ys b.0 in
      let alike : (c : List ℕ) (k : Amount) → amount_at c k x ≡ amount_at c k y = λ c k i. if bytes_eq (name i) c then amount k i else 0 in
      let rest : (c : List ℕ) (k : Amount) → amounts c k xs ≡ amounts c k ys = λ c k. omega (arith, same c k, sum_by-cons (amount_at c k) x xs, sum_by-cons (amount_at c k) y ys, alike c k) in
      λ i. same_class x y name amount i ∷ tails rest i

-- two lists with the same amounts for each name give the same classes, whatever the order of the lists is
pub collected_same : (xs ys : List ClassData) → Counted xs → Counted ys → ((c : List ℕ) (k : Amount) → amounts c k xs ≡ amounts c k ys) → collected xs ≡ collected ys
collected_same xs ys m n same =
    one_list (collected xs) (collected ys) (rising_collected xs) (rising_collected ys) (counted_collected xs m) (counted_collected ys n) (λ c k. collected_adds c k xs ∙ same c k ∙ sym (collected_adds c k ys))

-- SORTED: in a list whose names don't descend, all classes with the same name are next to each other
abbrev pub NotBelow : List ℕ → List ClassData → Type 0
NotBelow n [] = Unit {0}
NotBelow n (x ∷ xs) = (is_gt (order n x.name) ≡ false) × NotBelow n xs

abbrev pub Sorted : List ClassData → Type 0
Sorted [] = Unit {0}
Sorted (x ∷ xs) = NotBelow x.name xs × Sorted xs

not_below_put_at : (n : List ℕ) (x y : ClassData) (ys rest : List ClassData) (o : Ordering) → is_gt (order n x.name) ≡ false → NotBelow n (y ∷ ys) → NotBelow n rest → NotBelow n (put_at o x y ys rest)
not_below_put_at n x y ys rest Less low h r = (low, h)
not_below_put_at n x y ys rest Equal low h r = h
not_below_put_at n x y ys rest Greater low h r = (h.0, r)

not_below_put : (n : List ℕ) (x : ClassData) (ys : List ClassData) → is_gt (order n x.name) ≡ false → NotBelow n ys → NotBelow n (put_class x ys)
not_below_put n x [] low h = (low, tt)
not_below_put n x (y ∷ ys) low h = not_below_put_at n x y ys (put_class x ys) (order x.name y.name) low h (not_below_put n x ys low h.1)

not_below_collected : (n : List ℕ) (xs : List ClassData) → NotBelow n xs → NotBelow n (collected xs)
not_below_collected n [] h = tt
not_below_collected n (x ∷ xs) h = not_below_put n x (collected xs) h.0 (not_below_collected n xs h.1)

first_put : (x : ClassData) (ys : List ClassData) → NotBelow x.name ys → with_first x ys ≡ put_class x ys
first_put x [] h = refl
first_put x (y ∷ ys) h = at (order x.name y.name) refl h.0 where
  choice : Bool → List ClassData
  choice b = if b then together x y ∷ ys else x ∷ y ∷ ys

  at : (o : Ordering) → order x.name y.name ≡ o → is_gt o ≡ false → choice (bytes_eq y.name x.name) ≡ put_at (order x.name y.name) x y ys (put_class x ys)
  at Less is low = ap choice (other_name x.name y.name is) ∙ ap (λ o. put_at o x y ys (put_class x ys)) (sym is)
  at Equal is low = ap choice ((bytes_decides y.name x.name).1 (sym (equal_names x.name y.name is))) ∙ ap (λ o. put_at o x y ys (put_class x ys)) (sym is)
  at Greater is low = absurd cc

pub grouped_is : (xs : List ClassData) → Sorted xs → grouped xs ≡ collected xs
grouped_is [] h = refl
grouped_is (x ∷ xs) h = ap (with_first x) (grouped_is xs h.1) ∙ first_put x (collected xs) (not_below_collected x.name xs h.0)

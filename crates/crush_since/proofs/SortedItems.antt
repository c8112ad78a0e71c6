-- Lemmas about the uses of classes (`ClassItem`), sorted by name.
use Rattle.std.proofs.Common.{◌≡◌, ℕ, suc, ◌+◌, ◌<◌, ◌≤◌, Bool, true, false, List, [], ◌∷◌, ◌++◌, length, get_or, map, reverse, drop, ap, sym, ◌∙◌, refl, arith, add-one}
use Rattle.std.specs.Prelude.{IsPermutation, bytes_eq, if◌then◌else◌}
use Rattle.std.specs.List.{sum_by}
use Rattle.std.proofs.Math.Seq.{drop-cons}
use Rattle.std.proofs.lemmas.List.{map-append}
use mathlib.Core.List.{reverse-cons}
use Rattle.std.specs.Cmp.Lexicographic.{slice_cmp, nat_list_cmp_total}
use Rattle.std.specs.Ordering.{nat_cmp, is_lt, is_gt, ordering_reverse}
use Rattle.std.specs.List.Sorted.{IsSortedByKey}
use Rattle.std.specs.declared.cmp.Ordering.{Ordering}
use Rattle.std.specs.declared.cmp.Ordering.TheVariants.{Less, Equal, Greater}
use Rattle.std.proofs.lemmas.List.Sorted.{sorted_far, ranks_by, sum_by-IsPermutation, IsPermutation-map}
use Rattle.crush_since.specs.Collected.{Amount, old_weight, new_weight, old_devices, new_devices, takes, ClassData, together, collected}
use Rattle.crush_since.specs.CollectedSeen.{added, item_data, use_amount, use_data}
use Rattle.crush_since.specs.Grouped.{grouped, with_first}
use Rattle.crush_since.specs.declared.since.collected.ClassItem.{ClassItem}
use Rattle.crush_since.specs.declared.since.collected.ClassUse.{ClassUse}
use Rattle.crush_since.specs.declared.since.collected.Source.{Source}
use Rattle.crush_since.specs.declared.since.collected.Source.TheVariants.{Old, New, Rule}
use Rattle.crush_since.proofs.CollectedLaws.{NotBelow, Sorted, Counted, amounts, amount_at, grouped_is, collected_same, order}

turned_gt : (o : Ordering) → is_gt (ordering_reverse o) ≡ is_lt o
turned_gt Less = refl
turned_gt Equal = refl
turned_gt Greater = refl

not_greater : (x y : List ℕ) → is_lt (order y x) ≡ false → is_gt (order x y) ≡ false
not_greater x y e = ap is_gt (nat_list_cmp_total.antisymm x y) ∙ turned_gt (order y x) ∙ e

not_below_items : (n : List ℕ) (d : ClassItem) (xs : List ClassItem) → ((k : ℕ) → k < length xs → is_lt (order (get_or xs k d).name.now n) ≡ false) → NotBelow n (map item_data xs)
not_below_items n d [] h = tt
not_below_items n d (x ∷ xs) h = (not_greater n x.name.now (h 0 (omega arith)), not_below_items n d xs (λ k p. h (suc k) (omega arith)))

sorted_items : (xs : List ClassItem) → ((i j : ℕ) (d : ClassItem) → i ≤ j → j < length xs → is_lt (order (get_or xs j d).name.now (get_or xs i d).name.now) ≡ false) → Sorted (map item_data xs)
sorted_items [] h = tt
sorted_items (x ∷ xs) h = (not_below_items x.name.now x xs (λ k p. h 0 (suc k) x (omega arith) (omega arith)), sorted_items xs (λ i j d p q. h (suc i) (suc j) d (omega arith) (omega arith)))

-- each use counts at least once in the numbers of devices and steps
pub counted_by : (s : Source) (w : ℕ) → 0 < added s w old_devices + added s w new_devices + added s w takes
counted_by Old w = omega arith
counted_by New w = omega arith
counted_by Rule w = omega arith

pub counted_items : (xs : List ClassItem) → Counted (map item_data xs)
counted_items [] = tt
counted_items (x ∷ xs) = (counted_by x.source x.weight, counted_items xs)

-- a use whose weight is below 2^32 adds less than 2^32 to each amount
pub added_low : (s : Source) (w : ℕ) (k : Amount) → w < 4294967296 → added s w k < 4294967296
added_low Old w old_weight lt = lt
added_low Old w new_weight lt = omega arith
added_low Old w old_devices lt = omega arith
added_low Old w new_devices lt = omega arith
added_low Old w takes lt = omega arith
added_low New w old_weight lt = omega arith
added_low New w new_weight lt = lt
added_low New w old_devices lt = omega arith
added_low New w new_devices lt = omega arith
added_low New w takes lt = omega arith
added_low Rule w old_weight lt = omega arith
added_low Rule w new_weight lt = omega arith
added_low Rule w old_devices lt = omega arith
added_low Rule w new_devices lt = omega arith
added_low Rule w takes lt = omega arith

-- CLASSES of a list are the classes of the sorted list
pub grouped_collected : (xs ys : List ClassItem) → IsPermutation xs ys → IsSortedByKey (λ (x : ClassItem). x.name.now) (slice_cmp nat_cmp) ys → grouped (map item_data ys) ≡ collected (map item_data xs)
grouped_collected xs ys moved up =
    grouped_is (map item_data ys) (sorted_items ys (sorted_far _ (ranks_by nat_list_cmp_total (λ (x : ClassItem). x.name.now)) ys up))
    ∙ collected_same (map item_data ys) (map item_data xs) (counted_items ys) (counted_items xs) (λ c k. sum_by-IsPermutation (amount_at c k) (map item_data xs) (map item_data ys) (IsPermutation-map item_data xs ys moved))

-- A CLASS after one more use
abbrev pub both_uses : ClassUse → ClassUse → ClassUse
both_uses more x = record {
  name = x.name;
  old_weight = more.old_weight + x.old_weight;
  new_weight = more.new_weight + x.new_weight;
  old_devices = more.old_devices + x.old_devices;
  new_devices = more.new_devices + x.new_devices;
  takes = more.takes + x.takes;
}

each_amount : (more x : ClassUse) (d : ClassData) → use_data more ≡ d → (k : Amount) → use_amount (both_uses more x) k ≡ d.amount k + use_amount x k
each_amount more x d is old_weight = ap (λ (e : ClassData). e.amount old_weight + x.old_weight) is
each_amount more x d is new_weight = ap (λ (e : ClassData). e.amount new_weight + x.new_weight) is
each_amount more x d is old_devices = ap (λ (e : ClassData). e.amount old_devices + x.old_devices) is
each_amount more x d is new_devices = ap (λ (e : ClassData). e.amount new_devices + x.new_devices) is
each_amount more x d is takes = ap (λ (e : ClassData). e.amount takes + x.takes) is

pub uses_together : (more x : ClassUse) (d : ClassData) → use_data more ≡ d → use_data (both_uses more x) ≡ together d (use_data x)
uses_together more x d is = λ i. record { name = x.name.now; amount = λ k. each_amount more x d is k i }

pub low_together : (more x : ClassUse) → ((k : Amount) → use_amount more k < 4294967296) → (k : Amount) → use_amount (both_uses more x) k ≤ use_amount x k + 4294967296
low_together more x low old_weight = omega (arith, low old_weight)
low_together more x low new_weight = omega (arith, low new_weight)
low_together more x low old_devices = omega (arith, low old_devices)
low_together more x low new_devices = omega (arith, low new_devices)
low_together more x low takes = omega (arith, low takes)

pub first_same : (x y : ClassData) (ys : List ClassData) → bytes_eq y.name x.name ≡ true → with_first x (y ∷ ys) ≡ together x y ∷ ys
first_same x y ys e = ap (λ b. if b then together x y ∷ ys else x ∷ y ∷ ys) e

pub first_other : (x y : ClassData) (ys : List ClassData) → bytes_eq y.name x.name ≡ false → with_first x (y ∷ ys) ≡ x ∷ y ∷ ys
first_other x y ys e = ap (λ b. if b then together x y ∷ ys else x ∷ y ∷ ys) e

-- a list with one more element at its end, in reverse order
pub last_first : {X Y : Type 0} (f : X → Y) (xs : List X) (y : X) → reverse (map f (xs ++ y ∷ [])) ≡ f y ∷ reverse (map f xs)
last_first f [] y = refl
last_first f (x ∷ xs) y = reverse-cons (f x) (map f (xs ++ y ∷ [])) ∙ ap (λ l. l ++ f x ∷ []) (last_first f xs y) ∙ ap (λ l. f y ∷ l) (sym (reverse-cons (f x) (map f xs)))

pub map_reverse : {X Y : Type 0} (f : X → Y) (xs : List X) → map f (reverse xs) ≡ reverse (map f xs)
map_reverse f [] = refl
map_reverse f (x ∷ xs) = ap (map f) (reverse-cons x xs) ∙ map-append f (reverse xs) (x ∷ []) ∙ ap (λ l. l ++ f x ∷ []) (map_reverse f xs) ∙ sym (reverse-cons (f x) (map f xs))

-- the elements from i on are the element i and the elements from i + 1 on
pub before : (xs : List ClassItem) (i j : ℕ) (x : ClassItem) → i < length xs → j ≡ i + 1 → x ≡ get_or xs i x → map item_data (drop i xs) ≡ item_data x ∷ map item_data (drop j xs)
before xs i j x lt next is = ap (map item_data) (drop-cons xs i x lt ∙ (λ k. sym is k ∷ drop (sym (next ∙ add-one i) k) xs))

pub all_dropped : {X : Type 0} (xs : List X) → drop (length xs) xs ≡ []
all_dropped [] = refl
all_dropped (x ∷ xs) = all_dropped xs

-- Tables and rows that break exactly one condition of a lawful table, by computation. The total is in TooHeavy, and the counts are in TooMany.
use Rattle.std.proofs.Common.{◌≡◌, ℕ, zero, suc, ◌+◌, Bool, true, false, List, [], ◌∷◌, ◌++◌, refl}
use Rattle.std.specs.Prelude.{Option, Some, None, codes, replicate, nat_lt}
use Rattle.crush_units.specs.declared.alg.Alg.TheVariants.{Straw2}
use Rattle.crush_units.specs.declared.limits.TheConstants.{DEVICE_IDS, FARTHEST_BUCKET_ID, HEAVIEST_BUCKET, HEAVIEST_DEVICE, HEAVIEST_MAP, LAST_DEVICE_ID, LAST_TYPE, LONGEST_NAME, MOST_CLASS_IDS}
use Rattle.crush_units.specs.Name.{is_name}
use Rattle.crush_model.specs.Items.{ShadowData}
use Rattle.crush_model.specs.ItemRows.{device_row, bucket_row}
use Rattle.crush_model.specs.Table.{Row, sum_below, total}
use Rattle.crush_model.specs.Lawful.{is_too_heavy}
use Rattle.crush_model.specs.Tested.{device_tests, bucket_tests, table_tests}

-- the results of tests of which the one after the first n fails, and n tests before it and m after it hold
abbrev pub all_but : ℕ → ℕ → List Bool
all_but n m = replicate n true ++ false ∷ replicate m true

abbrev pub disk : ℕ → List ℕ → Option ℕ → ℕ → Row
disk d n p w = device_row p (record { id = d; name = n; weight = w; class = None })

abbrev pub box : ℕ → List ℕ → Option ℕ → List ShadowData → Row
box b n p c = bucket_row p (record { id = b; kind = 1; name = n; alg = Straw2; class_ids = c })

abbrev ssd : ℕ → ShadowData
ssd n = record { id = n; class = codes "ssd" }

-- TABLES: ids, names, used ids, rows, parents, loops, sums

id_twice : table_tests (box 1 (codes "r") None [] ∷ (disk 0 (codes "a") (Some 1) 1 ∷ (disk 0 (codes "b") (Some 1) 1 ∷ []))) ≡ all_but 0 7
id_twice = refl

name_twice : table_tests (box 1 (codes "r") None [] ∷ (disk 0 (codes "r") (Some 1) 1 ∷ [])) ≡ all_but 1 6
name_twice = refl

class_id_of_a_bucket : table_tests (box 1 (codes "r") None (ssd 2 ∷ []) ∷ (box 2 (codes "s") None [] ∷ [])) ≡ all_but 2 5
class_id_of_a_bucket = refl

class_id_twice : table_tests (box 1 (codes "r") None (ssd 3 ∷ []) ∷ (box 2 (codes "s") None (ssd 3 ∷ []) ∷ [])) ≡ all_but 2 5
class_id_twice = refl

bad_row : table_tests (disk 0 (codes "a") None 1 ∷ []) ≡ all_but 3 4
bad_row = refl

bad_name : table_tests (disk 0 (codes "a b") None 0 ∷ []) ≡ all_but 3 4
bad_name = refl

absent_parent : table_tests (disk 0 (codes "a") (Some 9) 1 ∷ []) ≡ all_but 4 3
absent_parent = refl

-- a row's parent is the number of a bucket, so no device can be a parent, neither another device nor the row's own
parent_is_a_device : table_tests (disk 1 (codes "a") None 0 ∷ (disk 2 (codes "b") (Some 1) 1 ∷ [])) ≡ all_but 4 3
parent_is_a_device = refl

parent_of_own_number : table_tests (disk 1 (codes "a") (Some 1) 1 ∷ []) ≡ all_but 4 3
parent_of_own_number = refl

below_itself : table_tests (box 1 (codes "r") (Some 2) [] ∷ (box 2 (codes "s") (Some 1) [] ∷ [])) ≡ all_but 5 2
below_itself = refl

-- two of the heaviest devices fill a bucket up to one unit less than its limit
abbrev heavy : List Row
heavy = box 1 (codes "r") None [] ∷ (disk 0 (codes "a") (Some 1) HEAVIEST_DEVICE ∷ (disk 1 (codes "b") (Some 1) HEAVIEST_DEVICE ∷ (disk 2 (codes "c") (Some 1) 1 ∷ [])))

heaviest_bucket : table_tests heavy ≡ replicate 8 true
heaviest_bucket = refl

abbrev too_heavy : List Row
too_heavy = box 1 (codes "r") None [] ∷ (disk 0 (codes "a") (Some 1) HEAVIEST_DEVICE ∷ (disk 1 (codes "b") (Some 1) HEAVIEST_DEVICE ∷ (disk 2 (codes "c") (Some 1) 2 ∷ [])))

heavy_sum : table_tests too_heavy ≡ all_but 6 1
heavy_sum = refl

light_total : nat_lt HEAVIEST_MAP (total too_heavy) ≡ false
light_total = refl

-- a weight in a bucket's row is added to no sum
abbrev weighted_bucket : List Row
weighted_bucket = box 1 (codes "r") None [] ∷ (record (box 2 (codes "s") (Some 1) []) { weight = 7 } ∷ (disk 0 (codes "a") (Some 2) 5 ∷ []))

weighted_sum : sum_below weighted_bucket 1 ≡ 5
weighted_sum = refl

weighted_total : total weighted_bucket ≡ 5
weighted_total = refl

-- where an id is there twice, the order of rows tells which of their parents counts: so tables that are the same weigh alike only
-- where each id is there once
abbrev one_order : List Row
one_order = box 1 (codes "r") None [] ∷ (disk 0 (codes "a") (Some 1) (HEAVIEST_BUCKET + 1) ∷ (disk 0 (codes "b") (Some 9) 0 ∷ []))

abbrev other_order : List Row
other_order = box 1 (codes "r") None [] ∷ (disk 0 (codes "b") (Some 9) 0 ∷ (disk 0 (codes "a") (Some 1) (HEAVIEST_BUCKET + 1) ∷ []))

weighs_too_much : is_too_heavy one_order ≡ true
weighs_too_much = refl

weighs_nothing_there : is_too_heavy other_order ≡ false
weighs_nothing_there = refl

-- A DEVICE'S ROW: id, type, weight, weightless while unplaced, algorithm, class ids, class

last_device : device_tests LAST_DEVICE_ID (disk 0 (codes "a") (Some 1) HEAVIEST_DEVICE) ≡ replicate 7 true
last_device = refl

device_id : device_tests DEVICE_IDS (disk 0 (codes "a") (Some 1) 1) ≡ all_but 0 6
device_id = refl

type_of_a_device : device_tests 0 (record (disk 0 (codes "a") (Some 1) 1) { kind = 1 }) ≡ all_but 1 5
type_of_a_device = refl

heavy_device : device_tests 0 (disk 0 (codes "a") (Some 1) (HEAVIEST_DEVICE + 1)) ≡ all_but 2 4
heavy_device = refl

unplaced_with_weight : device_tests 0 (disk 0 (codes "a") None 1) ≡ all_but 3 3
unplaced_with_weight = refl

alg_of_a_device : device_tests 0 (record (disk 0 (codes "a") (Some 1) 1) { alg = Some Straw2 }) ≡ all_but 4 2
alg_of_a_device = refl

class_ids_of_a_device : device_tests 0 (record (disk 0 (codes "a") (Some 1) 1) { class_ids = ssd 1 ∷ [] }) ≡ all_but 5 1
class_ids_of_a_device = refl

bad_class : device_tests 0 (record (disk 0 (codes "a") (Some 1) 1) { class = Some [] }) ≡ all_but 6 0
bad_class = refl

spaced_class : device_tests 0 (record (disk 0 (codes "a") (Some 1) 1) { class = Some (codes "a b") }) ≡ all_but 6 0
spaced_class = refl

-- A BUCKET'S ROW: id from 1, to the last, type from 1, to the last, no weight, no class, an algorithm, class ids, not too many, of
-- distinct classes

last_bucket : bucket_tests FARTHEST_BUCKET_ID (record (box 1 (codes "r") None []) { kind = LAST_TYPE }) ≡ replicate 10 true
last_bucket = refl

bucket_zero : bucket_tests 0 (box 0 (codes "r") None []) ≡ all_but 0 9
bucket_zero = refl

bucket_id : bucket_tests (FARTHEST_BUCKET_ID + 1) (box 1 (codes "r") None []) ≡ all_but 1 8
bucket_id = refl

type_zero : bucket_tests 1 (record (box 1 (codes "r") None []) { kind = 0 }) ≡ all_but 2 7
type_zero = refl

type_past_the_last : bucket_tests 1 (record (box 1 (codes "r") None []) { kind = LAST_TYPE + 1 }) ≡ all_but 3 6
type_past_the_last = refl

weight_of_a_bucket : bucket_tests 1 (record (box 1 (codes "r") None []) { weight = 1 }) ≡ all_but 4 5
weight_of_a_bucket = refl

class_of_a_bucket : bucket_tests 1 (record (box 1 (codes "r") None []) { class = Some (codes "ssd") }) ≡ all_but 5 4
class_of_a_bucket = refl

no_alg : bucket_tests 1 (record (box 1 (codes "r") None []) { alg = None }) ≡ all_but 6 3
no_alg = refl

class_id_zero : bucket_tests 1 (box 1 (codes "r") None (ssd 0 ∷ [])) ≡ all_but 7 2
class_id_zero = refl

last_class_id : bucket_tests 1 (box 1 (codes "r") None (ssd FARTHEST_BUCKET_ID ∷ [])) ≡ replicate 10 true
last_class_id = refl

class_id_past_the_last : bucket_tests 1 (box 1 (codes "r") None (ssd (FARTHEST_BUCKET_ID + 1) ∷ [])) ≡ all_but 7 2
class_id_past_the_last = refl

class_of_a_class_id : bucket_tests 1 (box 1 (codes "r") None (record { id = 3; class = codes "a b" } ∷ [])) ≡ all_but 7 2
class_of_a_class_id = refl

class_twice : bucket_tests 1 (box 1 (codes "r") None (ssd 3 ∷ (ssd 4 ∷ []))) ≡ all_but 9 0
class_twice = refl

-- the classes a, aa, aaa and so on
abbrev shadows : ℕ → List ShadowData
shadows zero = []
shadows (suc n) = record { id = suc n; class = replicate (suc n) 97 } ∷ shadows n

most_class_ids : bucket_tests 20 (box 20 (codes "r") None (shadows MOST_CLASS_IDS)) ≡ replicate 10 true
most_class_ids = refl

class_ids_too_many : bucket_tests 20 (box 20 (codes "r") None (shadows (MOST_CLASS_IDS + 1))) ≡ all_but 8 1
class_ids_too_many = refl

-- NAMES of the greatest length and of one byte more
longest_name : is_name (replicate LONGEST_NAME 97) ≡ true
longest_name = refl

name_too_long : is_name (replicate (LONGEST_NAME + 1) 97) ≡ false
name_too_long = refl

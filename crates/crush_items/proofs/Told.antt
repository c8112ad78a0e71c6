-- What a table says about the items of a forest that represents the table.
use Rattle.std.proofs.Common.{◌≡◌, ℕ, zero, suc, ◌+◌, ◌≤◌, false, List, [], ◌∷◌, ◌++◌, length, refl, ap, sym, ◌∙◌, arith, ⊎_elim, eq-eqb, length-append}
use Rattle.std.specs.Prelude.{flat_map, All, Option, Some, None, ◌==◌, if◌then◌else◌}
use Rattle.std.specs.Option.{option_or}
use Rattle.std.proofs.lemmas.Bool.Decides.{eqb_tells}
use Rattle.std.proofs.lemmas.List.Concat.{flat_map-append}
use Rattle.std.proofs.lemmas.List.Elements.{All-nil, All-cons, All-head, All-tail, All-weaker}
use Rattle.crush_units.specs.declared.id.ItemId.TheVariants.{Device, Bucket}
use Rattle.crush_model.specs.Items.{Items, none, device, bucket, size_of}
use Rattle.crush_model.specs.Forest.{ForestData, rows_of, all_items, join, OnlyDevices}
use Rattle.crush_model.specs.ItemRows.{rows, device_row, bucket_row}
use Rattle.crush_model.specs.Stands.{Stands}
use Rattle.crush_model.specs.Stored.{stored_weight}
use Rattle.crush_model.specs.Table.{Row, row_of, kids, sum_below}
use Rattle.crush_items.specs.Order.{root_number}
use Rattle.crush_model.specs.Count.{one_if}
use Rattle.crush_model.proofs.Sums.{buckets, buckets-rows, stored_weight-absent}
use Rattle.crush_model.proofs.Found.{row_of-same}
use Rattle.crush_model.proofs.Stands.{stands_lawful}
use Rattle.crush_model.proofs.Weighs.{All-found}
use Rattle.crush_nodes.specs.Search.{kids_in}
use Rattle.crush_tree.proofs.ReadLemmas.Items.{ids_of, kids_in-kids}

-- the table has a row for each item, and for each bucket it has the bucket's items in their order, and the bucket's stored weight as its sum
abbrev pub Told : List Row → Option ℕ → Items → Type 0
Told t p none = Unit {0}
Told t p (device d rest) = (row_of t (Device d.id) ≡ Some (device_row p d)) × Told t p rest
Told t p (bucket h w m k rest) = (row_of t (Bucket h.id) ≡ Some (bucket_row p h)) × (kids t h.id ≡ ids_of k) × (sum_below t h.id ≡ w) × Told t (Some h.id) k × Told t p rest

-- THE ROOTS
abbrev pub root_ids : Items → List ℕ
root_ids none = []
root_ids (device d rest) = root_ids rest
root_ids (bucket h w m k rest) = h.id ∷ root_ids rest

-- no bucket that is below another bucket is a root
no_root_below : (b : ℕ) (n : Items) → flat_map root_number (rows (Some b) n) ≡ []
no_root_below b none = refl
no_root_below b (device d rest) = no_root_below b rest
no_root_below b (bucket h w m k rest) = flat_map-append root_number (rows (Some h.id) k) (rows (Some b) rest) ∙ (λ i. no_root_below h.id k i ++ no_root_below b rest i)

-- the roots among the rows of these items are the buckets among the items themselves, not those below them
pub root_numbers_are : (n : Items) → flat_map root_number (rows None n) ≡ root_ids n
root_numbers_are none = refl
root_numbers_are (device d rest) = root_numbers_are rest
root_numbers_are (bucket h w m k rest) = ap (λ (l : List ℕ). h.id ∷ l) (flat_map-append root_number (rows (Some h.id) k) (rows None rest) ∙ (λ i. no_root_below h.id k i ++ root_numbers_are rest i))

-- if the first of two joined lists of items has only devices, then the roots of both are the roots of the second
pub root_ids-join : (a b : Items) → OnlyDevices a → root_ids (join a b) ≡ root_ids b
root_ids-join none b only = refl
root_ids-join (device d a) b only = root_ids-join a b only
root_ids-join (bucket h w m k a) b only = absurd only

-- the number of buckets among items and below them (`size_of`) is at most the number of rows
pub size_le_rows : (p : Option ℕ) (n : Items) → size_of n ≤ length (rows p n)
size_le_rows p none = omega arith
size_le_rows p (device d rest) = omega (arith, size_le_rows p rest)
size_le_rows p (bucket h w m k rest) = omega (arith, size_le_rows (Some h.id) k, size_le_rows p rest, length-append (rows (Some h.id) k) (rows p rest))

-- the second of two joined lists of items has at most as many buckets (`size_of`) as both together
pub size_of-join : (a b : Items) → size_of b ≤ size_of (join a b)
size_of-join none b = omega arith
size_of-join (device d a) b = size_of-join a b
size_of-join (bucket h w m k a) b = omega (arith, size_of-join a b)

-- what a table says about two joined lists of items, it also says about the second list
pub told_join : (t : List Row) (p : Option ℕ) (a b : Items) → Told t p (join a b) → Told t p b
told_join t p none b told = told
told_join t p (device d a) b told = told_join t p a b told.1
told_join t p (bucket h w m k a) b told = told_join t p a b told.4

-- A FOREST THAT REPRESENTS A TABLE
not_this : (x b : ℕ) → one_if (x == b) ≡ 0 → (x == b) ≡ false
not_this x b zero_hits = ⊎_elim (λ q. absurd (let one : one_if (x == b) ≡ 1 = ap one_if q.0 in omega arith)) (λ q. q.0) (eqb_tells x b)

-- a bucket that isn't among the items has no items there
kids_in_none : (b : ℕ) (n : Items) → buckets b n ≡ 0 → kids_in b n ≡ None
kids_in_none b none h = refl
kids_in_none b (device d rest) h = kids_in_none b rest h
kids_in_none b (bucket x w m k rest) h =
    ap (λ z. if z then Some k else option_or (kids_in b k) (kids_in b rest)) (not_this x.id b (omega arith)) ∙ (λ i. option_or (kids_in_none b k (omega arith) i) (kids_in_none b rest (omega arith) i))

-- a bucket that has items there is among the items
kids_in_some : (b : ℕ) (n k : Items) → kids_in b n ≡ Some k → 1 ≤ buckets b n
kids_in_some b n k found = some (buckets b n) (λ e. let none_found : kids_in b n ≡ None = kids_in_none b n e in absurd cc) where
  some : (m : ℕ) → (m ≡ 0 → ⊥) → 1 ≤ m
  some zero not_zero = absurd (not_zero refl)
  some (suc m) not_zero = omega arith

-- a property of all elements of two lists is a property of the elements of the first list
All_left : {X : Type 0} (P : X → Type 0) (xs ys : List X) → All P (xs ++ ys) → All P xs
All_left P [] ys h = All-nil P
All_left P (x ∷ xs) ys h = All-cons P x xs (All-head P x (xs ++ ys) h) (All_left P xs ys (All-tail P x (xs ++ ys) h))

-- and of the elements of the second list
All_right : {X : Type 0} (P : X → Type 0) (xs ys : List X) → All P (xs ++ ys) → All P ys
All_right P [] ys h = h
All_right P (x ∷ xs) ys h = All_right P xs ys (All-tail P x (xs ++ ys) h)

-- looking up the row's id in the table finds this row
abbrev IsFound : List Row → Row → Type 0
IsFound t r = row_of t r.id ≡ Some r

-- if the table has the items' rows, and the stored weights and the items of their buckets, then it says all of this about the items (`Told`)
told_from : (t : List Row) (p : Option ℕ) (n : Items) → All (IsFound t) (rows p n) → ((b : ℕ) → buckets b n ≤ 1) → ((b : ℕ) → 1 ≤ buckets b n → stored_weight b n ≡ sum_below t b)
    → ((b : ℕ) (k : Items) → kids_in b n ≡ Some k → kids t b ≡ ids_of k) → Told t p n
told_from t p none found once stored are = tt
told_from t p (device d rest) found once stored are = (All-head (IsFound t) (device_row p d) (rows p rest) found, told_from t p rest (All-tail (IsFound t) (device_row p d) (rows p rest) found) once stored are)
told_from t p (bucket h w m k rest) found once stored are =
    let items : List Row = rows (Some h.id) k ++ rows p rest in
    let others : All (IsFound t) items = All-tail (IsFound t) (bucket_row p h) items found in
    let one : one_if (h.id == h.id) ≡ 1 = ap one_if (eq-eqb h.id h.id refl) in
    let own : (if h.id == h.id then w else 0) ≡ w = ap (λ z. if z then w else 0) (eq-eqb h.id h.id refl) in
    let all : (if h.id == h.id then w else 0) + (stored_weight h.id k + stored_weight h.id rest) ≡ sum_below t h.id = stored h.id (omega (arith, one)) in
    let none_below : stored_weight h.id k ≡ 0 = stored_weight-absent h.id k (omega (arith, one, once h.id)) in
    let none_after : stored_weight h.id rest ≡ 0 = stored_weight-absent h.id rest (omega (arith, one, once h.id)) in
    let kids_stored : (b : ℕ) → 1 ≤ buckets b k → stored_weight b k ≡ sum_below t b = λ b some.
    let no : (if h.id == b then w else 0) ≡ 0 = ap (λ z. if z then w else 0) (not_this h.id b (omega (arith, once b))) in
    let after : stored_weight b rest ≡ 0 = stored_weight-absent b rest (omega (arith, once b)) in
    omega (arith, no, after, stored b (omega arith)) in
    let rest_stored : (b : ℕ) → 1 ≤ buckets b rest → stored_weight b rest ≡ sum_below t b = λ b some.
    let no : (if h.id == b then w else 0) ≡ 0 = ap (λ z. if z then w else 0) (not_this h.id b (omega (arith, once b))) in
    let before : stored_weight b k ≡ 0 = stored_weight-absent b k (omega (arith, once b)) in
    omega (arith, no, before, stored b (omega arith)) in
    let kids_are : (b : ℕ) (n : Items) → kids_in b k ≡ Some n → kids t b ≡ ids_of n = λ b n e.
    are b n (ap (λ z. if z then Some k else option_or (kids_in b k) (kids_in b rest)) (not_this h.id b (omega (arith, once b, kids_in_some b k n e))) ∙ ap (λ (o : Option Items). option_or o (kids_in b rest)) e) in
    let rest_are : (b : ℕ) (n : Items) → kids_in b rest ≡ Some n → kids t b ≡ ids_of n = λ b n e.
    let some : 1 ≤ buckets b rest = kids_in_some b rest n e in
    are b n (ap (λ z. if z then Some k else option_or (kids_in b k) (kids_in b rest)) (not_this h.id b (omega (arith, once b))) ∙ ap (λ (o : Option Items). option_or o (kids_in b rest)) (kids_in_none b k (omega (arith, once b))) ∙ e) in (
      All-head (IsFound t) (bucket_row p h) items found,
      are h.id k (ap (λ z. if z then Some k else option_or (kids_in h.id k) (kids_in h.id rest)) (eq-eqb h.id h.id refl)),
      omega (arith, own, all, none_below, none_after),
      told_from t (Some h.id) k (All_left (IsFound t) (rows (Some h.id) k) (rows p rest) others) (λ b. omega (arith, once b)) kids_stored kids_are,
      told_from t p rest (All_right (IsFound t) (rows (Some h.id) k) (rows p rest) others) (λ b. omega (arith, once b)) rest_stored rest_are,
    )

-- so a table says this about the items of a forest that represents the table
pub stands_told : (f : ForestData) (t : List Row) → Stands f t → Told t None (all_items f)
stands_told f t s =
    let ids = (stands_lawful f t s).ids in
    told_from t None (all_items f) (All-weaker (IsFound (rows_of f)) (IsFound t) (λ r e. sym (row_of-same (rows_of f) t s.same.rows ids r.id) ∙ e) (rows_of f) (All-found (rows_of f) ids))
    (λ b. omega (arith, buckets-rows b None (all_items f), ids (Bucket b))) (λ b some. s.stored b) (λ b k e. sym (kids_in-kids f t b k s e))

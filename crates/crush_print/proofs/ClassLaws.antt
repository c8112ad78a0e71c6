-- What the devices of a class weigh among plain items (`Items`), and that a table says the same about the items of a forest.
use Rattle.std.proofs.Common.{◌≡◌, ℕ, zero, suc, ◌+◌, ◌<◌, ◌≤◌, Bool, true, false, List, [], ◌∷◌, ◌++◌, length, get_or, take, drop, map, ap, sym, subst, ◌∙◌, refl, arith, append_assoc, append-nil}
use Rattle.std.specs.Prelude.{◌||◌, ◌==◌, if◌then◌else◌, All, Option, Some, None, flat_map, is_some, nat_lt, unwrap_or, bytes_eq, filter}
use Rattle.std.specs.List.{sum_by, count_by}
use Rattle.std.specs.List.Sorted.{IsPermutation}
use Rattle.std.specs.Option.{option_eq, option_or}
use Rattle.std.proofs.lemmas.Bool.Decides.{nat_tests}
use Rattle.std.proofs.lemmas.List.{map-append}
use Rattle.std.proofs.lemmas.List.Elements.{All-nil, All-cons, All-head, All-tail}
use Rattle.std.proofs.lemmas.List.Sorted.{All-permutation}
use Rattle.std.proofs.lemmas.List.Sums.{sum_by-append, sum_by-cons}
use Rattle.crush_units.specs.declared.id.ItemId.{ItemId}
use Rattle.crush_units.specs.declared.id.ItemId.TheVariants.{Device as DeviceItem, Bucket as BucketItem}
use Rattle.crush_units.specs.declared.limits.TheConstants.{HEAVIEST_BUCKET}
use Rattle.crush_units.specs.Id.{same_id}
use Rattle.crush_units.proofs.Ids.{same_id_refl}
use Rattle.crush_model.specs.Classes.{classed_weight, class_sum, has_class}
use Rattle.crush_model.specs.Columns.{as_root, is_part, part}
use Rattle.crush_model.specs.Count.{one_if}
use Rattle.crush_model.specs.Forest.{ForestData, IsSound, all_items, join, rows_of}
use Rattle.crush_model.specs.ItemRows.{rows, device_row, bucket_row}
use Rattle.crush_model.specs.Items.{BucketData, Items, none, device, bucket}
use Rattle.crush_model.specs.Stands.{Stands}
use Rattle.crush_model.specs.Table.{Row, is_there}
use Rattle.crush_model.proofs.Classes.{class_sum-part}
use Rattle.crush_model.proofs.Reorder.{reordered-count, reordered-sum, sum_by-map}
use Rattle.crush_model.proofs.Stands.{stands_for_rows}
use Rattle.crush_nodes.specs.Classed.{class_sum_in, leaf_class_weight}
use Rattle.crush_nodes.specs.Ops.{count_of_id, part_of}
use Rattle.crush_nodes.specs.Search.{kids_in}
use Rattle.crush_nodes.specs.Seen.{items_of, leaf_data, node_id}
use Rattle.crush_nodes.specs.declared.node.Node.{Node}
use Rattle.crush_nodes.specs.declared.node.Node.TheVariants.{Device, Bucket}
use Rattle.crush_nodes.proofs.ClassedLaws.{class_sum_in-join, class_sum_in-le, class_sum_in-rows}
use Rattle.crush_nodes.proofs.Joins.{count_of_id-join, join-none, pick_no, pick_yes}
use Rattle.crush_nodes.proofs.RowLaws.{id_once}
use Rattle.crush_nodes.proofs.Steps.{items_of-split, items_of-taken}
use Rattle.crush_walks.proofs.TakeLaws.{part_of-absent}
use Rattle.crush_walks.proofs.TakeSteps.{there_is}
use Rattle.crush_tree.proofs.PartLemmas.{part_light, part_rows, part_sums}
use Rattle.crush_items.specs.Order.{ascending, id_number, root_numbers}
use Rattle.crush_items.specs.SeenPart.{HasSteps}
use Rattle.crush_items.specs.Tree.{step_at, steps_at, steps_of, tree_rows, unplaced_numbers}
use Rattle.crush_print.specs.ClassItems.{HasWeights, class_weight_in, class_weights_in, leaf_weight, step_weight, together}
use Rattle.crush_print.specs.ClassWeights.{has_class_at, is_class, weight_of_class}
use Rattle.crush_print.proofs.PartSums.{sum_by-filtered}
use Rattle.crush_print.proofs.WalkLaws.{All-unmap, few_roots, few_unplaced, node_steps, roots_in_order, roots_told, unplaced_in_order, unplaced_told}

-- SUMS of weights that may be missing
together-none : (a : Option ℕ) → together None a ≡ a
together-none None = refl
together-none (Some a) = refl

together_assoc : (a b c : Option ℕ) → together (together a b) c ≡ together a (together b c)
together_assoc a b None = refl
together_assoc a None (Some c) = refl
together_assoc None (Some b) (Some c) = refl
together_assoc (Some a) (Some b) (Some c) = ap Some (omega arith)

pub class_weight_in-join : (c : List ℕ) (a b : Items) → class_weight_in c (join a b) ≡ together (class_weight_in c a) (class_weight_in c b)
class_weight_in-join c none b = sym (together-none (class_weight_in c b))
class_weight_in-join c (device d r) b = ap (together (leaf_weight c d)) (class_weight_in-join c r b) ∙ sym (together_assoc (leaf_weight c d) (class_weight_in c r) (class_weight_in c b))
class_weight_in-join c (bucket h w m k r) b = ap (together (class_weight_in c k)) (class_weight_in-join c r b) ∙ sym (together_assoc (class_weight_in c k) (class_weight_in c r) (class_weight_in c b))

pub class_weights_in-join : (c : List ℕ) (a b : Items) → class_weights_in c (join a b) ≡ class_weights_in c a ++ class_weights_in c b
class_weights_in-join c none b = refl
class_weights_in-join c (device d r) b = ap (λ (l : List (Option ℕ)). leaf_weight c d ∷ l) (class_weights_in-join c r b)
class_weights_in-join c (bucket h w m k r) b =
    ap (λ (l : List (Option ℕ)). class_weight_in c k ∷ (class_weights_in c k ++ l)) (class_weights_in-join c r b)
    ∙ ap (λ (l : List (Option ℕ)). class_weight_in c k ∷ l) (sym (append_assoc (class_weights_in c k) (class_weights_in c r) (class_weights_in c b)))

-- the weight of the first i + 1 nodes is the sum of the weight of the first i nodes and the weight of node i
pub weight-more : {A : _} (c : List ℕ) (ns : List (Node A)) (i : ℕ) (x : Node A) → i < length ns → x ≡ get_or ns i x
    → class_weight_in c (items_of (take (i + 1) ns)) ≡ together (class_weight_in c (items_of (take i ns))) (class_weight_in c (items_of (x ∷ [])))
weight-more c ns i x lt is = ap (class_weight_in c) (items_of-taken ns i x lt is) ∙ class_weight_in-join c (items_of (take i ns)) (items_of (x ∷ []))

pub weights-more : {A : _} (c : List ℕ) (ns : List (Node A)) (i : ℕ) (x : Node A) → i < length ns → x ≡ get_or ns i x
    → class_weights_in c (items_of (take (i + 1) ns)) ≡ class_weights_in c (items_of (take i ns)) ++ class_weights_in c (items_of (x ∷ []))
weights-more c ns i x lt is = ap (class_weights_in c) (items_of-taken ns i x lt is) ∙ class_weights_in-join c (items_of (take i ns)) (items_of (x ∷ []))

-- the sum over all nodes is the sum over the nodes before node i, over node i, and over the nodes after it
pub sum-split : {A : _} (c : List ℕ) (ns : List (Node A)) (i : ℕ) (x : Node A) → i < length ns → x ≡ get_or ns i x
    → class_sum_in c (items_of ns) ≡ class_sum_in c (items_of (take i ns)) + (class_sum_in c (items_of (x ∷ [])) + class_sum_in c (items_of (drop (i + 1) ns)))
sum-split c ns i x lt is =
    ap (class_sum_in c) (items_of-split ns i x lt is) ∙ class_sum_in-join c (items_of (take i ns)) (join (items_of (x ∷ [])) (items_of (drop (i + 1) ns)))
    ∙ ap (λ n. class_sum_in c (items_of (take i ns)) + n) (class_sum_in-join c (items_of (x ∷ [])) (items_of (drop (i + 1) ns)))

-- the weight of a bucket is the weight of its items
pub weight_of_bucket : {A : _} (c : List ℕ) (x : Node A) (b : _) (k : Items) (d : BucketData) → x ≡ Bucket b → d ≡ b.value → k ≡ d.kids → class_weight_in c k ≡ class_weight_in c (items_of (x ∷ []))
weight_of_bucket c x b k d at same kids_are = ap (class_weight_in c) kids_are ∙ ap (λ (e : BucketData). class_weight_in c e.kids) same ∙ ap (λ y. class_weight_in c (items_of (y ∷ []))) (sym at)

pub weights_of_bucket : {A : _} (c : List ℕ) (x : Node A) (b : _) (k : Items) (d : BucketData) → x ≡ Bucket b → d ≡ b.value → k ≡ d.kids
    → class_weight_in c k ∷ class_weights_in c k ≡ class_weights_in c (items_of (x ∷ []))
weights_of_bucket c x b k d at same kids_are =
    ap (λ n. class_weight_in c n ∷ class_weights_in c n) kids_are ∙ ap (λ (e : BucketData). class_weight_in c e.kids ∷ class_weights_in c e.kids) same
    ∙ ap (λ (l : List (Option ℕ)). class_weight_in c b.value.kids ∷ l) (sym (append-nil (class_weights_in c b.value.kids))) ∙ ap (λ y. class_weights_in c (items_of (y ∷ []))) (sym at)

pub sum_of_bucket : {A : _} (c : List ℕ) (x : Node A) (b : _) (k : Items) (d : BucketData) → x ≡ Bucket b → d ≡ b.value → k ≡ d.kids → class_sum_in c k ≡ class_sum_in c (items_of (x ∷ []))
sum_of_bucket c x b k d at same kids_are =
    let whole : class_sum_in c (items_of (x ∷ [])) ≡ class_sum_in c b.value.kids + 0 = ap (λ y. class_sum_in c (items_of (y ∷ []))) at in
    omega (arith, whole, ap (class_sum_in c) kids_are, ap (λ (e : BucketData). class_sum_in c e.kids) same)

-- WHETHER A DEVICE of the class is among the items or below them
abbrev pub found : List ℕ → Items → Bool
found c none = false
found c (device d rest) = option_eq bytes_eq d.class (Some c) || found c rest
found c (bucket h w m k rest) = found c k || found c rest

if_none : (b : Bool) (w : ℕ) → b ≡ false → (if b then w else 0) ≡ 0
if_none true w h = absurd (let no : true ≡ false = h in cc)
if_none false w h = refl

neither : (a b : Bool) (x y : ℕ) → (a || b) ≡ false → (a ≡ false → x ≡ 0) → (b ≡ false → y ≡ 0) → x + y ≡ 0
neither true b x y h p q = absurd (let no : true ≡ false = h in cc)
neither false b x y h p q = omega (arith, p refl, q h)

-- if there is no such device, the sum is 0
not_found : (c : List ℕ) (n : Items) → found c n ≡ false → class_sum_in c n ≡ 0
not_found c none h = refl
not_found c (device d r) h = neither (option_eq bytes_eq d.class (Some c)) (found c r) (leaf_class_weight c d) (class_sum_in c r) h (if_none (option_eq bytes_eq d.class (Some c)) d.weight) (not_found c r)
not_found c (bucket h w m k r) e = neither (found c k) (found c r) (class_sum_in c k) (class_sum_in c r) e (not_found c k) (not_found c r)

both : (a b : Bool) (x y : ℕ) → (a ≡ false → x ≡ 0) → (b ≡ false → y ≡ 0) → together (if a then Some x else None) (if b then Some y else None) ≡ (if a || b then Some (x + y) else None)
both true true x y p q = refl
both true false x y p q = ap Some (omega (arith, q refl))
both false true x y p q = ap Some (omega (arith, p refl))
both false false x y p q = refl

own_weight : (b : Bool) (w : ℕ) → ◌≡◌ {A = Option ℕ} (if b then Some w else None) (if b then Some (if b then w else 0) else None)
own_weight true w = refl
own_weight false w = refl

-- if there is such a device, the weight is the sum
pub weight_is_sum : (c : List ℕ) (n : Items) → class_weight_in c n ≡ (if found c n then Some (class_sum_in c n) else None)
weight_is_sum c none = refl
weight_is_sum c (device d r) =
    let own : Bool = option_eq bytes_eq d.class (Some c) in
    (λ i. together (own_weight own d.weight i) (weight_is_sum c r i)) ∙ both own (found c r) (leaf_class_weight c d) (class_sum_in c r) (if_none own d.weight) (not_found c r)
weight_is_sum c (bucket h w m k r) =
    (λ i. together (weight_is_sum c k i) (weight_is_sum c r i)) ∙ both (found c k) (found c r) (class_sum_in c k) (class_sum_in c r) (not_found c k) (not_found c r)

units_if : (b : Bool) (w : ℕ) → (b ≡ false → w ≡ 0) → unwrap_or (if b then Some w else None) 0 ≡ w
units_if true w h = refl
units_if false w h = sym (h refl)

pub weight_units : (c : List ℕ) (n : Items) → unwrap_or (class_weight_in c n) 0 ≡ class_sum_in c n
weight_units c n = ap (λ o. unwrap_or o 0) (weight_is_sum c n) ∙ units_if (found c n) (class_sum_in c n) (not_found c n)

some_if : (b : Bool) (w : ℕ) → is_some (if b then Some w else None) ≡ b
some_if true w = refl
some_if false w = refl

pub weight_is_found : (c : List ℕ) (n : Items) → is_some (class_weight_in c n) ≡ found c n
weight_is_found c n = ap is_some (weight_is_sum c n) ∙ some_if (found c n) (class_sum_in c n)

or_assoc : (a b c : Bool) → (a || (b || c)) ≡ ((a || b) || c)
or_assoc true b c = refl
or_assoc false b c = refl

pub found-join : (c : List ℕ) (a b : Items) → found c (join a b) ≡ (found c a || found c b)
found-join c none b = refl
found-join c (device d r) b = ap (λ z. option_eq bytes_eq d.class (Some c) || z) (found-join c r b) ∙ or_assoc (option_eq bytes_eq d.class (Some c)) (found c r) (found c b)
found-join c (bucket h w m k r) b = ap (λ z. found c k || z) (found-join c r b) ∙ or_assoc (found c k) (found c r) (found c b)

-- THE ROWS of items: as many rows have the class as there are devices of the class
some_of : (x y : ℕ) → nat_lt 0 (x + y) ≡ (nat_lt 0 x || nat_lt 0 y)
some_of zero y = ap (nat_lt 0) (omega arith)
some_of (suc x) y =
    let all : nat_lt 0 (suc x + y) ≡ true = grind (arith, nat_tests) in
    let one : nat_lt 0 (suc x) ≡ true = grind (arith, nat_tests) in
    all ∙ sym (ap (λ z. z || nat_lt 0 y) one)

one_some : (b : Bool) → nat_lt 0 (one_if b) ≡ b
one_some true = refl
one_some false = refl

pub rows_found : (c : List ℕ) (p : Option ℕ) (n : Items) → nat_lt 0 (count_by (has_class c) (rows p n)) ≡ found c n
rows_found c p none = refl
rows_found c p (device d r) =
    ap (nat_lt 0) (sum_by-cons (λ (x : Row). one_if (has_class c x)) (device_row p d) (rows p r)) ∙ some_of (one_if (has_class c (device_row p d))) (count_by (has_class c) (rows p r))
    ∙ (λ i. one_some (has_class c (device_row p d)) i || rows_found c p r i)
rows_found c p (bucket h w m k r) =
    let total : count_by (has_class c) (rows p (bucket h w m k r)) ≡ count_by (has_class c) (rows (Some h.id) k) + count_by (has_class c) (rows p r) = omega (
      arith,
      sum_by-cons (λ (x : Row). one_if (has_class c x)) (bucket_row p h) (rows (Some h.id) k ++ rows p r),
      sum_by-append (λ (x : Row). one_if (has_class c x)) (rows (Some h.id) k) (rows p r),
    ) in
    ap (nat_lt 0) total ∙ some_of (count_by (has_class c) (rows (Some h.id) k)) (count_by (has_class c) (rows p r)) ∙ (λ i. rows_found c (Some h.id) k i || rows_found c p r i)

-- THE PART of the items that consists of an item and all items below it
nested_if : (a b : Bool) → one_if (if a then b else false) ≡ (if a then one_if b else 0)
nested_if true b = refl
nested_if false b = refl

root_has : (b : Bool) (c : List ℕ) (r : Row) → has_class c (if b then record r { parent = None } else r) ≡ has_class c r
root_has true c r = refl
root_has false c r = refl

part_counted : (t : List Row) (i : ItemId) (c : List ℕ) → count_by (λ (r : Row). if is_part t i r.id then has_class c r else false) t ≡ count_by (has_class c) (part i t)
part_counted t i c =
    let own : ◌≡◌ {A = Row → ℕ} (λ r. one_if (if is_part t i r.id then has_class c r else false)) (λ r. if is_part t i r.id then one_if (has_class c r) else 0) = λ k r. nested_if (is_part t i r.id) (has_class c r) k in
    let same : ◌≡◌ {A = Row → ℕ} (λ r. one_if (has_class c r)) (λ r. one_if (has_class c (as_root i r))) = λ k r. one_if (sym (root_has (same_id r.id i) c r) k) in
    ap (λ f. sum_by f t) own ∙ sym (sum_by-filtered (λ (r : Row). is_part t i r.id) (λ (r : Row). one_if (has_class c r)) t)
    ∙ ap (λ f. sum_by f (filter (λ (r : Row). is_part t i r.id) t)) same ∙ sym (sum_by-map (λ (r : Row). one_if (has_class c r)) (as_root i) (filter (λ (r : Row). is_part t i r.id) t))

-- what the table says about the class at an item: the same as the plain item n, with all items below it, and the sum is in range
abbrev IsWeighed : List Row → List ℕ → ItemId → Items → Type 0
IsWeighed t c i n = (weight_of_class t c i ≡ class_weight_in c n) × (class_sum_in c n ≤ HEAVIEST_BUCKET)

item_weighed : (f : ForestData) (t : List Row) (c : List ℕ) (i : ItemId) → IsSound f → Stands f t → 0 < count_of_id i (all_items f) → IsWeighed t c i (part_of i (all_items f))
item_weighed f t c i sound stands some =
    let there : is_there (rows_of f) i ≡ true = there_is f i some in
    let rows_are = (part_rows f sound i there t stands).rows in
    let sums : class_sum t i c ≡ class_sum_in c (part_of i (all_items f)) = sym (class_sum-part t i c) ∙ sym (reordered-sum (classed_weight c) rows_are) ∙ class_sum_in-rows c None (part_of i (all_items f)) in
    let has : has_class_at t i c ≡ found c (part_of i (all_items f)) = ap (nat_lt 0) (part_counted t i c ∙ sym (reordered-count (has_class c) rows_are)) ∙ rows_found c None (part_of i (all_items f)) in (
      (λ k. if has k then Some (sums k) else None) ∙ sym (weight_is_sum c (part_of i (all_items f))),
      omega (arith, class_sum_in-le c (part_of i (all_items f)) (part_sums f sound i there), part_light f sound i there),
    )

-- EACH ITEM has what the table says about it (`IsWeighed`)
abbrev pub Weighed : List Row → List ℕ → Items → Type 0
Weighed t c none = Unit {0}
Weighed t c (device d rest) = IsWeighed t c (DeviceItem d.id) (device d none) × Weighed t c rest
Weighed t c (bucket h w m k rest) = IsWeighed t c (BucketItem h.id) (bucket h w m k none) × Weighed t c k × Weighed t c rest

weighed_from : (t : List Row) (c : List ℕ) (n : Items) → ((i : ItemId) → count_of_id i n ≤ 1) → ((i : ItemId) → 0 < count_of_id i n → IsWeighed t c i (part_of i n)) → Weighed t c n
weighed_from t c none once at = tt
weighed_from t c (device d r) once at =
    let i = DeviceItem d.id in
    let one : one_if (same_id i i) ≡ 1 = ap one_if (same_id_refl i) in (
      subst (IsWeighed t c i) (pick_yes (same_id i i) _ _ one ∙ ap (device d) (part_of-absent i r (omega (arith, one, once i)))) (at i (omega (arith, one))),
      weighed_from t c r (λ j. omega (arith, once j)) (λ j some. subst (IsWeighed t c j) (pick_no (same_id i j) _ _ (omega (arith, once j, some))) (at j (omega (arith, some)))),
    )
weighed_from t c (bucket h w m k r) once at =
    let i = BucketItem h.id in
    let one : one_if (same_id i i) ≡ 1 = ap one_if (same_id_refl i) in (
      subst (IsWeighed t c i) (pick_yes (same_id i i) _ _ one ∙ ap (bucket h w m k) (part_of-absent i r (omega (arith, one, once i)))) (at i (omega (arith, one))),
      weighed_from t c k (λ j. omega (arith, once j)) (λ j some.
          subst (IsWeighed t c j) (pick_no (same_id i j) _ _ (omega (arith, once j, some)) ∙ ap (join (part_of j k)) (part_of-absent j r (omega (arith, once j, some))) ∙ join-none (part_of j k)) (at j (omega (arith, some)))),
      weighed_from t c r (λ j. omega (arith, once j)) (λ j some.
          subst (IsWeighed t c j) (pick_no (same_id i j) _ _ (omega (arith, once j, some)) ∙ ap (λ z. join z (part_of j r)) (part_of-absent j k (omega (arith, once j, some)))) (at j (omega (arith, some)))),
    )

pub stands_weighed : (f : ForestData) (t : List Row) (c : List ℕ) → IsSound f → Stands f t → Weighed t c (all_items f)
stands_weighed f t c sound stands =
    weighed_from t c (all_items f) (λ i. omega (arith, id_once f sound i, count_of_id-join i f.unplaced f.roots)) (λ i some. item_weighed f t c i sound stands some)

weighed_join : (t : List Row) (c : List ℕ) (a b : Items) → Weighed t c (join a b) → Weighed t c b
weighed_join t c none b w = w
weighed_join t c (device d a) b w = weighed_join t c a b w.1
weighed_join t c (bucket h x m k a) b w = weighed_join t c a b w.2

weighed_first : (t : List Row) (c : List ℕ) (a b : Items) → Weighed t c (join a b) → Weighed t c a
weighed_first t c none b w = tt
weighed_first t c (device d a) b w = (w.0, weighed_first t c a b w.1)
weighed_first t c (bucket h x m k a) b w = (w.0, w.1, weighed_first t c a b w.2)

weighed_kids : (t : List Row) (c : List ℕ) (n k : Items) (b : ℕ) → Weighed t c n → kids_in b n ≡ Some k → Weighed t c k
weighed_kids t c none k b w e = absurd cc
weighed_kids t c (device d rest) k b w e = weighed_kids t c rest k b w.1 e
weighed_kids t c (bucket h x m n rest) k b w e = by_test (h.id == b) (λ g. weighed_kids t c n k b w.1 g) (λ g. weighed_kids t c rest k b w.2 g) e
  where
    either : (first second : Option Items) → (first ≡ Some k → Weighed t c k) → (second ≡ Some k → Weighed t c k) → option_or first second ≡ Some k → Weighed t c k
    either None second f g same = g same
    either (Some y) second f g same = f same

    by_test : (z : Bool) → (kids_in b n ≡ Some k → Weighed t c k) → (kids_in b rest ≡ Some k → Weighed t c k) → (if z then Some n else option_or (kids_in b n) (kids_in b rest)) ≡ Some k → Weighed t c k
    by_test true f g same = let own : n ≡ k = cc in subst (Weighed t c) own w.1
    by_test false f g same = either (kids_in b n) (kids_in b rest) f g same

-- THE STEPS of items have the weights of the items
steps_weighed : (t : List Row) (c : List ℕ) (depth : ℕ) (p : Option ℕ) (n : Items) → Weighed t c n → map (step_weight t c) (steps_of depth p n) ≡ class_weights_in c n
steps_weighed t c depth p none w = refl
steps_weighed t c depth p (device d rest) w = λ i. w.0.0 i ∷ steps_weighed t c depth p rest w.1 i
steps_weighed t c depth p (bucket h x m k rest) w =
    let below : map (step_weight t c) (steps_of (depth + 1) (Some h.id) k ++ steps_of depth p rest) ≡ class_weights_in c k ++ class_weights_in c rest =
    map-append (step_weight t c) (steps_of (depth + 1) (Some h.id) k) (steps_of depth p rest) ∙ (λ i. steps_weighed t c (depth + 1) (Some h.id) k w.1 i ++ steps_weighed t c depth p rest w.2 i) in
    (λ i. w.0.0 i ∷ below i)

-- so each node has the weights that the table gives
pub each_weighed : {A : _} (t : List Row) (c : List ℕ) (p : Option ℕ) (ns : List (Node A)) → All (HasSteps t p) ns → Weighed t c (items_of ns) → All (HasWeights t c) ns
each_weighed t c p [] steps w = All-nil (HasWeights t c)
each_weighed t c p (Device l ∷ ns) steps w =
    All-cons (HasWeights t c) (Device l) ns (ap (map (step_weight t c)) (All-head (HasSteps t p) (Device l) ns steps) ∙ steps_weighed t c 0 p (device (leaf_data l) none) (w.0, tt))
    (each_weighed t c p ns (All-tail (HasSteps t p) (Device l) ns steps) w.1)
each_weighed t c p (Bucket b ∷ ns) steps w =
    All-cons (HasWeights t c) (Bucket b) ns
    (ap (map (step_weight t c)) (All-head (HasSteps t p) (Bucket b) ns steps) ∙ steps_weighed t c 0 p (bucket b.value.header b.value.weight b.value.capacity b.value.kids none) (w.0, w.1, tt))
    (each_weighed t c p ns (All-tail (HasSteps t p) (Bucket b) ns steps) w.2)

-- and no node is heavier than a bucket may be
abbrev pub IsLight : {A : _} → List ℕ → Node A → Type 0
IsLight c node = class_sum_in c (items_of (node ∷ [])) ≤ HEAVIEST_BUCKET

pub each_light : {A : _} (t : List Row) (c : List ℕ) (ns : List (Node A)) → Weighed t c (items_of ns) → All (IsLight c) ns
each_light t c [] w = All-nil (IsLight c)
each_light t c (Device l ∷ ns) w = All-cons (IsLight c) (Device l) ns w.0.1 (each_light t c ns w.1)
each_light t c (Bucket b ∷ ns) w = All-cons (IsLight c) (Bucket b) ns w.0.1 (each_light t c ns w.2)

pub roots_are_weighed : {A : _} (f : ForestData) (t : List Row) (c : List ℕ) (ns : List (Node A)) → items_of ns ≡ f.roots → IsSound f → Stands f t → Weighed t c (items_of ns)
roots_are_weighed f t c ns are sound stands = subst (Weighed t c) (sym are) (weighed_join t c f.unplaced f.roots (stands_weighed f t c sound stands))

pub unplaced_are_weighed : {A : _} (f : ForestData) (t : List Row) (c : List ℕ) (ns : List (Node A)) → items_of ns ≡ f.unplaced → IsSound f → Stands f t → Weighed t c (items_of ns)
unplaced_are_weighed f t c ns are sound stands = subst (Weighed t c) (sym are) (weighed_first t c f.unplaced f.roots (stands_weighed f t c sound stands))

pub kids_are_weighed : {A : _} (f : ForestData) (t : List Row) (c : List ℕ) (b : ℕ) (ns : List (Node A)) → IsSound f → Stands f t → Some (items_of ns) ≡ kids_in b (all_items f) → Weighed t c (items_of ns)
kids_are_weighed f t c b ns sound stands e = weighed_kids t c (all_items f) (items_of ns) b (stands_weighed f t c sound stands) (sym e)

-- IN ORDER of ids
map-flat_map : {X Y Z : Type 0} (f : Y → Z) (g : X → List Y) (xs : List X) → map f (flat_map g xs) ≡ flat_map (λ x. map f (g x)) xs
map-flat_map f g [] = refl
map-flat_map f g (x ∷ xs) = map-append f (g x) (flat_map g xs) ∙ ap (λ l. map f (g x) ++ l) (map-flat_map f g xs)

pub roots_weighed : {A : _} {X : Type 0} (see : X → Node A) (f : ForestData) (t : List Row) (c : List ℕ) (ns : List (Node A)) (refs : List X) → items_of ns ≡ f.roots → IsSound f → Stands f t
    → IsPermutation ns (map see refs) → map (λ x. id_number (node_id (see x))) refs ≡ ascending (map (λ node. id_number (node_id node)) ns)
    → flat_map (λ x. class_weights_in c (items_of (see x ∷ []))) refs ≡ map (step_weight t c) (flat_map (λ b. steps_at t (length t) 0 (BucketItem b)) (root_numbers t))
roots_weighed see f t c ns refs are sound stands same rising =
    roots_in_order see (λ node. class_weights_in c (items_of (node ∷ []))) (λ i. map (step_weight t c) (steps_at t (length t) 0 i)) f t ns refs are sound stands same rising
    (each_weighed t c None ns (node_steps t None ns (roots_told f t ns are stands) (few_roots f t ns are stands)) (roots_are_weighed f t c ns are sound stands))
    ∙ sym (map-flat_map (step_weight t c) (λ b. steps_at t (length t) 0 (BucketItem b)) (root_numbers t))

pub unplaced_weighed : {A : _} {X : Type 0} (see : X → Node A) (f : ForestData) (t : List Row) (c : List ℕ) (ns : List (Node A)) (refs : List X) → items_of ns ≡ f.unplaced → IsSound f → Stands f t
    → IsPermutation ns (map see refs) → map (λ x. id_number (node_id (see x))) refs ≡ ascending (map (λ node. id_number (node_id node)) ns)
    → flat_map (λ x. class_weights_in c (items_of (see x ∷ []))) refs ≡ map (step_weight t c) (flat_map (λ d. step_at t 0 (DeviceItem d)) (unplaced_numbers t))
unfolding steps_at
unplaced_weighed see f t c ns refs are sound stands same rising =
    unplaced_in_order see (λ node. class_weights_in c (items_of (node ∷ []))) (λ i. map (step_weight t c) (steps_at t (length t) 0 i)) f t ns refs are sound stands same rising
    (each_weighed t c None ns (node_steps t None ns (unplaced_told f t ns are stands) (few_unplaced f t ns are sound)) (unplaced_are_weighed f t c ns are sound stands))
    ∙ sym (map-flat_map (step_weight t c) (λ d. step_at t 0 (DeviceItem d)) (unplaced_numbers t))

pub tree_weighed : (t : List Row) (c : List ℕ) (start one two roots unplaced : List (Option ℕ)) → start ≡ [] → one ≡ start ++ roots → two ≡ one ++ unplaced
    → roots ≡ map (step_weight t c) (flat_map (λ b. steps_at t (length t) 0 (BucketItem b)) (root_numbers t)) → unplaced ≡ map (step_weight t c) (flat_map (λ d. step_at t 0 (DeviceItem d)) (unplaced_numbers t))
    → two ≡ map (step_weight t c) (tree_rows t)
unfolding tree_rows
tree_weighed t c start one two roots unplaced begun first second are_roots are_unplaced =
    second ∙ (λ i. (first ∙ ap (λ l. l ++ roots) begun ∙ are_roots) i ++ are_unplaced i)
    ∙ sym (map-append (step_weight t c) (flat_map (λ b. steps_at t (length t) 0 (BucketItem b)) (root_numbers t)) (flat_map (λ d. step_at t 0 (DeviceItem d)) (unplaced_numbers t)))

-- WHETHER THE MAP has a device of the class
pub forest_found : (f : ForestData) (t : List Row) (c : List ℕ) (u r : Items) → u ≡ f.unplaced → r ≡ f.roots → Stands f t → (is_some (class_weight_in c u) || is_some (class_weight_in c r)) ≡ is_class t c
forest_found f t c u r is_u is_r stands =
    (λ i. (ap (λ n. is_some (class_weight_in c n)) is_u ∙ weight_is_found c f.unplaced) i || (ap (λ n. is_some (class_weight_in c n)) is_r ∙ weight_is_found c f.roots) i)
    ∙ sym (found-join c f.unplaced f.roots) ∙ sym (rows_found c None (all_items f)) ∙ ap (nat_lt 0) (reordered-count (has_class c) stands.same.rows)

-- there is such a device if a node is one or has one below it
or_true : (b : Bool) → (b || true) ≡ true
or_true true = refl
or_true false = refl

pub one_found : {A : _} (c : List ℕ) (ns : List (Node A)) (i : ℕ) (x : Node A) → i < length ns → x ≡ get_or ns i x → is_some (class_weight_in c (items_of (x ∷ []))) ≡ true → is_some (class_weight_in c (items_of ns)) ≡ true
one_found c ns i x lt is h =
    let rest = items_of (drop (i + 1) ns) in
    weight_is_found c (items_of ns) ∙ ap (found c) (items_of-split ns i x lt is) ∙ found-join c (items_of (take i ns)) (join (items_of (x ∷ [])) rest)
    ∙ ap (λ z. found c (items_of (take i ns)) || z) (found-join c (items_of (x ∷ [])) rest ∙ ap (λ z. z || found c rest) (sym (weight_is_found c (items_of (x ∷ []))) ∙ h)) ∙ or_true (found c (items_of (take i ns)))

-- if the first i nodes and node i have no such device, then the first i + 1 nodes have none
pub none_found : {A : _} (c : List ℕ) (ns : List (Node A)) (i : ℕ) (x : Node A) → i < length ns → x ≡ get_or ns i x → is_some (class_weight_in c (items_of (take i ns))) ≡ false → is_some (class_weight_in c (items_of (x ∷ []))) ≡ false
    → is_some (class_weight_in c (items_of (take (i + 1) ns))) ≡ false
none_found c ns i x lt is before own =
    weight_is_found c (items_of (take (i + 1) ns)) ∙ ap (found c) (items_of-taken ns i x lt is) ∙ found-join c (items_of (take i ns)) (items_of (x ∷ []))
    ∙ (λ k. (sym (weight_is_found c (items_of (take i ns))) ∙ before) k || (sym (weight_is_found c (items_of (x ∷ []))) ∙ own) k)

-- ONE NODE: its weights are the weights of the steps of its id
pub item_weighed_at : {A : _} (t : List Row) (c : List ℕ) (i : ItemId) (x y : Node A) (start one : List (Option ℕ)) → start ≡ [] → one ≡ start ++ class_weights_in c (items_of (x ∷ [])) → x ≡ y → HasWeights t c y → node_id y ≡ i
    → one ≡ map (step_weight t c) (steps_at t (length t) 0 i)
item_weighed_at t c i x y start one begun after is has same = after ∙ (λ k. begun k ++ class_weights_in c (items_of (is k ∷ []))) ∙ sym has ∙ ap (λ j. map (step_weight t c) (steps_at t (length t) 0 j)) same

-- if the nodes are light, then the nodes to which the references point are light, too
pub light_refs : {A : _} {X : Type 0} (c : List ℕ) (see : X → Node A) (ns : List (Node A)) (refs : List X) → IsPermutation ns (map see refs) → All (IsLight c) ns → All (λ x. class_sum_in c (items_of (see x ∷ [])) ≤ HEAVIEST_BUCKET) refs
light_refs c see ns refs same h = All-unmap (IsLight c) see refs (All-permutation (IsLight c) ns (map see refs) same h)

pub light_roots : {A : _} {X : Type 0} (see : X → Node A) (f : ForestData) (c : List ℕ) (ns : List (Node A)) (refs : List X) → items_of ns ≡ f.roots → IsSound f → IsPermutation ns (map see refs) → All (λ x. class_sum_in c (items_of (see x ∷ [])) ≤ HEAVIEST_BUCKET) refs
light_roots see f c ns refs are sound same = light_refs c see ns refs same (each_light (rows_of f) c ns (roots_are_weighed f (rows_of f) c ns are sound (stands_for_rows f sound)))

pub light_unplaced : {A : _} {X : Type 0} (see : X → Node A) (f : ForestData) (c : List ℕ) (ns : List (Node A)) (refs : List X) → items_of ns ≡ f.unplaced → IsSound f → IsPermutation ns (map see refs) → All (λ x. class_sum_in c (items_of (see x ∷ [])) ≤ HEAVIEST_BUCKET) refs
light_unplaced see f c ns refs are sound same = light_refs c see ns refs same (each_light (rows_of f) c ns (unplaced_are_weighed f (rows_of f) c ns are sound (stands_for_rows f sound)))

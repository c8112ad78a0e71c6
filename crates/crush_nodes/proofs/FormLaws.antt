-- What follows from the tests of forms: each row of the items has the right form.
use Rattle.std.proofs.Common.{◌≡◌, ℕ, ◌+◌, ◌<◌, ◌≤◌, Bool, true, false, List, [], ◌∷◌, ◌++◌, length, get_or, take, ap, sym, subst, ◌∙◌, refl, arith}
use Rattle.std.specs.Prelude.{◌&&◌, ◌||◌, not, Option, Some, None, IfSome, All, map, bytes_eq, nat_lt, nat_le}
use Rattle.std.specs.List.{count_by, list_any}
use Rattle.std.proofs.lemmas.Bool.{ltb-true, leb-true}
use Rattle.std.proofs.lemmas.Bool.Decides.{nat_tests}
use Rattle.std.proofs.lemmas.List.Elements.{All-nil, All-cons, All-head, All-tail, All-append}
use Rattle.std.proofs.lemmas.List.Sums.{sum_by-cons}
use Rattle.std.proofs.lemmas.Slice.Eq.{bytes_eq-Decides}
use Rattle.crush_units.specs.declared.limits.TheConstants.{DEVICE_IDS, HEAVIEST_BUCKET, HEAVIEST_DEVICE, MOST_CLASS_IDS}
use Rattle.crush_units.specs.Name.{IsName}
use Rattle.crush_model.specs.Items.{LeafData, ShadowData, HeaderData, Items, none, device, bucket}
use Rattle.crush_model.specs.Lawful.{IsRow}
use Rattle.crush_model.specs.Forest.{join}
use Rattle.crush_model.specs.ItemRows.{rows, device_row, bucket_row}
use Rattle.crush_model.specs.Table.{Row}
use Rattle.crush_model.specs.Tested.{are_apart}
use Rattle.crush_model.proofs.Reorder.{sum_by-map}
use Rattle.crush_model.specs.Count.{one_if}
use Rattle.crush_model.proofs.Tested.{apart_once}
use Rattle.crush_nodes.specs.Attachable.{is_formed, are_formed, IsTyped, AreTyped}
use Rattle.crush_nodes.specs.Ops.{StoresUpTo}
use Rattle.crush_nodes.specs.Seen.{items_of}
use Rattle.crush_nodes.specs.declared.node.Node.{Node}
use Rattle.crush_nodes.proofs.Steps.{items_of-taken}
use Rattle.crush_nodes.proofs.StoredLaws.{first_of, second_of}

-- THE TYPES of the items of two lists
AreTyped-join : (a b : Items) → AreTyped a → AreTyped b → AreTyped (join a b)
AreTyped-join none b s t = t
AreTyped-join (device d r) b s t = (s.0, s.1, s.2, AreTyped-join r b s.3 t)
AreTyped-join (bucket h w m k r) b s t = (s.0, s.1, s.2, AreTyped-join r b s.3 t)

pub typed_more : {A : _} (ns : List (Node A)) (i : ℕ) (x : Node A) → i < length ns → x ≡ get_or ns i x → AreTyped (items_of (take i ns)) → AreTyped (items_of (x ∷ [])) → AreTyped (items_of (take (i + 1) ns))
typed_more ns i x lt e s t = subst AreTyped (sym (items_of-taken ns i x lt e)) (AreTyped-join (items_of (take i ns)) (items_of (x ∷ [])) s t)

-- no sum that is stored is too large
pub small_typed : (n : Items) → AreTyped n → StoresUpTo HEAVIEST_BUCKET n
small_typed none t = tt
small_typed (device d r) t = small_typed r t.3
small_typed (bucket h w m k r) t = (t.1, small_typed k t.2, small_typed r t.3)

-- CLASSES
class_count : (cs : List ShadowData) (c : List ℕ) → count_by (λ m. bytes_eq m c) (map (λ (x : ShadowData). x.class) cs) ≡ count_by (λ (x : ShadowData). bytes_eq x.class c) cs
class_count cs c = sum_by-map (λ m. one_if (bytes_eq m c)) (λ (x : ShadowData). x.class) cs

itself : (n : List ℕ) → bytes_eq n n ≡ true
itself n = (bytes_eq-Decides n n).1 refl

equal : (m n : List ℕ) → bytes_eq m n ≡ true → m ≡ n
equal m n = (bytes_eq-Decides m n).0

turned : (m n : List ℕ) (a b : Bool) → bytes_eq m n ≡ a → bytes_eq n m ≡ b → bytes_eq m n ≡ bytes_eq n m
turned m n true true p q = p ∙ sym q
turned m n false false p q = p ∙ sym q
turned m n true false p q = absurd (let again : bytes_eq n m ≡ true = (bytes_eq-Decides n m).1 (sym (equal m n p)) in cc)
turned m n false true p q = absurd (let again : bytes_eq m n ≡ true = (bytes_eq-Decides m n).1 (sym (equal n m q)) in cc)

classes_once : (xs : List (List ℕ)) → are_apart (λ a b. bytes_eq b a) xs ≡ true → (c : List ℕ) → count_by (λ m. bytes_eq m c) xs ≤ 1
classes_once xs h c =
    let tests : ◌≡◌ {A = List ℕ → Bool} (λ m. bytes_eq c m) (λ m. bytes_eq m c) = λ j m. turned c m (bytes_eq c m) (bytes_eq m c) refl refl j in
    subst (λ f. count_by f xs ≤ 1) tests (apart_once (λ a b. bytes_eq b a) (λ x y e. sym (equal y x e)) itself xs h c)

none_has : (f : List ℕ → Bool) (xs : List (List ℕ)) → count_by f xs ≡ 0 → list_any f xs ≡ false
none_has f [] h = refl
none_has f (x ∷ xs) h = by_test (f x) (sum_by-cons (λ z. one_if (f z)) x xs) (none_has f xs) where
  by_test : (b : Bool) → count_by f (x ∷ xs) ≡ one_if b + count_by f xs → (count_by f xs ≡ 0 → list_any f xs ≡ false) → (b || list_any f xs) ≡ false
  by_test true e ih = absurd (omega (arith, e, h))
  by_test false e ih = ih (omega (arith, e, h))

once_classes : (xs : List (List ℕ)) → ((c : List ℕ) → count_by (λ m. bytes_eq m c) xs ≤ 1) → are_apart (λ a b. bytes_eq b a) xs ≡ true
once_classes [] h = refl
once_classes (x ∷ xs) h =
    let own : one_if (bytes_eq x x) ≡ 1 = ap one_if (itself x) in
    let as_only_item : list_any (λ m. bytes_eq m x) xs ≡ false = none_has (λ m. bytes_eq m x) xs (omega (arith, h x, own, sum_by-cons (λ m. one_if (bytes_eq m x)) x xs)) in
    let rest = once_classes xs (λ c. omega (arith, h c, sum_by-cons (λ m. one_if (bytes_eq m c)) x xs)) in
    λ j. not (as_only_item j) && rest j

-- ROWS
formed_bucket : (p : Option ℕ) (h : HeaderData) → is_formed h ≡ true → IsTyped h → IsRow (bucket_row p h)
formed_bucket p h e t =
    let classes = map (λ (c : ShadowData). c.class) h.class_ids in
    let rest = second_of (nat_lt 0 h.kind) (nat_le (length h.class_ids) MOST_CLASS_IDS && are_apart (λ a b. bytes_eq b a) classes) e in
    record {
      name = t.name;
      form = record {
        some = t.some;
        most = t.most;
        kind_some = ltb-true 0 h.kind (first_of (nat_lt 0 h.kind) (nat_le (length h.class_ids) MOST_CLASS_IDS && are_apart (λ a b. bytes_eq b a) classes) e);
        kind_most = t.kind;
        weight = refl;
        class = refl;
        alg = λ q. absurd cc;
        class_ids = t.class_ids;
        few = leb-true (length h.class_ids) MOST_CLASS_IDS (first_of (nat_le (length h.class_ids) MOST_CLASS_IDS) (are_apart (λ a b. bytes_eq b a) classes) rest);
        classes = λ c. subst (λ n. n ≤ 1) (class_count h.class_ids c) (classes_once classes (second_of (nat_le (length h.class_ids) MOST_CLASS_IDS) (are_apart (λ a b. bytes_eq b a) classes) rest) c);
      };
    }

bucket_formed : (p : Option ℕ) (h : HeaderData) → IsRow (bucket_row p h) → is_formed h ≡ true
bucket_formed p h r =
    let kind : nat_lt 0 h.kind ≡ true = positive h.kind r.form.kind_some in
    let few : nat_le (length h.class_ids) MOST_CLASS_IDS ≡ true = within (length h.class_ids) MOST_CLASS_IDS r.form.few in
    let classes = once_classes (map (λ (c : ShadowData). c.class) h.class_ids) (λ c. subst (λ n. n ≤ 1) (sym (class_count h.class_ids c)) (r.form.classes c)) in
    λ j. kind j && (few j && classes j)
  where
    positive : (n : ℕ) → 0 < n → nat_lt 0 n ≡ true
    positive n h = grind (arith, nat_tests)

    within : (m n : ℕ) → m ≤ n → nat_le m n ≡ true
    within m n h = grind (arith, nat_tests)

formed_device : (p : Option ℕ) (d : LeafData) → nat_le d.weight HEAVIEST_DEVICE ≡ true → d.id < DEVICE_IDS → IsName d.name → IfSome d.class IsName → (p ≡ None → d.weight ≡ 0) → IsRow (device_row p d)
formed_device p d e i n c w = record { name = n; form = record { id = i; kind = refl; light = leb-true d.weight HEAVIEST_DEVICE e; unplaced = w; alg = refl; class_ids = refl; class = c } }

-- devices that no bucket holds have weight 0
abbrev pub Weightless : Items → Type 0
Weightless none = Unit {0}
Weightless (device d r) = (d.weight ≡ 0) × Weightless r
Weightless (bucket h w m k r) = Weightless r

pub formed_rows : (n : Items) (p : Option ℕ) → are_formed n ≡ true → AreTyped n → (p ≡ None → Weightless n) → All IsRow (rows p n)
formed_rows none p e t w = All-nil IsRow
formed_rows (device d r) p e t w =
    All-cons IsRow (device_row p d) (rows p r) (formed_device p d (first_of (nat_le d.weight HEAVIEST_DEVICE) (are_formed r) e) t.0 t.1 t.2 (λ q. (w q).0))
    (formed_rows r p (second_of (nat_le d.weight HEAVIEST_DEVICE) (are_formed r) e) t.3 (λ q. (w q).1))
formed_rows (bucket h v m k r) p e t w =
    let rest = second_of (is_formed h) (are_formed k && are_formed r) e in
    All-cons IsRow (bucket_row p h) (rows (Some h.id) k ++ rows p r) (formed_bucket p h (first_of (is_formed h) (are_formed k && are_formed r) e) t.0)
    (All-append IsRow (rows (Some h.id) k) (rows p r) (formed_rows k (Some h.id) (first_of (are_formed k) (are_formed r) rest) t.2 (λ q. absurd cc)) (formed_rows r p (second_of (are_formed k) (are_formed r) rest) t.3 w))

-- what is true of two lists together is true of each
All-front : (xs ys : List Row) → All IsRow (xs ++ ys) → All IsRow xs
All-front [] ys a = All-nil IsRow
All-front (x ∷ xs) ys a = All-cons IsRow x xs (All-head IsRow x (xs ++ ys) a) (All-front xs ys (All-tail IsRow x (xs ++ ys) a))

pub All-back : (xs ys : List Row) → All IsRow (xs ++ ys) → All IsRow ys
All-back [] ys a = a
All-back (x ∷ xs) ys a = All-back xs ys (All-tail IsRow x (xs ++ ys) a)

pub rows_formed : (n : Items) (p : Option ℕ) → All IsRow (rows p n) → are_formed n ≡ true
rows_formed none p a = refl
rows_formed (device d r) p a =
    let row : IsRow (device_row p d) = All-head IsRow (device_row p d) (rows p r) a in
    let light : nat_le d.weight HEAVIEST_DEVICE ≡ true = within d.weight HEAVIEST_DEVICE row.form.light in
    λ j. light j && rows_formed r p (All-tail IsRow (device_row p d) (rows p r) a) j
  where
    within : (m n : ℕ) → m ≤ n → nat_le m n ≡ true
    within m n h = grind (arith, nat_tests)
rows_formed (bucket h w m k r) p a =
    let both = All-tail IsRow (bucket_row p h) (rows (Some h.id) k ++ rows p r) a in
    let own = bucket_formed p h (All-head IsRow (bucket_row p h) (rows (Some h.id) k ++ rows p r) a) in
    λ j. own j && (rows_formed k (Some h.id) (All-front (rows (Some h.id) k) (rows p r) both) j && rows_formed r p (All-back (rows (Some h.id) k) (rows p r) both) j)

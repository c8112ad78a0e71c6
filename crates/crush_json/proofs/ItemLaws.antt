-- The values for a forest's devices and buckets are those of each table that the forest represents.
use Rattle.std.proofs.Common.{◌≡◌, ℕ, ◌+◌, ◌<◌, ◌==◌, List, [], ◌∷◌, ◌++◌, length, get_or, take, map, refl, ap, sym, subst, ◌∙◌, arith}
use Rattle.std.specs.Prelude.{All, Option, Some, None, flat_map}
use Rattle.std.specs.List.{sum_by}
use Rattle.std.specs.List.Sorted.{IsPermutation, IsNonDecreasingBy}
use Rattle.std.specs.Option.{option_map, option_map_or}
use Rattle.std.proofs.lemmas.List.{length-take-le, map-append}
use Rattle.std.proofs.lemmas.List.Concat.{flat_map-append}
use Rattle.std.proofs.lemmas.List.Elements.{All-nil, All-cons, All-head, All-tail, All-append}
use Rattle.std.proofs.lemmas.List.Sorted.{All-permutation}
use Rattle.std.proofs.lemmas.List.Sums.{sum_by-append, sum_by-cons}
use Rattle.crush_units.specs.declared.id.ItemId.TheVariants.{Device as DeviceItem, Bucket as BucketItem}
use Rattle.crush_model.specs.Count.{one_if}
use Rattle.crush_model.specs.Forest.{ForestData, all_items, rows_of, join, OnlyDevices}
use Rattle.crush_model.specs.ItemRows.{rows, device_row, bucket_row}
use Rattle.crush_model.specs.Items.{LeafData, HeaderData, BucketData, Items, none, device, bucket}
use Rattle.crush_model.specs.Stands.{Stands}
use Rattle.crush_model.specs.Table.{Row, bucket_ids, kids, row_of, sum_below}
use Rattle.crush_nodes.specs.Room.{count}
use Rattle.crush_nodes.specs.Seen.{items_of}
use Rattle.crush_nodes.specs.Views.{ViewData, row_view, device_view, bucket_view}
use Rattle.crush_nodes.specs.declared.node.Node.{Node}
use Rattle.crush_nodes.specs.declared.node.Node.TheVariants.{Device, Bucket}
use Rattle.crush_nodes.proofs.Steps.{items_of-taken, count-items_of}
use Rattle.crush_tree.proofs.ReadLemmas.Items.{ids_of}
use Rattle.crush_edits.specs.Setting.{SettingData}
use Rattle.crush_print.specs.ItemsText.{buckets_among, leaves}
use Rattle.crush_print.specs.MapText.{ascending, device_number, device_numbers, kind_text}
use Rattle.crush_print.specs.WalkStep.{node_view}
use Rattle.crush_print.proofs.InOrder.{devices_numbered, numbers_seen}
use Rattle.crush_print.proofs.Sorting.{times, ascending_same, ascending-reordered, sorted_is_ascending}
use Rattle.crush_print.proofs.Told.{Told, bucket_id, stands_told}
use Rattle.crush_print.proofs.WalkLaws.{All-unmap}
use Rattle.serde_json.specs.Data.{Data}
use Rattle.crush_json.specs.Ids.{bucket_numbers}
use Rattle.crush_json.specs.ItemDocuments.{item_ids, leaf_document, own_document, placed_documents}
use Rattle.crush_json.specs.MapDocument.{bucket_document, bucket_documents, buckets_at, device_document, device_documents, item_document, item_documents, of_view}

-- if the value for each element is the value for its number, then the values for the elements are the values for their numbers
documented : {X : Type 0} (number : X → ℕ) (doc : X → Data) (told : ℕ → List Data) (xs : List X) → All (λ x. told (number x) ≡ doc x ∷ []) xs → map doc xs ≡ flat_map told (map number xs)
documented number doc told [] h = refl
documented number doc told (x ∷ xs) h =
    ap (λ (l : List Data). doc x ∷ l) (documented number doc told xs (All-tail (λ x. told (number x) ≡ doc x ∷ []) x xs h))
    ∙ ap (λ (l : List Data). l ++ flat_map told (map number xs)) (sym (All-head (λ x. told (number x) ≡ doc x ∷ []) x xs h))

-- the value for an item that has a row
row_told : (t : List Row) (r : Row) (told : ViewData → Data) → row_of t r.id ≡ Some r → of_view t r.id told ≡ told (row_view t r) ∷ []
row_told t r told found = ap (λ (o : Option Row). option_map_or (λ v. told v ∷ []) (option_map (row_view t) o) []) found

-- DEVICES: the value for a device doesn't depend on the bucket that holds the device
same_leaf : (p : Option ℕ) (d : LeafData) → device_document (device_view p d) ≡ leaf_document d
unfolding device_document
same_leaf p d = refl

same_device : (place : ℕ) (p : Option ℕ) (d : LeafData) → item_document place (device_view p d) ≡ item_document place (device_view None d)
unfolding item_document
same_device place p d = refl

same_item : (place : ℕ) (p : Option ℕ) (h : HeaderData) (w : ℕ) → item_document place (bucket_view p h w) ≡ item_document place (bucket_view None h w)
unfolding item_document
same_item place p h w = refl

same_bucket : (kind : List ℕ) (items : List Data) (p : Option ℕ) (h : HeaderData) (w : ℕ) → bucket_document kind items (bucket_view p h w) ≡ bucket_document kind items (bucket_view None h w)
unfolding bucket_document
same_bucket kind items p h w = refl

abbrev IsListed : List Row → LeafData → Type 0
IsListed t d = of_view t (DeviceItem d.id) device_document ≡ leaf_document d ∷ []

leaves_listed : (t : List Row) (p : Option ℕ) (n : Items) → Told t p n → All (IsListed t) (leaves n)
leaves_listed t p none told = All-nil (IsListed t)
leaves_listed t p (device d rest) told = All-cons (IsListed t) d (leaves rest) (row_told t (device_row p d) device_document told.0 ∙ ap (λ (e : Data). e ∷ []) (same_leaf p d)) (leaves_listed t p rest told.1)
leaves_listed t p (bucket h w m k rest) told = All-append (IsListed t) (leaves k) (leaves rest) (leaves_listed t (Some h.id) k told.3) (leaves_listed t p rest told.4)

-- so the values for the sorted devices are those for the table's devices
pub devices_documented : {X : Type 0} (see : X → LeafData) (f : ForestData) (t : List Row) (found sorted : List X) → map see found ≡ leaves (all_items f) → IsPermutation found sorted → IsNonDecreasingBy (λ x. (see x).id) sorted → Stands f t
    → map (λ x. leaf_document (see x)) sorted ≡ device_documents t
unfolding device_documents
devices_documented see f t found sorted are same up stands =
    let told : ℕ → List Data = λ d. of_view t (DeviceItem d) device_document in
    documented (λ x. (see x).id) (λ x. leaf_document (see x)) told sorted
    (All-permutation (λ x. IsListed t (see x)) found sorted same (All-unmap (IsListed t) see found (subst (All (IsListed t)) (sym are) (leaves_listed t None (all_items f) (stands_told f t stands)))))
    ∙ ap (flat_map told) (devices_numbered see f t found sorted are same up stands)

-- THE ITEMS OF A BUCKET, in two lists
placed-join : (place : ℕ) (a b : Items) → placed_documents place (join a b) ≡ placed_documents place a ++ placed_documents (place + count a) b
placed-join place none b = ap (λ m. placed_documents m b) (omega arith)
placed-join place (device d rest) b =
    ap (λ (l : List Data). item_document place (device_view None d) ∷ l) (placed-join (place + 1) rest b ∙ ap (λ m. placed_documents (place + 1) rest ++ placed_documents m b) (omega arith))
placed-join place (bucket h w m k rest) b =
    ap (λ (l : List Data). item_document place (bucket_view None h w) ∷ l) (placed-join (place + 1) rest b ∙ ap (λ m. placed_documents (place + 1) rest ++ placed_documents m b) (omega arith))

placed-one : {A : _} (place : ℕ) (x : Node A) → placed_documents place (items_of (x ∷ [])) ≡ item_document place (node_view None x) ∷ []
placed-one place (Device l) = refl
placed-one place (Bucket b) = refl

pub placed-more : {A : _} (ns : List (Node A)) (i : ℕ) (x : Node A) → i < length ns → x ≡ get_or ns i x
    → placed_documents 0 (items_of (take (i + 1) ns)) ≡ placed_documents 0 (items_of (take i ns)) ++ item_document i (node_view None x) ∷ []
placed-more ns i x lt is =
    let long : count (items_of (take i ns)) ≡ i = count-items_of (take i ns) ∙ length-take-le i ns (omega arith) in
    ap (placed_documents 0) (items_of-taken ns i x lt is) ∙ placed-join 0 (items_of (take i ns)) (items_of (x ∷ []))
    ∙ ap (λ m. placed_documents 0 (items_of (take i ns)) ++ placed_documents m (items_of (x ∷ []))) (omega (arith, long))
    ∙ ap (λ (l : List Data). placed_documents 0 (items_of (take i ns)) ++ l) (placed-one i x)

-- the values for the items of one bucket are those of the table
items_told : (t : List Row) (p : Option ℕ) (place : ℕ) (n : Items) → Told t p n → item_documents t place (ids_of n) ≡ placed_documents place n
unfolding item_documents
items_told t p place none told = refl
items_told t p place (device d rest) told =
    (λ i. (row_told t (device_row p d) (item_document place) told.0 ∙ ap (λ (e : Data). e ∷ []) (same_device place p d)) i ++ items_told t p (place + 1) rest told.1 i)
items_told t p place (bucket h w m k rest) told =
    (λ i. (row_told t (bucket_row p h) (item_document place) told.0 ∙ ap (λ z. item_document place (bucket_view p h z) ∷ []) told.2 ∙ ap (λ (e : Data). e ∷ []) (same_item place p h w)) i ++ items_told t p (place + 1) rest told.4 i)

-- BUCKETS: P holds for each bucket about which the table says the following
abbrev OfBuckets : List Row → (BucketData → Type 0) → Type 0
OfBuckets t P = (p : Option ℕ) (h : HeaderData) (w m : ℕ) (k : Items) → row_of t (BucketItem h.id) ≡ Some (bucket_row p h) → kids t h.id ≡ ids_of k → sum_below t h.id ≡ w → Told t (Some h.id) k → P (record { header = h; weight = w; capacity = m; kids = k })

among : (t : List Row) (P : BucketData → Type 0) → OfBuckets t P → (p : Option ℕ) (n : Items) → Told t p n → All P (buckets_among n)
among t P each p none told = All-nil P
among t P each p (device d rest) told = among t P each p rest told.1
among t P each p (bucket h w m k rest) told =
    let own : BucketData = record { header = h; weight = w; capacity = m; kids = k } in
    All-append P (buckets_among k ++ own ∷ []) (buckets_among rest)
    (All-append P (buckets_among k) (own ∷ []) (among t P each (Some h.id) k told.3) (All-cons P own [] (each p h w m k told.0 told.1 told.2 told.3) (All-nil P)))
    (among t P each p rest told.4)

-- the value for a bucket, with its items, is the one that the table gives
abbrev pub IsOwn : SettingData → List Row → BucketData → Type 0
IsOwn s t b = buckets_at s t b.header.id ≡ own_document s b ∷ []

own_told : (s : SettingData) (t : List Row) → OfBuckets t (IsOwn s t)
own_told s t p h w m k row are sum told =
    row_told t (bucket_row p h) (λ v. bucket_document (kind_text s v.kind) (item_documents t 0 (kids t h.id)) v) row
    ∙ ap (λ z. bucket_document (kind_text s h.kind) (item_documents t 0 (kids t h.id)) (bucket_view p h z) ∷ []) sum
    ∙ ap (λ is. bucket_document (kind_text s h.kind) (item_documents t 0 is) (bucket_view p h w) ∷ []) are
    ∙ ap (λ items. bucket_document (kind_text s h.kind) items (bucket_view p h w) ∷ []) (items_told t (Some h.id) 0 k told)
    ∙ ap (λ (e : Data). e ∷ []) (same_bucket (kind_text s h.kind) (placed_documents 0 k) p h w)

abbrev pub HasItems : List Row → BucketData → Type 0
HasItems t b = kids t b.header.id ≡ item_ids b.kids

pub ids_are : (n : Items) → ids_of n ≡ item_ids n
ids_are none = refl
ids_are (device d rest) = ap (λ z. DeviceItem d.id ∷ z) (ids_are rest)
ids_are (bucket h w m k rest) = ap (λ z. BucketItem h.id ∷ z) (ids_are rest)

items_owned : (t : List Row) → OfBuckets t (HasItems t)
items_owned t p h w m k row are sum told = are ∙ ids_are k

-- a list of devices has no buckets
no_buckets : (n : Items) → OnlyDevices n → buckets_among n ≡ []
no_buckets none only = refl
no_buckets (device d rest) only = no_buckets rest only
no_buckets (bucket h w m k rest) only = absurd only

among-join : (a b : Items) → OnlyDevices a → buckets_among (join a b) ≡ buckets_among b
among-join none b only = refl
among-join (device d a) b only = among-join a b only
among-join (bucket h w m k a) b only = absurd only

pub all_among : (f : ForestData) (r : Items) → OnlyDevices f.unplaced → r ≡ f.roots → buckets_among r ≡ buckets_among (all_items f)
all_among f r only are = ap buckets_among are ∙ sym (among-join f.unplaced f.roots only)

-- THE IDS of the forest's buckets are those of the table's rows
numbers_among : (b : ℕ) (p : Option ℕ) (n : Items) → times b (map bucket_id (buckets_among n)) ≡ times b (flat_map (λ (r : Row). bucket_ids r.id) (rows p n))
numbers_among b p none = refl
numbers_among b p (device d rest) = numbers_among b p rest
numbers_among b p (bucket h w m k rest) =
    let own : List BucketData = (record { header = h; weight = w; capacity = m; kids = k }) ∷ [] in
    let test : ℕ → ℕ = λ x. one_if (x == b) in
    let left : map bucket_id ((buckets_among k ++ own) ++ buckets_among rest) ≡ (map bucket_id (buckets_among k) ++ h.id ∷ []) ++ map bucket_id (buckets_among rest) =
    map-append bucket_id (buckets_among k ++ own) (buckets_among rest) ∙ ap (λ (l : List ℕ). l ++ map bucket_id (buckets_among rest)) (map-append bucket_id (buckets_among k) own) in
    let right : flat_map (λ (r : Row). bucket_ids r.id) (rows (Some h.id) k ++ rows p rest) ≡ flat_map (λ (r : Row). bucket_ids r.id) (rows (Some h.id) k) ++ flat_map (λ (r : Row). bucket_ids r.id) (rows p rest) =
    flat_map-append (λ (r : Row). bucket_ids r.id) (rows (Some h.id) k) (rows p rest) in
    ap (times b) left
    ∙ omega (
      arith,
      numbers_among b (Some h.id) k,
      numbers_among b p rest,
      sum_by-append test (map bucket_id (buckets_among k) ++ h.id ∷ []) (map bucket_id (buckets_among rest)),
      sum_by-append test (map bucket_id (buckets_among k)) (h.id ∷ []),
      sum_by-cons test h.id [],
      sum_by-cons test h.id (flat_map (λ (r : Row). bucket_ids r.id) (rows (Some h.id) k) ++ flat_map (λ (r : Row). bucket_ids r.id) (rows p rest)),
      sum_by-append test (flat_map (λ (r : Row). bucket_ids r.id) (rows (Some h.id) k)) (flat_map (λ (r : Row). bucket_ids r.id) (rows p rest)),
    )
    ∙ ap (λ (l : List ℕ). times b (h.id ∷ l)) (sym right)

pub buckets_numbered : {X : Type 0} (see : X → BucketData) (f : ForestData) (t : List Row) (found sorted : List X) → map see found ≡ buckets_among (all_items f) → IsPermutation found sorted → IsNonDecreasingBy (λ x. (see x).header.id) sorted → Stands f t
    → map (λ x. (see x).header.id) sorted ≡ bucket_numbers t
unfolding bucket_numbers
buckets_numbered see f t found sorted are same up stands =
    sorted_is_ascending (λ x. (see x).header.id) found sorted same up
    ∙ ap ascending (numbers_seen bucket_id see found (buckets_among (all_items f)) are)
    ∙ ascending_same (map bucket_id (buckets_among (all_items f))) (flat_map (λ (r : Row). bucket_ids r.id) (rows_of f)) (λ b. numbers_among b None (all_items f))
    ∙ ascending-reordered (λ (r : Row). bucket_ids r.id) (rows_of f) t stands.same.rows

-- so the values for the sorted buckets are those for the table's buckets
pub buckets_documented : {X : Type 0} (see : X → BucketData) (s : SettingData) (f : ForestData) (t : List Row) (found sorted : List X) → map see found ≡ buckets_among (all_items f) → IsPermutation found sorted → IsNonDecreasingBy (λ x. (see x).header.id) sorted → Stands f t
    → map (λ x. own_document s (see x)) sorted ≡ bucket_documents s t
unfolding bucket_documents
buckets_documented see s f t found sorted are same up stands =
    documented (λ x. (see x).header.id) (λ x. own_document s (see x)) (buckets_at s t) sorted
    (All-permutation (λ x. IsOwn s t (see x)) found sorted same (All-unmap (IsOwn s t) see found (subst (All (IsOwn s t)) (sym are) (among t (IsOwn s t) (own_told s t) None (all_items f) (stands_told f t stands)))))
    ∙ ap (flat_map (buckets_at s t)) (buckets_numbered see f t found sorted are same up stands)

pub buckets_have_items : {X : Type 0} (see : X → BucketData) (f : ForestData) (t : List Row) (found sorted : List X) → map see found ≡ buckets_among (all_items f) → IsPermutation found sorted → Stands f t → All (λ x. kids t (see x).header.id ≡ item_ids (see x).kids) sorted
buckets_have_items see f t found sorted are same stands =
    All-permutation (λ x. HasItems t (see x)) found sorted same (All-unmap (HasItems t) see found (subst (All (HasItems t)) (sym are) (among t (HasItems t) (items_owned t) None (all_items f) (stands_told f t stands))))

-- The entries of a forest's items are those of its table, one for each of its ids.
use Rattle.std.proofs.Common.{◌≡◌, ℕ, ◌+◌, ◌<◌, List, [], ◌∷◌, ◌++◌, length, get_or, take, ap, sym, ◌∙◌, refl, arith, append_assoc, append-nil}
use Rattle.std.specs.Prelude.{All, Option, None, Some, option_and_then}
use Rattle.std.specs.List.{sum_by}
use Rattle.std.specs.Option.{option_map, option_map_or}
use Rattle.std.proofs.lemmas.List.Sums.{sum_by-append, sum_by-cons}
use Rattle.std.proofs.lemmas.List.Elements.{All-nil, All-cons, All-append}
use Rattle.crush_units.specs.declared.id.ItemId.{ItemId}
use Rattle.crush_units.specs.declared.id.ItemId.TheVariants.{Device as DeviceItem, Bucket as BucketItem}
use Rattle.crush_model.specs.Items.{BucketData, ShadowData, Items, none, device, bucket}
use Rattle.crush_model.specs.Forest.{ForestData, all_items, join}
use Rattle.crush_model.specs.ItemRows.{rows, device_row, bucket_row}
use Rattle.crush_model.specs.Table.{Row, row_of, name_of}
use Rattle.crush_nodes.specs.Seen.{items_of, node_id}
use Rattle.crush_nodes.specs.declared.node.Node.{Node}
use Rattle.crush_nodes.specs.declared.node.Node.TheVariants.{Device, Bucket}
use Rattle.crush_nodes.proofs.Steps.{items_of-taken}
use Rattle.crush_items.proofs.Told.{Told}
use Rattle.crush_items.specs.Entries.{EntryData, row_entry, entry_of, device_entry, bucket_entry, entries_of}
use Rattle.crush_items.specs.ItemData.{ItemData, row_item, item_of, own_class_ids}
use Rattle.crush_items.specs.Items.{node_class_ids}
use Rattle.crush_items.specs.Items.{node_view}

-- the entries of two joined lists of items are the entries of the first list, followed by those of the second
pub entries-join : (p : Option ℕ) (n : Option (List ℕ)) (a b : Items) → entries_of p n (join a b) ≡ entries_of p n a ++ entries_of p n b
entries-join p n none b = refl
entries-join p n (device d rest) b = ap (λ (l : List EntryData). device_entry p n d ∷ l) (entries-join p n rest b)
entries-join p n (bucket h w m k rest) b =
    ap (λ (l : List EntryData). bucket_entry p n h w ∷ (entries_of (Some h.id) (Some h.name) k ++ l)) (entries-join p n rest b)
    ∙ ap (λ (l : List EntryData). bucket_entry p n h w ∷ l) (sym (append_assoc (entries_of (Some h.id) (Some h.name) k) (entries_of p n rest) (entries_of p n b)))

-- the entries of the first i + 1 nodes are the entries of the first i nodes, followed by those of node i
pub entries-more : {A : _} (p : Option ℕ) (n : Option (List ℕ)) (ns : List (Node A)) (i : ℕ) (x : Node A) → i < length ns → x ≡ get_or ns i x
    → entries_of p n (items_of (take (i + 1) ns)) ≡ entries_of p n (items_of (take i ns)) ++ entries_of p n (items_of (x ∷ []))
entries-more p n ns i x lt is = ap (entries_of p n) (items_of-taken ns i x lt is) ∙ entries-join p n (items_of (take i ns)) (items_of (x ∷ []))

-- an item's own entry
abbrev pub node_entry : {A : _} → Option ℕ → Option (List ℕ) → Node A → EntryData
node_entry p n x = record { item = record { view = node_view p x; holder = n }; class_ids = node_class_ids x }

-- the entries of a bucket are its own entry, followed by the entries of its items
pub bucket_entered : {A : _} (p : Option ℕ) (n : Option (List ℕ)) (x : Node A) (b : _) (k : Items) (d : BucketData) → x ≡ Bucket b → d ≡ b.value → k ≡ d.kids
    → node_entry p n x ∷ entries_of (Some d.header.id) (Some d.header.name) k ≡ entries_of p n (items_of (x ∷ []))
bucket_entered p n x b k d at same kids_are =
    ap (λ y. node_entry p n y ∷ entries_of (Some d.header.id) (Some d.header.name) k) at
    ∙ ap (λ i. node_entry p n (Bucket b) ∷ entries_of (Some d.header.id) (Some d.header.name) i) kids_are
    ∙ ap (λ (e : BucketData). node_entry p n (Bucket b) ∷ entries_of (Some e.header.id) (Some e.header.name) e.kids) same
    ∙ ap (λ (l : List EntryData). node_entry p n (Bucket b) ∷ l) (sym (append-nil (entries_of (Some b.value.header.id) (Some b.value.header.name) b.value.kids)))
    ∙ ap (λ y. entries_of p n (items_of (y ∷ []))) (sym at)

-- the entries of a forest are the entries of its unplaced devices, followed by those of its roots
pub forest_entries : (f : ForestData) (old one two : List EntryData) (u r : Items) → old ≡ [] → one ≡ old ++ entries_of None None u → two ≡ one ++ entries_of None None r → u ≡ f.unplaced → r ≡ f.roots → two ≡ entries_of None None (all_items f)
forest_entries f old one two u r begun first second is_u is_r =
    second ∙ ap (λ (l : List EntryData). l ++ entries_of None None r) (first ∙ ap (λ (l : List EntryData). l ++ entries_of None None u) begun) ∙ (λ i. entries_of None None (is_u i) ++ entries_of None None (is_r i))
    ∙ sym (entries-join None None f.unplaced f.roots)

-- WHAT THE TABLE SAYS about the id of an entry is this entry
abbrev pub IsTold : List Row → EntryData → Type 0
IsTold t e = entry_of t e.item.view.id ≡ Some e

abbrev holder_in : List Row → Option ℕ → Option (List ℕ)
holder_in t p = option_and_then (λ b. name_of t (BucketItem b)) p

pub entries_told : (t : List Row) (p : Option ℕ) (n : Option (List ℕ)) (items : Items) → holder_in t p ≡ n → Told t p items → All (IsTold t) (entries_of p n items)
entries_told t p n none above told = All-nil (IsTold t)
entries_told t p n (device d rest) above told =
    All-cons (IsTold t) (device_entry p n d) (entries_of p n rest)
    (ap (option_map (row_entry t (DeviceItem d.id))) told.0 ∙ (λ k. Some (record { item = record { view = (device_entry p n d).item.view; holder = above k }; class_ids = [] })))
    (entries_told t p n rest above told.1)
entries_told t p n (bucket h w m k rest) above told =
    let ids : own_class_ids t (BucketItem h.id) ≡ h.class_ids = ap (λ o. option_map_or (λ (r : Row). r.class_ids) o []) told.0 in
    let named : holder_in t (Some h.id) ≡ Some h.name = ap (option_map (λ (r : Row). r.name)) told.0 in
    All-cons (IsTold t) (bucket_entry p n h w) (entries_of (Some h.id) (Some h.name) k ++ entries_of p n rest)
    (ap (option_map (row_entry t (BucketItem h.id))) told.0 ∙ (λ i. Some (record { item = record { view = record { id = BucketItem h.id; kind = h.kind; name = h.name; weight = told.2 i; parent = p; class = None; alg = Some h.alg }; holder = above i }; class_ids = ids i })))
    (All-append (IsTold t) (entries_of (Some h.id) (Some h.name) k) (entries_of p n rest) (entries_told t (Some h.id) (Some h.name) k named told.3) (entries_told t p n rest above told.4))

-- the sum of a number for the id of each entry; with such sums the entries are counted
abbrev pub summed : (ItemId → ℕ) → List EntryData → ℕ
summed n es = sum_by (λ (e : EntryData). n e.item.view.id) es

pub entries_of_rows : (n : ItemId → ℕ) (p : Option ℕ) (name : Option (List ℕ)) (items : Items) → summed n (entries_of p name items) ≡ sum_by (λ (r : Row). n r.id) (rows p items)
entries_of_rows n p name none = refl
entries_of_rows n p name (device d rest) =
    omega (arith, entries_of_rows n p name rest, sum_by-cons (λ (e : EntryData). n e.item.view.id) (device_entry p name d) (entries_of p name rest), sum_by-cons (λ (r : Row). n r.id) (device_row p d) (rows p rest))
entries_of_rows n p name (bucket h w m k rest) =
    omega (
      arith,
      entries_of_rows n (Some h.id) (Some h.name) k,
      entries_of_rows n p name rest,
      sum_by-cons (λ (e : EntryData). n e.item.view.id) (bucket_entry p name h w) (entries_of (Some h.id) (Some h.name) k ++ entries_of p name rest),
      sum_by-append (λ (e : EntryData). n e.item.view.id) (entries_of (Some h.id) (Some h.name) k) (entries_of p name rest),
      sum_by-cons (λ (r : Row). n r.id) (bucket_row p h) (rows (Some h.id) k ++ rows p rest),
      sum_by-append (λ (r : Row). n r.id) (rows (Some h.id) k) (rows p rest),
    )

-- AN ITEM OF THE CODE: its view has the id of its node
pub view_id : {A : _} (p : Option ℕ) (x : Node A) → (node_view p x).id ≡ node_id x
view_id p (Device l) = refl
view_id p (Bucket b) = refl

-- the item in the entry that a table has for an id is what the table says about the item with this id
pub entry_item : (t : List Row) (i : ItemId) → option_map (λ (e : EntryData). e.item) (entry_of t i) ≡ item_of t i
entry_item t i = by_row (row_of t i) where
  by_row : (o : Option Row) → option_map (λ (e : EntryData). e.item) (option_map (row_entry t i) o) ≡ option_map (row_item t) o
  by_row None = refl
  by_row (Some r) = refl

pub entry_class_ids : (t : List Row) (i : ItemId) → option_map_or (λ (e : EntryData). e.class_ids) (entry_of t i) [] ≡ own_class_ids t i
entry_class_ids t (DeviceItem d) = by_row (row_of t (DeviceItem d)) where
  by_row : (o : Option Row) → option_map_or (λ (e : EntryData). e.class_ids) (option_map (row_entry t (DeviceItem d)) o) [] ≡ []
  by_row None = refl
  by_row (Some r) = refl
entry_class_ids t (BucketItem b) = by_row (row_of t (BucketItem b)) refl where
  by_row : (o : Option Row) → row_of t (BucketItem b) ≡ o → option_map_or (λ (e : EntryData). e.class_ids) (option_map (row_entry t (BucketItem b)) o) [] ≡ option_map_or (λ (r : Row). r.class_ids) (row_of t (BucketItem b)) []
  by_row None e = ap (λ q. option_map_or (λ (r : Row). r.class_ids) q []) (sym e)
  by_row (Some r) e = refl

-- if the entry that was found for an id is the entry of the table, then the item that was found is the item of the table
pub said : {X : Type 0} (t : List Row) (i : ItemId) (see : X → EntryData) (found : Option X) (one : Option ItemData) → one ≡ option_map (λ x. (see x).item) found → option_map see found ≡ entry_of t i → one ≡ item_of t i
said {X} t i see found one is entry = is ∙ by_found found ∙ ap (option_map (λ (e : EntryData). e.item)) entry ∙ entry_item t i where
  by_found : (o : Option X) → option_map (λ x. (see x).item) o ≡ option_map (λ (e : EntryData). e.item) (option_map see o)
  by_found None = refl
  by_found (Some x) = refl

pub said_class_ids : {X : Type 0} (t : List Row) (i : ItemId) (see : X → EntryData) (found : Option X) (ids : List ShadowData) → ids ≡ option_map_or (λ x. (see x).class_ids) found [] → option_map see found ≡ entry_of t i → ids ≡ own_class_ids t i
said_class_ids {X} t i see found ids is entry = is ∙ by_found found ∙ ap (λ o. option_map_or (λ (e : EntryData). e.class_ids) o []) entry ∙ entry_class_ids t i where
  by_found : (o : Option X) → option_map_or (λ x. (see x).class_ids) o [] ≡ option_map_or (λ (e : EntryData). e.class_ids) (option_map see o) []
  by_found None = refl
  by_found (Some x) = refl

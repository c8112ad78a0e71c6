-- Proves that the rows of the new map's items are the same if they are computed from a list of nodes and if they are computed from the table.
use Rattle.std.proofs.Common.{◌≡◌, ℕ, zero, suc, ◌+◌, ◌<◌, ◌≤◌, true, List, [], ◌∷◌, ◌++◌, length, get_or, take, map, ap, sym, ◌∙◌, refl, arith, append_assoc, append-nil}
use Rattle.std.specs.Prelude.{flat_map, All, Option, None, Some}
use Rattle.std.specs.List.Sorted.{IsPermutation}
use Rattle.std.proofs.lemmas.List.Elements.{All-nil, All-cons}
use Rattle.crush_units.specs.declared.id.ItemId.{ItemId}
use Rattle.crush_units.specs.declared.id.ItemId.TheVariants.{Device as DeviceItem, Bucket as BucketItem}
use Rattle.crush_model.specs.Items.{Items, none, device, bucket, size_of}
use Rattle.crush_model.specs.Forest.{ForestData, join, IsSound}
use Rattle.crush_model.specs.Stands.{Stands}
use Rattle.crush_model.specs.Table.{kids}
use Rattle.crush_nodes.specs.Seen.{items_of, leaf_data, node_id}
use Rattle.crush_nodes.specs.declared.node.Node.{Node}
use Rattle.crush_nodes.specs.declared.node.Node.TheVariants.{Device, Bucket}
use Rattle.crush_nodes.proofs.Steps.{items_of-taken}
use Rattle.crush_tree.proofs.ReadLemmas.Items.{ids_of}
use Rattle.crush_print.specs.ItemsText.{id_number}
use Rattle.crush_print.specs.MapText.{ascending, root_numbers}
use Rattle.crush_print.proofs.Told.{Told}
use Rattle.crush_since.specs.ChangeItems.{stands_of}
use Rattle.crush_since.specs.Changes.{ChangeData, change_at, is_listed, left_from, stands_at, with_below}
use Rattle.crush_since.specs.Since.{PlainMap as Map}
use Rattle.crush_print.specs.Tree.{unplaced_numbers}
use Rattle.crush_print.proofs.WalkLaws.{roots_in_order, roots_told, few_roots, unplaced_in_order, unplaced_told, few_unplaced}

module _ (old new : Map) where
  -- an item with the rows below it
  abbrev own : ℕ → ItemId → List ChangeData → List ChangeData
  own depth i below = with_below (is_listed old new i) (change_at old.table new.table true depth i) below

  abbrev left : ℕ → ℕ → List ChangeData
  left depth b = left_from old.table new.table depth (Some b) (kids old.table b)

  -- the rows of two joined lists of items
  stands-join : (depth : ℕ) (a b : Items) → stands_of old new depth (join a b) ≡ stands_of old new depth a ++ stands_of old new depth b
  stands-join depth none b = refl
  stands-join depth (device d rest) b =
      ap (λ (l : List ChangeData). own depth (DeviceItem d.id) [] ++ l) (stands-join depth rest b) ∙ sym (append_assoc (own depth (DeviceItem d.id) []) (stands_of old new depth rest) (stands_of old new depth b))
  stands-join depth (bucket h w m k rest) b =
      let here : List ChangeData = own depth (BucketItem h.id) (stands_of old new (depth + 1) k ++ left (depth + 1) h.id) in
      ap (λ (l : List ChangeData). here ++ l) (stands-join depth rest b) ∙ sym (append_assoc here (stands_of old new depth rest) (stands_of old new depth b))

  -- the rows after one more item
  pub stands-more : {A : _} (depth : ℕ) (ns : List (Node A)) (i : ℕ) (x : Node A) → i < length ns → x ≡ get_or ns i x
      → stands_of old new depth (items_of (take (i + 1) ns)) ≡ stands_of old new depth (items_of (take i ns)) ++ stands_of old new depth (items_of (x ∷ []))
  stands-more depth ns i x lt is = ap (stands_of old new depth) (items_of-taken ns i x lt is) ∙ stands-join depth (items_of (take i ns)) (items_of (x ∷ []))

  -- a device has only its own row
  pub device_stands : {A : _} (depth : ℕ) (x : Node A) (l : _) → x ≡ Device l → own depth (node_id x) [] ≡ stands_of old new depth (items_of (x ∷ []))
  device_stands depth x l at = ap (λ y. own depth (node_id y) []) at ∙ sym (append-nil (own depth (DeviceItem l.id) [])) ∙ ap (λ y. stands_of old new depth (items_of (y ∷ []))) (sym at)

  -- a bucket has its own row, the rows of its items, and the rows of the items that have left it
  pub bucket_stands : {A : _} (depth : ℕ) (x : Node A) (b : _) (k : Items) → x ≡ Bucket b → k ≡ b.value.kids
      → own depth (node_id x) (stands_of old new (depth + 1) k ++ left (depth + 1) b.value.header.id) ≡ stands_of old new depth (items_of (x ∷ []))
  bucket_stands depth x b k at are =
      (λ i. own depth (node_id (at i)) (stands_of old new (depth + 1) (are i) ++ left (depth + 1) b.value.header.id))
      ∙ sym (append-nil (own depth (BucketItem b.value.header.id) (stands_of old new (depth + 1) b.value.kids ++ left (depth + 1) b.value.header.id)))
      ∙ ap (λ y. stands_of old new depth (items_of (y ∷ []))) (sym at)

  -- AS DEEP AS ITEMS ARE: if the depth bound is large enough, the table gives the same rows as the items
  pub stands_told : (fuel depth : ℕ) (p : Option ℕ) (n : Items) → size_of n ≤ fuel → Told new.table p n → flat_map (stands_at old new fuel depth) (ids_of n) ≡ stands_of old new depth n
  unfolding stands_at
  stands_told fuel depth p none le told = refl
  stands_told fuel depth p (device d rest) le told = ap (λ (l : List ChangeData). own depth (DeviceItem d.id) [] ++ l) (stands_told fuel depth p rest le told.1)
  stands_told zero depth p (bucket h w m k rest) le told = absurd (omega arith)
  stands_told (suc fuel) depth p (bucket h w m k rest) le told =
      let below : flat_map (stands_at old new fuel (depth + 1)) (kids new.table h.id) ≡ stands_of old new (depth + 1) k =
      ap (flat_map (stands_at old new fuel (depth + 1))) told.1 ∙ stands_told fuel (depth + 1) (Some h.id) k (omega arith) told.3 in
      (λ i. own depth (BucketItem h.id) (below i ++ left (depth + 1) h.id) ++ stands_told (suc fuel) depth p rest (omega arith) told.4 i)

  -- EACH NODE has the rows that the tables define
  abbrev AreRows : {A : _} → Node A → Type 0
  AreRows node = stands_at old new (length new.table) 0 (node_id node) ≡ stands_of old new 0 (items_of (node ∷ []))

  alone : (p : Option ℕ) (i : ItemId) (n : Items) → ids_of n ≡ i ∷ [] → size_of n ≤ length new.table → Told new.table p n → stands_at old new (length new.table) 0 i ≡ stands_of old new 0 n
  alone p i n is le told = sym (append-nil (stands_at old new (length new.table) 0 i)) ∙ ap (flat_map (stands_at old new (length new.table) 0)) (sym is) ∙ stands_told (length new.table) 0 p n le told

  stands_each : {A : _} (p : Option ℕ) (ns : List (Node A)) → Told new.table p (items_of ns) → size_of (items_of ns) ≤ length new.table → All AreRows ns
  stands_each p [] told le = All-nil AreRows
  stands_each p (Device l ∷ ns) told le = All-cons AreRows (Device l) ns (alone p (DeviceItem l.id) (device (leaf_data l) none) refl (omega arith) (told.0, tt)) (stands_each p ns told.1 le)
  stands_each p (Bucket b ∷ ns) told le =
      All-cons AreRows (Bucket b) ns (alone p (BucketItem b.value.header.id) (bucket b.value.header b.value.weight b.value.capacity b.value.kids none) refl (omega arith) (told.0, told.1, told.2, told.3, tt))
      (stands_each p ns told.4 (omega arith))

  -- THE ROOTS and the unplaced devices have the rows that the tables define
  pub roots_stand : {A : _} {X : Type 0} (see : X → Node A) (f : ForestData) (ns : List (Node A)) (refs : List X) → items_of ns ≡ f.roots → IsSound f → Stands f new.table → IsPermutation ns (map see refs)
      → map (λ x. id_number (node_id (see x))) refs ≡ ascending (map (λ node. id_number (node_id node)) ns)
      → flat_map (λ x. stands_of old new 0 (items_of (see x ∷ []))) refs ≡ flat_map (λ b. stands_at old new (length new.table) 0 (BucketItem b)) (root_numbers new.table)
  roots_stand see f ns refs are sound stands same rising =
      roots_in_order see (λ node. stands_of old new 0 (items_of (node ∷ []))) (stands_at old new (length new.table) 0) f new.table ns refs are sound stands same rising
      (stands_each None ns (roots_told f new.table ns are stands) (few_roots f new.table ns are stands))

  pub unplaced_stand : {A : _} {X : Type 0} (see : X → Node A) (f : ForestData) (ns : List (Node A)) (refs : List X) → items_of ns ≡ f.unplaced → IsSound f → Stands f new.table → IsPermutation ns (map see refs)
      → map (λ x. id_number (node_id (see x))) refs ≡ ascending (map (λ node. id_number (node_id node)) ns)
      → flat_map (λ x. stands_of old new 0 (items_of (see x ∷ []))) refs ≡ flat_map (λ d. stands_at old new (length new.table) 0 (DeviceItem d)) (unplaced_numbers new.table)
  unplaced_stand see f ns refs are sound stands same rising =
      unplaced_in_order see (λ node. stands_of old new 0 (items_of (node ∷ []))) (stands_at old new (length new.table) 0) f new.table ns refs are sound stands same rising
      (stands_each None ns (unplaced_told f new.table ns are stands) (few_unplaced f new.table ns are sound))

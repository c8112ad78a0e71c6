-- Proves that the rows of the items that only the old map had in a place are the same if they are computed from a list of nodes and if they are computed from the tables.
use Rattle.std.proofs.Common.{◌≡◌, ℕ, zero, suc, ◌+◌, ◌<◌, ◌≤◌, true, false, List, [], ◌∷◌, ◌++◌, length, get_or, take, map, ap, sym, ◌∙◌, refl, arith, append_assoc, append-nil}
use Rattle.std.specs.Prelude.{flat_map, All, Option, None, Some, if◌then◌else◌}
use Rattle.std.specs.List.Sorted.{IsPermutation}
use Rattle.std.proofs.lemmas.List.Elements.{All-nil, All-cons}
use Rattle.std.proofs.lemmas.List.Folds.{flat_map-map}
use Rattle.crush_units.specs.declared.id.ItemId.{ItemId}
use Rattle.crush_units.specs.declared.id.ItemId.TheVariants.{Device as DeviceItem, Bucket as BucketItem}
use Rattle.crush_model.specs.Items.{Items, none, device, bucket, size_of}
use Rattle.crush_model.specs.Forest.{ForestData, all_items, join, IsSound}
use Rattle.crush_model.specs.Stands.{Stands}
use Rattle.crush_model.specs.Table.{Row, kids, is_there}
use Rattle.crush_model.proofs.Reorder.{reordered-length}
use Rattle.crush_nodes.specs.Search.{kids_in}
use Rattle.crush_nodes.specs.Seen.{items_of, leaf_data, node_id}
use Rattle.crush_nodes.specs.declared.node.Node.{Node}
use Rattle.crush_nodes.specs.declared.node.Node.TheVariants.{Device, Bucket}
use Rattle.crush_nodes.proofs.Steps.{items_of-taken}
use Rattle.crush_tree.proofs.ReadLemmas.Items.{ids_of}
use Rattle.crush_print.specs.ItemsText.{id_number}
use Rattle.crush_print.specs.MapText.{ascending, root_numbers}
use Rattle.crush_print.proofs.Told.{Told, stands_told, size_le_rows}
use Rattle.crush_since.specs.ChangeItems.{left_of, stood_of}
use Rattle.crush_since.specs.Changes.{ChangeData, change_at, left_at, left_from, stands_in, stood_at}
use Rattle.crush_print.specs.Tree.{unplaced_numbers}
use Rattle.crush_print.proofs.BelowLaws.{told_kids, kids_no_more, no_kids}
use Rattle.crush_print.proofs.WalkLaws.{steps_by_number, roots_in_order, roots_told, few_roots, unplaced_in_order, unplaced_told, few_unplaced}

module _ (t u : List Row) where
  abbrev stood : ℕ → ItemId → ChangeData
  stood depth i = change_at t u false depth i

  abbrev below_of : ℕ → ItemId → Items → List ChangeData
  below_of depth i k = if is_there u i then [] else stood_of t u (depth + 1) k

  -- the rows of two joined lists of items
  stood-join : (depth : ℕ) (a b : Items) → stood_of t u depth (join a b) ≡ stood_of t u depth a ++ stood_of t u depth b
  stood-join depth none b = refl
  stood-join depth (device d rest) b = ap (λ (l : List ChangeData). stood depth (DeviceItem d.id) ∷ l) (stood-join depth rest b)
  stood-join depth (bucket h w m k rest) b =
      ap (λ (l : List ChangeData). stood depth (BucketItem h.id) ∷ (below_of depth (BucketItem h.id) k ++ l)) (stood-join depth rest b)
      ∙ ap (λ (l : List ChangeData). stood depth (BucketItem h.id) ∷ l) (sym (append_assoc (below_of depth (BucketItem h.id) k) (stood_of t u depth rest) (stood_of t u depth b)))

  -- the rows after one more item
  pub stood-more : {A : _} (depth : ℕ) (ns : List (Node A)) (i : ℕ) (x : Node A) → i < length ns → x ≡ get_or ns i x
      → stood_of t u depth (items_of (take (i + 1) ns)) ≡ stood_of t u depth (items_of (take i ns)) ++ stood_of t u depth (items_of (x ∷ []))
  stood-more depth ns i x lt is = ap (stood_of t u depth) (items_of-taken ns i x lt is) ∙ stood-join depth (items_of (take i ns)) (items_of (x ∷ []))

  -- a device has only its own row
  pub device_stood : {A : _} (depth : ℕ) (x : Node A) (l : _) → x ≡ Device l → stood depth (node_id x) ∷ [] ≡ stood_of t u depth (items_of (x ∷ []))
  device_stood depth x l at = ap (λ y. stood depth (node_id y) ∷ []) at ∙ ap (λ y. stood_of t u depth (items_of (y ∷ []))) (sym at)

  -- a bucket that the new map has in another place has only its own row
  pub bucket_elsewhere : {A : _} (depth : ℕ) (x : Node A) (b : _) → x ≡ Bucket b → is_there u (BucketItem b.value.header.id) ≡ true → stood depth (node_id x) ∷ [] ≡ stood_of t u depth (items_of (x ∷ []))
  bucket_elsewhere depth x b at there =
      ap (λ y. stood depth (node_id y) ∷ []) at ∙ ap (λ z. stood depth (BucketItem b.value.header.id) ∷ ((if z then [] else stood_of t u (depth + 1) b.value.kids) ++ [])) (sym there)
      ∙ ap (λ y. stood_of t u depth (items_of (y ∷ []))) (sym at)

  -- a bucket that the new map doesn't have has its own row and the rows of its items
  pub bucket_gone : {A : _} (depth : ℕ) (x : Node A) (b : _) (k : Items) → x ≡ Bucket b → k ≡ b.value.kids → is_there u (BucketItem b.value.header.id) ≡ false
      → stood depth (node_id x) ∷ stood_of t u (depth + 1) k ≡ stood_of t u depth (items_of (x ∷ []))
  bucket_gone depth x b k at are gone =
      (λ i. stood depth (node_id (at i)) ∷ stood_of t u (depth + 1) (are i))
      ∙ ap (λ (l : List ChangeData). stood depth (BucketItem b.value.header.id) ∷ l) (sym (append-nil (stood_of t u (depth + 1) b.value.kids)))
      ∙ ap (λ z. stood depth (BucketItem b.value.header.id) ∷ ((if z then [] else stood_of t u (depth + 1) b.value.kids) ++ [])) (sym gone) ∙ ap (λ y. stood_of t u depth (items_of (y ∷ []))) (sym at)

  -- AS DEEP AS ITEMS ARE: if the depth bound is large enough, the tables give the same rows as the items
  pub stood_told : (fuel depth : ℕ) (p : Option ℕ) (n : Items) → size_of n ≤ fuel → Told t p n → flat_map (stood_at t u fuel depth) (ids_of n) ≡ stood_of t u depth n
  unfolding stood_at
  stood_told fuel depth p none le told = refl
  stood_told fuel depth p (device d rest) le told = ap (λ (l : List ChangeData). stood depth (DeviceItem d.id) ∷ l) (stood_told fuel depth p rest le told.1)
  stood_told zero depth p (bucket h w m k rest) le told = absurd (omega arith)
  stood_told (suc fuel) depth p (bucket h w m k rest) le told =
      let below : flat_map (stood_at t u fuel (depth + 1)) (kids t h.id) ≡ stood_of t u (depth + 1) k = ap (flat_map (stood_at t u fuel (depth + 1))) told.1 ∙ stood_told fuel (depth + 1) (Some h.id) k (omega arith) told.3 in
      (λ i. stood depth (BucketItem h.id) ∷ ((if is_there u (BucketItem h.id) then [] else below i) ++ stood_told (suc fuel) depth p rest (omega arith) told.4 i))

  -- EACH NODE has the rows that the tables define
  abbrev IsLeft : {A : _} → ℕ → Option ℕ → Node A → Type 0
  IsLeft depth place node = left_at t u depth place (node_id node) ≡ left_of t u depth place node

  alone : (depth : ℕ) (p place : Option ℕ) (i : ItemId) (n : Items) → ids_of n ≡ i ∷ [] → size_of n ≤ length t → Told t p n → left_at t u depth place i ≡ (if stands_in u place i then [] else stood_of t u depth n)
  alone depth p place i n is le told =
      ap (λ (l : List ChangeData). if stands_in u place i then [] else l) (sym (append-nil (stood_at t u (length t) depth i)) ∙ ap (flat_map (stood_at t u (length t) depth)) (sym is) ∙ stood_told (length t) depth p n le told)

  left_each : {A : _} (depth : ℕ) (p place : Option ℕ) (ns : List (Node A)) → Told t p (items_of ns) → size_of (items_of ns) ≤ length t → All (IsLeft depth place) ns
  left_each depth p place [] told le = All-nil (IsLeft depth place)
  left_each depth p place (Device l ∷ ns) told le =
      All-cons (IsLeft depth place) (Device l) ns (alone depth p place (DeviceItem l.id) (device (leaf_data l) none) refl (omega arith) (told.0, tt)) (left_each depth p place ns told.1 le)
  left_each depth p place (Bucket b ∷ ns) told le =
      All-cons (IsLeft depth place) (Bucket b) ns
      (alone depth p place (BucketItem b.value.header.id) (bucket b.value.header b.value.weight b.value.capacity b.value.kids none) refl (omega arith) (told.0, told.1, told.2, told.3, tt))
      (left_each depth p place ns told.4 (omega arith))

  -- THE ITEMS OF A BUCKET have the rows that the tables define
  pub left_below : {A : _} (f : ForestData) (b depth : ℕ) (ns : List (Node A)) → Stands f t → Some (items_of ns) ≡ kids_in b (all_items f) → map node_id ns ≡ kids t b
      → flat_map (left_of t u depth (Some b)) ns ≡ left_from t u depth (Some b) (kids t b)
  unfolding left_from
  left_below f b depth ns stands e ids =
      let le = kids_no_more b (all_items f) (items_of ns) (sym e) in
      steps_by_number node_id (left_of t u depth (Some b)) (left_at t u depth (Some b)) ns
      (left_each depth (Some b) (Some b) ns (told_kids t None (all_items f) (items_of ns) b (stands_told f t stands) (sym e)) (omega (arith, le, size_le_rows None (all_items f), reordered-length stands.same.rows)))
      ∙ ap (flat_map (left_at t u depth (Some b))) ids

  pub nothing_left : (f : ForestData) (b depth : ℕ) → Stands f t → false ≡ is_there t (BucketItem b) → [] ≡ left_from t u depth (Some b) (kids t b)
  unfolding left_from
  nothing_left f b depth stands absent = sym (ap (flat_map (left_at t u depth (Some b))) (no_kids t t b stands.lawful.parents (sym absent)))

  -- THE ROOTS and the unplaced devices have the rows that the tables define
  pub left_roots : {A : _} {X : Type 0} (see : X → Node A) (f : ForestData) (ns : List (Node A)) (refs : List X) → items_of ns ≡ f.roots → IsSound f → Stands f t → IsPermutation ns (map see refs)
      → map (λ x. id_number (node_id (see x))) refs ≡ ascending (map (λ node. id_number (node_id node)) ns) → flat_map (λ x. left_of t u 0 None (see x)) refs ≡ left_from t u 0 None (map BucketItem (root_numbers t))
  unfolding left_from
  left_roots see f ns refs are sound stands same rising =
      roots_in_order see (left_of t u 0 None) (left_at t u 0 None) f t ns refs are sound stands same rising (left_each 0 None None ns (roots_told f t ns are stands) (few_roots f t ns are stands))
      ∙ sym (flat_map-map (left_at t u 0 None) BucketItem (root_numbers t))

  pub left_unplaced : {A : _} {X : Type 0} (see : X → Node A) (f : ForestData) (ns : List (Node A)) (refs : List X) → items_of ns ≡ f.unplaced → IsSound f → Stands f t → IsPermutation ns (map see refs)
      → map (λ x. id_number (node_id (see x))) refs ≡ ascending (map (λ node. id_number (node_id node)) ns) → flat_map (λ x. left_of t u 0 None (see x)) refs ≡ left_from t u 0 None (map DeviceItem (unplaced_numbers t))
  unfolding left_from
  left_unplaced see f ns refs are sound stands same rising =
      unplaced_in_order see (left_of t u 0 None) (left_at t u 0 None) f t ns refs are sound stands same rising (left_each 0 None None ns (unplaced_told f t ns are stands) (few_unplaced f t ns are sound))
      ∙ sym (flat_map-map (left_at t u 0 None) DeviceItem (unplaced_numbers t))

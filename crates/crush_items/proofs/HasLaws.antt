-- The entries that a walk of a forest finds are those of the forest's tables.
use Rattle.std.proofs.Common.{◌≡◌, ℕ, ◌+◌, ◌<◌, ◌^◌, List, [], ◌∷◌, ◌++◌, length, map, ap, sym, subst, ◌∙◌, refl, arith, true, false}
use Rattle.std.specs.Prelude.{All, None, flat_map, not, if◌then◌else◌}
use Rattle.std.proofs.lemmas.List.{length-map}
use Rattle.std.specs.List.{sum_by}
use Rattle.std.specs.List.Sorted.{IsPermutation}
use Rattle.std.proofs.lemmas.List.Sums.{sum_by-append, sum_by-cons}
use Rattle.std.proofs.lemmas.List.Sorted.{All-permutation, sum_by-IsPermutation}
use Rattle.std.proofs.lemmas.List.Elements.{All-nil, All-cons, All-head, All-tail, All-append}
use Rattle.crush_units.specs.declared.id.ItemId.{ItemId}
use Rattle.crush_units.specs.Id.{is_device_id}
use Rattle.crush_model.specs.Items.{none, device, bucket}
use Rattle.crush_model.specs.Forest.{ForestData, all_items, rows_of, IsSound}
use Rattle.crush_model.specs.Stands.{Stands}
use Rattle.crush_model.specs.Table.{Row, is_device, is_bucket, device_count, bucket_count}
use Rattle.crush_model.proofs.Reorder.{reordered-sum, sum_by-map}
use Rattle.crush_model.proofs.Stands.{stands_for_rows}
use Rattle.crush_nodes.specs.Seen.{items_of, leaf_data}
use Rattle.crush_nodes.specs.declared.node.Node.{Node}
use Rattle.crush_nodes.specs.declared.node.Node.TheVariants.{Device, Bucket}
use Rattle.crush_items.specs.Entries.{EntryData, entries_of}
use Rattle.crush_items.specs.Items.{HasEntries}
use Rattle.crush_items.proofs.EntryLaws.{IsTold, entries_told, entries-join, entries_of_rows, summed}
use Rattle.crush_items.proofs.Told.{Told}
use Rattle.crush_items.proofs.WalkLaws.{All-unmap, roots_told, unplaced_told}

-- the entries of a node that no bucket holds, and of all below it
abbrev pub top_entries : {A : _} → Node A → List EntryData
top_entries x = entries_of None None (items_of (x ∷ []))

nodes_told : {A : _} (t : List Row) (ns : List (Node A)) → Told t None (items_of ns) → All (λ node. All (IsTold t) (top_entries node)) ns
nodes_told t [] told = All-nil (λ node. All (IsTold t) (top_entries node))
nodes_told t (Device l ∷ ns) told =
    All-cons (λ node. All (IsTold t) (top_entries node)) (Device l) ns (entries_told t None None (device (leaf_data l) none) refl (told.0, tt)) (nodes_told t ns told.1)
nodes_told t (Bucket b ∷ ns) told =
    All-cons (λ node. All (IsTold t) (top_entries node)) (Bucket b) ns
    (entries_told t None None (bucket b.value.header b.value.weight b.value.capacity b.value.kids none) refl (told.0, told.1, told.2, told.3, tt)) (nodes_told t ns told.4)

All-flat_map : {X Y : Type 0} (P : Y → Type 0) (g : X → List Y) (xs : List X) → All (λ x. All P (g x)) xs → All P (flat_map g xs)
All-flat_map P g [] h = All-nil P
All-flat_map P g (x ∷ xs) h = All-append P (g x) (flat_map g xs) (All-head (λ y. All P (g y)) x xs h) (All-flat_map P g xs (All-tail (λ y. All P (g y)) x xs h))

-- in whatever order the nodes are, each of their entries is what the table says about its id (`IsTold`)
refs_told : {A : _} {X : Type 0} (see : X → Node A) (t : List Row) (ns : List (Node A)) (refs : List X) → IsPermutation ns (map see refs) → Told t None (items_of ns) → All (IsTold t) (flat_map (λ x. top_entries (see x)) refs)
refs_told see t ns refs same told =
    All-flat_map (IsTold t) (λ x. top_entries (see x)) refs
    (All-unmap (λ node. All (IsTold t) (top_entries node)) see refs (All-permutation (λ node. All (IsTold t) (top_entries node)) ns (map see refs) same (nodes_told t ns told)))

-- a sum over the entries of all nodes is the sum of the sums over the entries of each node
flat_summed : {X : Type 0} (n : ItemId → ℕ) (g : X → List EntryData) (xs : List X) → summed n (flat_map g xs) ≡ sum_by (λ x. summed n (g x)) xs
flat_summed n g [] = refl
flat_summed n g (x ∷ xs) =
    omega (arith, flat_summed n g xs, sum_by-append (λ (e : EntryData). n e.item.view.id) (g x) (flat_map g xs), sum_by-cons (λ y. summed n (g y)) x xs)

one_and_rest : {A : _} (x : Node A) (ns : List (Node A)) → entries_of None None (items_of (x ∷ ns)) ≡ top_entries x ++ entries_of None None (items_of ns)
one_and_rest (Device l) ns = entries-join None None (items_of (Device l ∷ [])) (items_of ns)
one_and_rest (Bucket b) ns = entries-join None None (items_of (Bucket b ∷ [])) (items_of ns)

nodes_summed : {A : _} (n : ItemId → ℕ) (ns : List (Node A)) → sum_by (λ node. summed n (top_entries node)) ns ≡ summed n (entries_of None None (items_of ns))
nodes_summed n [] = refl
nodes_summed n (x ∷ ns) =
    omega (
      arith,
      sum_by-cons (λ node. summed n (top_entries node)) x ns,
      nodes_summed n ns,
      sum_by-append (λ (e : EntryData). n e.item.view.id) (top_entries x) (entries_of None None (items_of ns)),
      ap (summed n) (one_and_rest x ns),
    )

refs_summed : {A : _} {X : Type 0} (see : X → Node A) (n : ItemId → ℕ) (ns : List (Node A)) (refs : List X) → IsPermutation ns (map see refs)
    → summed n (flat_map (λ x. top_entries (see x)) refs) ≡ summed n (entries_of None None (items_of ns))
refs_summed see n ns refs same =
    flat_summed n (λ x. top_entries (see x)) refs ∙ sym (sum_by-map (λ node. summed n (top_entries node)) see refs)
    ∙ sum_by-IsPermutation (λ node. summed n (top_entries node)) ns (map see refs) same ∙ nodes_summed n ns

-- THE WALK: the entries of the roots, followed by the entries of the unplaced devices
pub walked_entries : {A : _} {X : Type 0} (see : X → Node A) (f : ForestData) (t : List Row) (roots unplaced : List (Node A)) (rs us : List X) (start one two : List EntryData)
    → items_of roots ≡ f.roots → items_of unplaced ≡ f.unplaced → Stands f t → IsPermutation roots (map see rs) → IsPermutation unplaced (map see us)
    → start ≡ [] → one ≡ start ++ flat_map (λ x. top_entries (see x)) rs → two ≡ one ++ flat_map (λ x. top_entries (see x)) us → HasEntries t two
walked_entries see f t roots unplaced rs us start one two are_roots are_unplaced stands same_roots same_unplaced begun first second =
    let found : two ≡ flat_map (λ x. top_entries (see x)) rs ++ flat_map (λ x. top_entries (see x)) us =
    second ∙ ap (λ (l : List EntryData). l ++ flat_map (λ x. top_entries (see x)) us) (first ∙ ap (λ (l : List EntryData). l ++ flat_map (λ x. top_entries (see x)) rs) begun) in
    record {
      told = subst (All (IsTold t)) (sym found)
          (All-append (IsTold t) (flat_map (λ x. top_entries (see x)) rs) (flat_map (λ x. top_entries (see x)) us)
          (refs_told see t roots rs same_roots (roots_told f t roots are_roots stands)) (refs_told see t unplaced us same_unplaced (unplaced_told f t unplaced are_unplaced stands)));
      ids = λ n. omega (
        arith,
        ap (summed n) found,
        sum_by-append (λ (e : EntryData). n e.item.view.id) (flat_map (λ x. top_entries (see x)) rs) (flat_map (λ x. top_entries (see x)) us),
        refs_summed see n roots rs same_roots,
        refs_summed see n unplaced us same_unplaced,
        ap (λ i. summed n (entries_of None None i)) are_roots,
        ap (λ i. summed n (entries_of None None i)) are_unplaced,
        ap (summed n) (entries-join None None f.unplaced f.roots),
        sum_by-append (λ (e : EntryData). n e.item.view.id) (entries_of None None f.unplaced) (entries_of None None f.roots),
        entries_of_rows n None None (all_items f),
        reordered-sum (λ (r : Row). n r.id) stands.same.rows,
      );
    }

-- THE NUMBER OF ENTRIES is small, because a table has few rows
ones : {X : Type 0} (xs : List X) → sum_by (λ x. 1) xs ≡ length xs
ones [] = refl
ones (x ∷ xs) = omega (arith, ones xs, sum_by-cons (λ y. 1) x xs)

rows_counted : (t : List Row) → device_count t + bucket_count t ≡ length t
rows_counted [] = refl
rows_counted (r ∷ t) = by_kind (rows_counted t) (is_device_id r.id) refl where
  by_kind : device_count t + bucket_count t ≡ length t → (b : _) → is_device_id r.id ≡ b → device_count (r ∷ t) + bucket_count (r ∷ t) ≡ length (r ∷ t)
  by_kind rest true e = omega (arith, rest, sum_by-cons (λ x. if is_device x then 1 else 0) r t, sum_by-cons (λ x. if is_bucket x then 1 else 0) r t, ap {B = ℕ} (λ b. if b then 1 else 0) e, ap {B = ℕ} (λ b. if not b then 1 else 0) e)
  by_kind rest false e = omega (arith, rest, sum_by-cons (λ x. if is_device x then 1 else 0) r t, sum_by-cons (λ x. if is_bucket x then 1 else 0) r t, ap {B = ℕ} (λ b. if b then 1 else 0) e, ap {B = ℕ} (λ b. if not b then 1 else 0) e)

pub few_entries : (f : ForestData) (es : List EntryData) → IsSound f → ((t : List Row) → Stands f t → HasEntries t es) → length es < 2 ^ 32
few_entries f es sound has =
    let same = (has (rows_of f) (stands_for_rows f sound)).ids (λ i. 1) in
    let devices = sound.lawful.devices in
    let buckets = sound.lawful.buckets in
    omega (arith, same, ones es, ones (rows_of f), rows_counted (rows_of f), devices, buckets)

pub few_items : {X : Type 0} (see : X → EntryData) (f : ForestData) (xs : List X) → IsSound f → ((t : List Row) → Stands f t → HasEntries t (map see xs)) → length xs < 2 ^ 32
few_items see f xs sound has = omega (arith, few_entries f (map see xs) sound has, length-map xs see)

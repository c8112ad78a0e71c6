-- The sections of a map that are printed in the order of ids.
use Rattle.std.proofs.Common.{◌≡◌, ℕ, ◌≤◌, List, [], ◌∷◌, ◌++◌, length, map, refl, ap, sym, ◌∙◌, arith, append-nil, append_assoc, subst}
use Rattle.std.specs.Prelude.{flat_map, All, None, Option, Result, Ok, Err, OnOk, is_ok, if◌then◌else◌}
use Rattle.std.specs.List.Sorted.{IsPermutation, IsNonDecreasingBy}
use Rattle.std.proofs.lemmas.List.Folds.{flat_map-map}
use Rattle.std.proofs.lemmas.List.{map-append}
use Rattle.std.proofs.lemmas.List.Sorted.{All-permutation}
use Rattle.std.proofs.lemmas.List.Elements.{All-nil, All-cons, All-head, All-tail, All-append}
use Rattle.crush_units.specs.declared.id.ItemId.TheVariants.{Device as DeviceItem, Bucket as BucketItem}
use Rattle.crush_model.specs.Items.{LeafData, BucketData, Items, none, bucket, size_of}
use Rattle.crush_model.specs.Forest.{ForestData, rows_of, all_items, OnlyBuckets, IsSound}
use Rattle.crush_model.specs.ItemRows.{device_row}
use Rattle.crush_model.specs.Stands.{Stands}
use Rattle.crush_edits.specs.Setting.{SettingData}
use Rattle.crush_model.specs.Table.{Row}
use Rattle.crush_model.proofs.Reorder.{reordered-length}
use Rattle.crush_nodes.specs.Seen.{items_of, node_id}
use Rattle.crush_nodes.specs.declared.node.Node.{Node}
use Rattle.crush_nodes.specs.declared.node.Node.TheVariants.{Device, Bucket}
use Rattle.crush_print.specs.Lines.{device_line}
use Rattle.crush_print.specs.declared.weight_form.WeightForm.{WeightForm}
use Rattle.crush_print.specs.ItemsText.{id_number, own_text, buckets_among, leaves}
use Rattle.crush_print.specs.MapText.{ascending, device_number, root_number, device_numbers, root_numbers, of_row, bucket_text, bucket_numbers_at, bucket_numbers, device_lines, root_texts}
pub use Rattle.crush_items.proofs.Sorting.{numbers_seen}
use Rattle.crush_items.proofs.Sorting.{numbers_seen, sorted_is_ascending, lines_by_number, lines_in_order, lines_of_rising, ascending-reordered}
use Rattle.crush_print.proofs.ItemLines.{leaves-join}
use Rattle.crush_print.proofs.Told.{Told, IsTold, buckets_print, bucket_id, buckets_numbered, leaves_print, leaf_numbers, root_ids, root_numbers_are, root_ids-join, size_le_rows, size_of-join, told_join, stands_told}

-- mapping twice is mapping once with both functions
map-map : {X Y : Type 0} (f : Y → ℕ) (g : X → Y) (xs : List X) → map (λ x. f (g x)) xs ≡ map f (map g xs)
map-map f g [] = refl
map-map f g (x ∷ xs) = ap (λ (l : List ℕ). f (g x) ∷ l) (map-map f g xs)

-- what is true of all elements of a mapped list is true of each element after it is mapped
All-unmap : {X Y : Type 0} (P : Y → Type 0) (g : X → Y) (xs : List X) → All P (map g xs) → All (λ x. P (g x)) xs
All-unmap P g [] h = All-nil (λ x. P (g x))
All-unmap P g (x ∷ xs) h = All-cons (λ x. P (g x)) x xs (All-head P (g x) (map g xs) h) (All-unmap P g xs (All-tail P (g x) (map g xs) h))

-- if the elements behind references are sorted by their numbers, then their lines are the texts of the numbers in ascending order
pub refs_in_order : {X Y : Type 0} (see : X → Y) (number : Y → ℕ) (line : Y → List ℕ) (text : ℕ → List ℕ) (ys : List Y) (found sorted : List X) → map see found ≡ ys → IsPermutation found sorted → IsNonDecreasingBy (λ x. number (see x)) sorted
    → All (λ y. text (number y) ≡ line y) ys → flat_map (λ x. line (see x)) sorted ≡ flat_map text (ascending (map number ys))
refs_in_order see number line text ys found sorted are same up each =
    lines_in_order (λ x. number (see x)) (λ x. line (see x)) text found sorted same up (All-unmap (λ y. text (number y) ≡ line y) see found (subst (All (λ y. text (number y) ≡ line y)) (sym are) each))
    ∙ ap (λ (l : List ℕ). flat_map text (ascending l)) (map-map number see found ∙ ap (map number) are)

-- if the elements behind references have ascending numbers, then their lines are the texts of the numbers in ascending order
pub refs_that_rise : {X Y : Type 0} (see : X → Y) (number : Y → ℕ) (line : Y → List ℕ) (text : ℕ → List ℕ) (ys : List Y) (refs : List X) → IsPermutation ys (map see refs) → map (λ x. number (see x)) refs ≡ ascending (map number ys)
    → All (λ y. text (number y) ≡ line y) ys → flat_map (λ x. line (see x)) refs ≡ flat_map text (ascending (map number ys))
refs_that_rise see number line text ys refs same rising each =
    sym (flat_map-map line see refs) ∙ lines_of_rising number line text ys (map see refs) same (sym (map-map number see refs) ∙ rising) each

-- THE DEVICES: those of the forest, sorted by id, print the table's device lines
pub devices_print : {X : Type 0} (see : X → LeafData) (f : ForestData) (t : List Row) (found sorted : List X) → map see found ≡ leaves (all_items f) → IsPermutation found sorted → IsNonDecreasingBy (λ x. (see x).id) sorted → Stands f t
    → flat_map (λ x. device_line (device_row None (see x))) sorted ≡ device_lines t
unfolding device_lines device_numbers
devices_print see f t found sorted are same up s =
    let line : ℕ → List ℕ = λ d. of_row t (DeviceItem d) device_line in
    refs_in_order see (λ (d : LeafData). d.id) (λ (d : LeafData). device_line (device_row None d)) line (leaves (all_items f)) found sorted are same up (leaves_print t None (all_items f) (stands_told f t s))
    ∙ ap (λ (l : List ℕ). flat_map line (ascending l)) (sym (leaf_numbers None (all_items f)))
    ∙ ap (flat_map line) (ascending-reordered (λ (r : Row). device_number r.id) (rows_of f) t s.same.rows)

-- and the ids of the sorted devices are the numbers of the table's devices
pub devices_numbered : {X : Type 0} (see : X → LeafData) (f : ForestData) (t : List Row) (found sorted : List X) → map see found ≡ leaves (all_items f) → IsPermutation found sorted → IsNonDecreasingBy (λ x. (see x).id) sorted → Stands f t
    → map (λ x. (see x).id) sorted ≡ device_numbers t
unfolding device_numbers
devices_numbered see f t found sorted are same up s =
    sorted_is_ascending (λ x. (see x).id) found sorted same up
    ∙ ap ascending (numbers_seen (λ (d : LeafData). d.id) see found (leaves (all_items f)) are ∙ sym (leaf_numbers None (all_items f)))
    ∙ ascending-reordered (λ (r : Row). device_number r.id) (rows_of f) t s.same.rows

-- the devices that are found among the unplaced devices, and then those that are found among the roots, are all devices of the forest
pub found_all : (f : ForestData) (start one two : List LeafData) (u r : Items) → start ≡ [] → one ≡ start ++ leaves u → two ≡ one ++ leaves r → u ≡ f.unplaced → r ≡ f.roots → two ≡ leaves (all_items f)
found_all f start one two u r nothing first second is_u is_r =
    second ∙ ap (λ (l : List LeafData). l ++ leaves r) (first ∙ ap (λ (l : List LeafData). l ++ leaves u) nothing) ∙ (λ i. leaves (is_u i) ++ leaves (is_r i)) ∙ sym (leaves-join f.unplaced f.roots)

-- a section is complete after its heading and then its lines were appended
pub section_done : (old start out heading lines text : List ℕ) → start ≡ old ++ heading → out ≡ start ++ lines → lines ≡ text → out ≡ old ++ (heading ++ text)
section_done old start out heading lines text begun ended are = ended ∙ (λ i. begun i ++ are i) ∙ append_assoc old heading text

-- the same if appending the lines may fail
pub section_pushed : {X E : Type 0} (r : Result X E) (old start out heading lines text : List ℕ) → start ≡ old ++ heading → OnOk r (out ≡ start ++ lines) → lines ≡ text → OnOk r (out ≡ old ++ (heading ++ text))
section_pushed (Ok x) old start out heading lines text begun ended are = section_done old start out heading lines text begun ended are
section_pushed (Err e) old start out heading lines text begun ended are = tt

-- THE ROOTS: the numbers of the buckets of a root are the numbers that the table gives for it
abbrev pub numbers_of : Items → List ℕ
numbers_of n = map bucket_id (buckets_among n)

root_numbered : {A : _} (t : List Row) (ns : List (Node A)) → Told t None (items_of ns) → OnlyBuckets (items_of ns) → size_of (items_of ns) ≤ length t
    → All (λ node. bucket_numbers_at t (length t) (BucketItem (id_number (node_id node))) ≡ numbers_of (items_of (node ∷ []))) ns
root_numbered t [] told only le = All-nil (λ node. bucket_numbers_at t (length t) (BucketItem (id_number (node_id node))) ≡ numbers_of (items_of (node ∷ [])))
root_numbered t (Device l ∷ ns) told only le = absurd only
root_numbered t (Bucket b ∷ ns) told only le =
    All-cons (λ node. bucket_numbers_at t (length t) (BucketItem (id_number (node_id node))) ≡ numbers_of (items_of (node ∷ []))) (Bucket b) ns
    (sym (append-nil (bucket_numbers_at t (length t) (BucketItem b.value.header.id)))
    ∙ buckets_numbered t (length t) None (bucket b.value.header b.value.weight b.value.capacity b.value.kids none) (omega arith) (told.0, told.1, told.2, told.3, tt))
    (root_numbered t ns told.4 only (omega arith))

-- the numbers of nodes that are buckets are the numbers of the roots among their items
root_node_numbers : {A : _} (ns : List (Node A)) → OnlyBuckets (items_of ns) → map (λ node. id_number (node_id node)) ns ≡ root_ids (items_of ns)
root_node_numbers [] only = refl
root_node_numbers (Device l ∷ ns) only = absurd only
root_node_numbers (Bucket b ∷ ns) only = ap (λ (l : List ℕ). b.value.header.id ∷ l) (root_node_numbers ns only)

-- the table says what it has to (`Told`) about the roots
roots_told : {A : _} (f : ForestData) (t : List Row) (ns : List (Node A)) → items_of ns ≡ f.roots → Stands f t → Told t None (items_of ns)
roots_told f t ns are stands = subst (Told t None) (sym are) (told_join t None f.unplaced f.roots (stands_told f t stands))

-- and the buckets of the roots in ascending order have the numbers of the table's buckets
roots_in_order : {A : _} (f : ForestData) (t : List Row) (ns : List (Node A)) → items_of ns ≡ f.roots → IsSound f → Stands f t
    → flat_map (λ b. bucket_numbers_at t (length t) (BucketItem b)) (ascending (map (λ node. id_number (node_id node)) ns)) ≡ bucket_numbers t
unfolding bucket_numbers root_numbers
roots_in_order f t ns are sound stands =
    let numbers : ℕ → List ℕ = λ b. bucket_numbers_at t (length t) (BucketItem b) in
    ap (λ (l : List ℕ). flat_map numbers (ascending l)) (root_node_numbers ns (subst OnlyBuckets (sym are) sound.roots) ∙ ap root_ids are ∙ sym (root_ids-join f.unplaced f.roots sound.unplaced) ∙ sym (root_numbers_are (all_items f)))
    ∙ ap (flat_map numbers) (ascending-reordered root_number (rows_of f) t stands.same.rows)

-- mapping the joined lists is the same as joining the mapped lists
map-flat_map : {X Y : Type 0} (f : Y → ℕ) (g : X → List Y) (xs : List X) → map f (flat_map g xs) ≡ flat_map (λ x. map f (g x)) xs
map-flat_map f g [] = refl
map-flat_map f g (x ∷ xs) = map-append f (g x) (flat_map g xs) ∙ ap (λ (l : List ℕ). map f (g x) ++ l) (map-flat_map f g xs)

-- what is true of all elements of each list is true of all elements of the joined lists
All-flat_map : {X Y : Type 0} (P : Y → Type 0) (g : X → List Y) (xs : List X) → All (λ x. All P (g x)) xs → All P (flat_map g xs)
All-flat_map P g [] h = All-nil P
All-flat_map P g (x ∷ xs) h = All-append P (g x) (flat_map g xs) (All-head (λ y. All P (g y)) x xs h) (All-flat_map P g xs (All-tail (λ y. All P (g y)) x xs h))

-- THE BUCKETS of the roots in ascending order, each bucket after the buckets below it, have the numbers of the table's buckets
pub buckets_numbered_in_order : {A : _} {X Y : Type 0} (see : X → Node A) (look : Y → BucketData) (f : ForestData) (t : List Row) (ns : List (Node A)) (refs : List X) (found : List Y)
    → items_of ns ≡ f.roots → IsSound f → Stands f t → IsPermutation ns (map see refs) → map (λ r. id_number (node_id (see r))) refs ≡ ascending (map (λ node. id_number (node_id node)) ns)
    → map look found ≡ flat_map (λ r. buckets_among (items_of (see r ∷ []))) refs → map (λ b. bucket_id (look b)) found ≡ bucket_numbers t
buckets_numbered_in_order see look f t ns refs found are sound stands same rising below =
    numbers_seen bucket_id look found _ below
    ∙ map-flat_map bucket_id (λ r. buckets_among (items_of (see r ∷ []))) refs
    ∙ refs_that_rise see (λ n. id_number (node_id n)) (λ n. numbers_of (items_of (n ∷ []))) (λ b. bucket_numbers_at t (length t) (BucketItem b)) ns refs same rising
    (root_numbered t ns (roots_told f t ns are stands) (subst OnlyBuckets (sym are) sound.roots)
    (omega (arith, ap size_of are, size_of-join f.unplaced f.roots, size_le_rows None (all_items f), reordered-length stands.same.rows)))
    ∙ roots_in_order f t ns are sound stands

-- the text of each bucket at a node or below it is the text that the table gives
nodes_print : {A : _} (form : WeightForm) (s : SettingData) (t : List Row) (p : Option ℕ) (ns : List (Node A)) → Told t p (items_of ns) → All (λ node. All (IsTold form s t) (buckets_among (items_of (node ∷ [])))) ns
nodes_print form s t p [] told = All-nil (λ node. All (IsTold form s t) (buckets_among (items_of (node ∷ []))))
nodes_print form s t p (Device l ∷ ns) told = All-cons (λ node. All (IsTold form s t) (buckets_among (items_of (node ∷ [])))) (Device l) ns (All-nil (IsTold form s t)) (nodes_print form s t p ns told.1)
nodes_print form s t p (Bucket b ∷ ns) told = All-cons (λ node. All (IsTold form s t) (buckets_among (items_of (node ∷ [])))) (Bucket b) ns
    (buckets_print form s t p (bucket b.value.header b.value.weight b.value.capacity b.value.kids none) (told.0, told.1, told.2, told.3, tt)) (nodes_print form s t p ns told.4)

-- so the texts of the buckets are the texts of the table's buckets
pub buckets_print_in_order : {A : _} {X Y : Type 0} (see : X → Node A) (look : Y → BucketData) (form : WeightForm) (s : SettingData) (f : ForestData) (t : List Row) (ns : List (Node A)) (refs : List X) (found : List Y)
    → items_of ns ≡ f.roots → Stands f t → IsPermutation ns (map see refs) → map look found ≡ flat_map (λ r. buckets_among (items_of (see r ∷ []))) refs → map (λ b. bucket_id (look b)) found ≡ bucket_numbers t
    → flat_map (λ b. own_text form s (look b)) found ≡ root_texts form s t
unfolding root_texts
buckets_print_in_order see look form s f t ns refs found are stands same below numbered =
    let each = nodes_print form s t None ns (roots_told f t ns are stands) in
    let of_refs = All-unmap (λ node. All (IsTold form s t) (buckets_among (items_of (node ∷ [])))) see refs (All-permutation (λ node. All (IsTold form s t) (buckets_among (items_of (node ∷ [])))) ns (map see refs) same each) in
    let all : All (IsTold form s t) (map look found) = subst (All (IsTold form s t)) (sym below) (All-flat_map (IsTold form s t) (λ r. buckets_among (items_of (see r ∷ []))) refs of_refs) in
    sym (flat_map-map (own_text form s) look found) ∙ lines_by_number bucket_id (own_text form s) (bucket_text form s t) (map look found) all
    ∙ ap (flat_map (bucket_text form s t)) (sym (map-map bucket_id look found) ∙ numbered)

-- the whole text consists of its sections, one after the other; appending the last line may fail
pub map_done : {X E : Type 0} (r : Result X E) (old one two three four five out tunables devices kinds buckets rules end : List ℕ) → one ≡ old ++ tunables → two ≡ one ++ devices → three ≡ two ++ kinds → four ≡ three ++ buckets → five ≡ four ++ rules
    → out ≡ (if is_ok r then five ++ end else five) → OnOk r (out ≡ old ++ (((((tunables ++ devices) ++ kinds) ++ buckets) ++ rules) ++ end))
map_done (Ok x) old one two three four five out tunables devices kinds buckets rules end a b c d e h =
    let begun : two ≡ old ++ (tunables ++ devices) = section_done old one two tunables devices devices a b refl in
    let more : three ≡ old ++ ((tunables ++ devices) ++ kinds) = section_done old two three (tunables ++ devices) kinds kinds begun c refl in
    let most : four ≡ old ++ (((tunables ++ devices) ++ kinds) ++ buckets) = section_done old three four ((tunables ++ devices) ++ kinds) buckets buckets more d refl in
    let all : five ≡ old ++ ((((tunables ++ devices) ++ kinds) ++ buckets) ++ rules) = section_done old four five (((tunables ++ devices) ++ kinds) ++ buckets) rules rules most e refl in
    section_done old five out ((((tunables ++ devices) ++ kinds) ++ buckets) ++ rules) end end all h refl
map_done (Err x) old one two three four five out tunables devices kinds buckets rules end a b c d e h = tt

-- What a table says about the items of a forest that represents the table, and so what is printed from the table.
use Rattle.std.proofs.Common.{◌≡◌, ℕ, zero, suc, ◌+◌, ◌≤◌, List, [], ◌∷◌, ◌++◌, map, refl, ap, sym, ◌∙◌, arith}
use Rattle.std.specs.Prelude.{flat_map, All, Option, Some, None}
use Rattle.std.specs.Option.{option_map_or}
use Rattle.std.proofs.lemmas.List.Concat.{flat_map-append}
use Rattle.std.proofs.lemmas.List.Elements.{All-nil, All-cons, All-append}
use Rattle.std.proofs.lemmas.List.{map-append}
use Rattle.crush_units.specs.declared.id.ItemId.{ItemId}
use Rattle.crush_units.specs.declared.id.ItemId.TheVariants.{Device, Bucket}
use Rattle.crush_model.specs.Items.{LeafData, HeaderData, BucketData, Items, none, device, bucket, size_of}
use Rattle.crush_model.specs.ItemRows.{rows, device_row, bucket_row}
use Rattle.crush_edits.specs.Setting.{SettingData}
use Rattle.crush_model.specs.Table.{Row, row_of, kids, sum_below, item_weight}
use Rattle.crush_tree.proofs.ReadLemmas.Items.{ids_of}
use Rattle.crush_print.specs.declared.weight_form.WeightForm.{WeightForm}
use Rattle.crush_print.specs.Lines.{device_line, item_line, bucket_choice, bucket_lines}
use Rattle.crush_print.specs.ItemsText.{item_lines, own_text, buckets_among, leaves}
use Rattle.crush_print.specs.MapText.{of_row, kids_lines, bucket_text, bucket_numbers_at, device_number, kind_text}
use Rattle.crush_items.proofs.Told.{Told}
pub use Rattle.crush_items.proofs.Told.{Told, root_ids, root_numbers_are, root_ids-join, size_le_rows, size_of-join, told_join, stands_told}

-- what is printed for an item that the table has
row_prints : (t : List Row) (i : ItemId) (r : Row) (f : Row → List ℕ) → row_of t i ≡ Some r → of_row t i f ≡ f r
unfolding of_row
row_prints t i r f found = ap (λ o. option_map_or f o []) found

-- THE LINES OF ITEMS that the table gives are those of the plain items
ids_lines : (form : WeightForm) (t : List Row) (p : Option ℕ) (n : Items) → Told t p n → flat_map (λ i. of_row t i (λ (r : Row). item_line form r.name (item_weight t i r.weight))) (ids_of n) ≡ item_lines form n
ids_lines form t p none told = refl
ids_lines form t p (device d rest) told =
    ap (λ (l : List ℕ). l ++ flat_map (λ i. of_row t i (λ (r : Row). item_line form r.name (item_weight t i r.weight))) (ids_of rest)) (row_prints t (Device d.id) (device_row p d) (λ (r : Row). item_line form r.name r.weight) told.0)
    ∙ ap (λ (l : List ℕ). item_line form d.name d.weight ++ l) (ids_lines form t p rest told.1)
ids_lines form t p (bucket h w m k rest) told =
    ap (λ (l : List ℕ). l ++ flat_map (λ i. of_row t i (λ (r : Row). item_line form r.name (item_weight t i r.weight))) (ids_of rest)) (row_prints t (Bucket h.id) (bucket_row p h) (λ (r : Row). item_line form r.name (sum_below t h.id)) told.0 ∙ ap (item_line form h.name) told.2)
    ∙ ap (λ (l : List ℕ). item_line form h.name w ++ l) (ids_lines form t p rest told.4)

-- so the lines of a bucket's items that the table gives are those of its plain items
kids_print : (form : WeightForm) (t : List Row) (p : Option ℕ) (b : ℕ) (n : Items) → kids t b ≡ ids_of n → Told t p n → kids_lines form t b ≡ item_lines form n
unfolding kids_lines
kids_print form t p b n are told = ap (flat_map (λ i. of_row t i (λ (r : Row). item_line form r.name (item_weight t i r.weight)))) are ∙ ids_lines form t p n told

-- THE TEXT OF A BUCKET that the table gives is the text of the plain bucket
own_prints : (form : WeightForm) (s : SettingData) (t : List Row) (p : Option ℕ) (h : HeaderData) (w : ℕ) (k : Items) → row_of t (Bucket h.id) ≡ Some (bucket_row p h) → kids t h.id ≡ ids_of k → sum_below t h.id ≡ w → Told t (Some h.id) k → bucket_text form s t h.id ≡ bucket_lines form (kind_text s h.kind) (bucket_row None h) w (item_lines form k)
unfolding bucket_text bucket_lines bucket_choice
own_prints form s t p h w k row are sum told =
    row_prints t (Bucket h.id) (bucket_row p h) (λ (r : Row). bucket_lines form (kind_text s r.kind) r (sum_below t h.id) (kids_lines form t h.id)) row
    ∙ ap (λ n. bucket_lines form (kind_text s h.kind) (bucket_row p h) n (kids_lines form t h.id)) sum ∙ ap (bucket_lines form (kind_text s h.kind) (bucket_row p h) w) (kids_print form t (Some h.id) h.id k are told)

-- the same for each bucket among the items or below them
abbrev pub IsTold : WeightForm → SettingData → List Row → BucketData → Type 0
IsTold form s t b = bucket_text form s t b.header.id ≡ own_text form s b

pub buckets_print : (form : WeightForm) (s : SettingData) (t : List Row) (p : Option ℕ) (n : Items) → Told t p n → All (IsTold form s t) (buckets_among n)
buckets_print form s t p none told = All-nil (IsTold form s t)
buckets_print form s t p (device d rest) told = buckets_print form s t p rest told.1
buckets_print form s t p (bucket h w m k rest) told =
    let own : BucketData = record { header = h; weight = w; capacity = m; kids = k } in
    All-append (IsTold form s t) (buckets_among k ++ own ∷ []) (buckets_among rest)
    (All-append (IsTold form s t) (buckets_among k) (own ∷ []) (buckets_print form s t (Some h.id) k told.3) (All-cons (IsTold form s t) own [] (own_prints form s t p h w k told.0 told.1 told.2 told.3) (All-nil (IsTold form s t))))
    (buckets_print form s t p rest told.4)

-- THE NUMBERS OF THE BUCKETS, if the walk may go deep enough
abbrev pub bucket_id : BucketData → ℕ
bucket_id b = b.header.id

pub buckets_numbered : (t : List Row) (fuel : ℕ) (p : Option ℕ) (n : Items) → size_of n ≤ fuel → Told t p n → flat_map (bucket_numbers_at t fuel) (ids_of n) ≡ map bucket_id (buckets_among n)
buckets_numbered t fuel p none le told = refl
buckets_numbered t fuel p (device d rest) le told = buckets_numbered t fuel p rest le told.1
buckets_numbered t zero p (bucket h w m k rest) le told = absurd (omega arith)
buckets_numbered t (suc fuel) p (bucket h w m k rest) le told =
    let own : List BucketData = (record { header = h; weight = w; capacity = m; kids = k }) ∷ [] in
    let below : flat_map (bucket_numbers_at t fuel) (kids t h.id) ≡ map bucket_id (buckets_among k) = ap (flat_map (bucket_numbers_at t fuel)) told.1 ∙ buckets_numbered t fuel (Some h.id) k (omega arith) told.3 in
    let after : flat_map (bucket_numbers_at t (suc fuel)) (ids_of rest) ≡ map bucket_id (buckets_among rest) = buckets_numbered t (suc fuel) p rest (omega arith) told.4 in
    (λ i. (below i ++ h.id ∷ []) ++ after i) ∙ (λ i. sym (map-append bucket_id (buckets_among k) own) i ++ map bucket_id (buckets_among rest)) ∙ sym (map-append bucket_id (buckets_among k ++ own) (buckets_among rest))

-- THE DEVICES
same_line : (p : Option ℕ) (d : LeafData) → device_line (device_row p d) ≡ device_line (device_row None d)
unfolding device_line
same_line p d = refl

-- the line that is printed for a device is its own line, whatever its parent is
abbrev pub IsPrinted : List Row → LeafData → Type 0
IsPrinted t d = of_row t (Device d.id) device_line ≡ device_line (device_row None d)

-- this is true of all devices among the items or below them
pub leaves_print : (t : List Row) (p : Option ℕ) (n : Items) → Told t p n → All (IsPrinted t) (leaves n)
leaves_print t p none told = All-nil (IsPrinted t)
leaves_print t p (device d rest) told = All-cons (IsPrinted t) d (leaves rest) (row_prints t (Device d.id) (device_row p d) device_line told.0 ∙ same_line p d) (leaves_print t p rest told.1)
leaves_print t p (bucket h w m k rest) told = All-append (IsPrinted t) (leaves k) (leaves rest) (leaves_print t (Some h.id) k told.3) (leaves_print t p rest told.4)

-- the numbers of the devices, in the order of the rows, are the ids of the plain devices
pub leaf_numbers : (p : Option ℕ) (n : Items) → flat_map (λ (r : Row). device_number r.id) (rows p n) ≡ map (λ (d : LeafData). d.id) (leaves n)
leaf_numbers p none = refl
leaf_numbers p (device d rest) = ap (λ (l : List ℕ). d.id ∷ l) (leaf_numbers p rest)
leaf_numbers p (bucket h w m k rest) =
    flat_map-append (λ (r : Row). device_number r.id) (rows (Some h.id) k) (rows p rest) ∙ (λ i. leaf_numbers (Some h.id) k i ++ leaf_numbers p rest i) ∙ sym (map-append (λ (d : LeafData). d.id) (leaves k) (leaves rest))

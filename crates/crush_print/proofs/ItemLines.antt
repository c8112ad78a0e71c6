-- Lines of items and texts of buckets, computed along a list of nodes.
use Rattle.std.proofs.Common.{◌≡◌, ℕ, ◌+◌, ◌<◌, List, [], ◌∷◌, ◌++◌, length, get_or, take, map, ap, sym, ◌∙◌, refl, append_assoc, Result, Ok, Err}
use Rattle.std.specs.Prelude.{OnOk, codes, decimal, flat_map, is_ok, if◌then◌else◌}
use Rattle.std.proofs.lemmas.List.{append-nil, take_more}
use Rattle.std.proofs.lemmas.List.Concat.{flat_map-append}
use Rattle.std.proofs.lemmas.List.Folds.{flat_map-map}
use Rattle.crush_units.specs.declared.id.ItemId.TheVariants.{Bucket as BucketItem}
use Rattle.crush_model.specs.Items.{LeafData, BucketData, Items, none, device, bucket}
use Rattle.crush_model.specs.Forest.{join}
use Rattle.crush_nodes.specs.Seen.{items_of, leaf_data}
use Rattle.crush_nodes.specs.declared.node.Node.{Node}
use Rattle.crush_nodes.specs.declared.node.Node.TheVariants.{Device, Bucket}
use Rattle.crush_nodes.proofs.Steps.{items_of-taken}
use Rattle.crush_print.specs.declared.weight_form.WeightForm.{WeightForm}
use Rattle.crush_print.specs.Lines.{item_line, bucket_head}
use Rattle.crush_print.specs.ItemsText.{item_lines, buckets_among, leaves}
pub use Rattle.crush_items.proofs.WalkLaws.{item_no_larger}

-- the lines of two joined lists of items are the lines of the first list, followed by those of the second
pub item_lines-join : (form : WeightForm) (a b : Items) → item_lines form (join a b) ≡ item_lines form a ++ item_lines form b
item_lines-join form none b = refl
item_lines-join form (device d rest) b = ap (λ (l : List ℕ). item_line form d.name d.weight ++ l) (item_lines-join form rest b) ∙ sym (append_assoc (item_line form d.name d.weight) _ _)
item_lines-join form (bucket h w m kids rest) b = ap (λ (l : List ℕ). item_line form h.name w ++ l) (item_lines-join form rest b) ∙ sym (append_assoc (item_line form h.name w) _ _)

-- the buckets of two joined lists of items are those of the first list, followed by those of the second
pub buckets-join : (a b : Items) → buckets_among (join a b) ≡ buckets_among a ++ buckets_among b
buckets-join none b = refl
buckets-join (device d rest) b = buckets-join rest b
buckets-join (bucket h w m kids rest) b =
    let own : List BucketData = (record { header = h; weight = w; capacity = m; kids = kids }) ∷ [] in
    ap (λ (l : List BucketData). (buckets_among kids ++ own) ++ l) (buckets-join rest b) ∙ sym (append_assoc (buckets_among kids ++ own) _ _)

-- the lines of the first i + 1 nodes are the lines of the first i nodes, followed by the line of node i
pub item_lines-more : {A : _} (form : WeightForm) (ns : List (Node A)) (i : ℕ) (x : Node A) → i < length ns → x ≡ get_or ns i x
    → item_lines form (items_of (take (i + 1) ns)) ≡ item_lines form (items_of (take i ns)) ++ item_lines form (items_of (x ∷ []))
item_lines-more form ns i x lt is = ap (item_lines form) (items_of-taken ns i x lt is) ∙ item_lines-join form (items_of (take i ns)) (items_of (x ∷ []))

-- the buckets of the first i + 1 nodes are those of the first i nodes, followed by those of node i
pub buckets-more : {A : _} (ns : List (Node A)) (i : ℕ) (x : Node A) → i < length ns → x ≡ get_or ns i x
    → buckets_among (items_of (take (i + 1) ns)) ≡ buckets_among (items_of (take i ns)) ++ buckets_among (items_of (x ∷ []))
buckets-more ns i x lt is = ap buckets_among (items_of-taken ns i x lt is) ∙ buckets-join (items_of (take i ns)) (items_of (x ∷ []))

-- the devices of two joined lists of items are those of the first list, followed by those of the second
pub leaves-join : (a b : Items) → leaves (join a b) ≡ leaves a ++ leaves b
leaves-join none b = refl
leaves-join (device d rest) b = ap (λ (l : List LeafData). d ∷ l) (leaves-join rest b)
leaves-join (bucket h w m kids rest) b = ap (λ (l : List LeafData). leaves kids ++ l) (leaves-join rest b) ∙ sym (append_assoc (leaves kids) (leaves rest) (leaves b))

-- the devices of the first i + 1 nodes are those of the first i nodes, followed by those of node i
pub leaves-more : {A : _} (ns : List (Node A)) (i : ℕ) (x : Node A) → i < length ns → x ≡ get_or ns i x
    → leaves (items_of (take (i + 1) ns)) ≡ leaves (items_of (take i ns)) ++ leaves (items_of (x ∷ []))
leaves-more ns i x lt is = ap leaves (items_of-taken ns i x lt is) ∙ leaves-join (items_of (take i ns)) (items_of (x ∷ []))

-- if `first` and then `next` are appended to `old`, then the result is `old` followed by both
pub one_more : {X : Type 0} (old now new first next all : List X) → now ≡ old ++ first → new ≡ now ++ next → all ≡ first ++ next → new ≡ old ++ all
one_more old now new first next all before after is = after ∙ ap (λ l. l ++ next) before ∙ append_assoc old first next ∙ ap (λ l. old ++ l) (sym is)

-- the lines of the first i + 1 elements are the lines of the first i elements, followed by the line of element i
pub prints_more : {X Y : Type 0} (line : X → List Y) (xs : List X) (i : ℕ) (x : X) → i < length xs → x ≡ get_or xs i x → flat_map line (take (i + 1) xs) ≡ flat_map line (take i xs) ++ line x
prints_more line xs i x lt is =
    ap (flat_map line) (take_more xs i x lt ∙ ap (λ y. take i xs ++ y ∷ []) (sym is)) ∙ flat_map-append line (take i xs) (x ∷ [])
    ∙ ap (λ l. flat_map line (take i xs) ++ l) (append-nil (line x))

-- the same for elements that are mapped with `see`
pub lines_more : {X Y : Type 0} (line : Y → List ℕ) (see : X → Y) (xs : List X) (i : ℕ) (x : X) → i < length xs → x ≡ get_or xs i x
    → flat_map line (map see (take (i + 1) xs)) ≡ flat_map line (map see (take i xs)) ++ line (see x)
lines_more line see xs i x lt is =
    flat_map-map line see (take (i + 1) xs) ∙ prints_more (λ y. line (see y)) xs i x lt is ∙ ap (λ (l : List ℕ). l ++ line (see x)) (sym (flat_map-map line see (take i xs)))

-- the lines of a bucket are its five parts; appending the last part may fail
pub bucket_more : {X E : Type 0} (r : Result X E) (old one two three four five head ids choice items end : List ℕ) → one ≡ old ++ head → two ≡ one ++ ids → three ≡ two ++ choice → four ≡ three ++ items → five ≡ (if is_ok r then four ++ end else four)
    → OnOk r (five ≡ old ++ ((((head ++ ids) ++ choice) ++ items) ++ end))
bucket_more (Ok x) old one two three four five head ids choice items end a b c d e =
    one_more old four five (((head ++ ids) ++ choice) ++ items) end _ (one_more old three four ((head ++ ids) ++ choice) items _ (one_more old two three (head ++ ids) choice _ (one_more old one two head ids _ a b refl) c refl) d refl) e refl
bucket_more (Err e) old one two three four five head ids choice items end a b c d h = tt

-- the first lines of a bucket, one part after the other
pub head_more : {X E : Type 0} (r : Result X E) (old now new kind space name opens number remark : List ℕ) (id : ℕ) → now ≡ old ++ (kind ++ (space ++ (name ++ []))) → OnOk r (new ≡ now ++ (opens ++ (number ++ (remark ++ []))))
    → space ≡ codes " " → opens ≡ codes " {\n\tid -" → number ≡ decimal id → remark ≡ codes "\t\t# do not change unnecessarily\n" → OnOk r (new ≡ old ++ bucket_head kind name (BucketItem id))
unfolding bucket_head
head_more (Ok x) old now new kind space name opens number remark id before after a b c d =
    one_more old now new (kind ++ (space ++ (name ++ []))) (opens ++ (number ++ (remark ++ []))) _ before after (rw (a, b, c, d) simp (append_assoc, append-nil))
head_more (Err e) old now new kind space name opens number remark id before after a b c d = tt

-- if node i is a device, then it is appended to the devices that were found
pub found_device : {A : _} (ns : List (Node A)) (i : ℕ) (x : Node A) (l : _) (old now new : List LeafData) → i < length ns → x ≡ get_or ns i x → x ≡ Device l
    → now ≡ old ++ leaves (items_of (take i ns)) → new ≡ now ++ leaf_data l ∷ [] → new ≡ old ++ leaves (items_of (take (i + 1) ns))
found_device ns i x l old now new lt is at before after =
    after ∙ ap (λ (r : List LeafData). r ++ leaf_data l ∷ []) before ∙ append_assoc old (leaves (items_of (take i ns))) (leaf_data l ∷ [])
    ∙ ap (λ (r : List LeafData). old ++ r) (sym (leaves-more ns i x lt is ∙ ap (λ y. leaves (items_of (take i ns)) ++ leaves (items_of (y ∷ []))) at))

-- if node i is a bucket, then the devices below it are appended to the devices that were found
pub found_below : {A : _} (ns : List (Node A)) (i : ℕ) (x : Node A) (b : _) (d : BucketData) (kids : Items) (old now new : List LeafData) → i < length ns → x ≡ get_or ns i x → x ≡ Bucket b → d ≡ b.value → kids ≡ d.kids
    → now ≡ old ++ leaves (items_of (take i ns)) → new ≡ now ++ leaves kids → new ≡ old ++ leaves (items_of (take (i + 1) ns))
found_below ns i x b d kids old now new lt is at same kid_same before after =
    after ∙ ap (λ (r : List LeafData). r ++ leaves kids) before ∙ append_assoc old (leaves (items_of (take i ns))) (leaves kids)
    ∙ ap (λ (r : List LeafData). old ++ (leaves (items_of (take i ns)) ++ r)) (ap leaves (kid_same ∙ ap (λ (d : BucketData). d.kids) same) ∙ sym (append-nil (leaves b.value.kids)))
    ∙ ap (λ (r : List LeafData). old ++ r) (sym (leaves-more ns i x lt is ∙ ap (λ y. leaves (items_of (take i ns)) ++ leaves (items_of (y ∷ []))) at))

-- a bucket is appended after the buckets below it
pub found_bucket : {A : _} (x : Node A) (b : _) (d : BucketData) (kids : Items) (old now new : List BucketData) → x ≡ Bucket b → d ≡ b.value → kids ≡ d.kids → now ≡ old ++ buckets_among kids → new ≡ now ++ d ∷ []
    → new ≡ old ++ buckets_among (items_of (x ∷ []))
found_bucket x b d kids old now new at same kid_same before after =
    after ∙ ap (λ (l : List BucketData). l ++ d ∷ []) before ∙ append_assoc old (buckets_among kids) (d ∷ [])
    ∙ (λ i. old ++ (buckets_among ((kid_same ∙ ap (λ (e : BucketData). e.kids) same) i) ++ same i ∷ []))
    ∙ ap (λ (l : List BucketData). old ++ l) (sym (append-nil (buckets_among b.value.kids ++ b.value ∷ [])) ∙ ap (λ y. buckets_among (items_of (y ∷ []))) (sym at))

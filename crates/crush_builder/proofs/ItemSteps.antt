-- An item is put into the bucket that is being filled.
use Rattle.std.proofs.Common.{◌≡◌, ℕ, ◌+◌, ◌≤◌, Bool, true, false, List, [], ◌∷◌, ◌++◌, refl, ap, sym, subst, ◌∙◌, arith, ⊎_elim}
use Rattle.std.proofs.lemmas.List.Elements.{All-nil, All-cons, All-head, All-tail, All-filter, All-map, All-append, All-weaker}
use Rattle.std.specs.Prelude.{Option, Some, None, if◌then◌else◌, ◌||◌, not, All, map, filter, is_some, option_and_then}
use Rattle.crush_units.specs.declared.limits.TheConstants.{HEAVIEST_BUCKET, HEAVIEST_DEVICE}
use Rattle.crush_units.specs.declared.id.ItemId.{ItemId}
use Rattle.crush_units.specs.declared.id.ItemId.TheVariants.{Device, Bucket}
use Rattle.crush_units.specs.Id.{same_id}
use Rattle.crush_units.proofs.Ids.{same_id_refl, same_id_tells}
use Rattle.crush_model.specs.Items.{Items, none, device, bucket}
use Rattle.crush_model.specs.Law.{IsOne}
use Rattle.crush_model.specs.Same.{Same}
use Rattle.crush_model.specs.Lawful.{Lawful, IsRow, IsRowOf, is_too_heavy}
use Rattle.crush_model.specs.Table.{Row, is_device, is_device_id, is_there, row_of, parent_of, is_placed, member, above, then_up}
use Rattle.crush_model.specs.Columns.{is_under, is_part, table_without, part, as_root, without_row}
use Rattle.crush_model.specs.Forest.{ForestData}
use Rattle.crush_model.specs.ItemRows.{rows, device_row, bucket_row}
use Rattle.crush_model.specs.Stands.{Stands}
use Rattle.crush_model.specs.Stored.{weight_sum, StoresSums}
use Rattle.crush_edits.specs.Setting.{SettingData}
use Rattle.crush_edits.specs.Fits.{Fits, HasKind, IsThere}
use Rattle.crush_model.proofs.Reorder.{reordered-sym, reordered-All, reordered-count}
use Rattle.crush_model.specs.Count.{one_if}
use Rattle.crush_model.proofs.Found.{times, times-cons, Distinct, Distinct-same, is_there-times, times-is_there}
use Rattle.crush_model.proofs.Same.{Same-sym, Lawful-same, is_too_heavy-same}
use Rattle.crush_model.proofs.Stands.{same_stands}
use Rattle.crush_model.proofs.Kept.{is_there-map, Distinct-map}
use Rattle.crush_model.proofs.Climbs.{above-parent}
use Rattle.crush_model.proofs.Weighs.{All-found}
use Rattle.crush_model.proofs.Removed.{row_of-only, Lawful-only}
use Rattle.crush_model.proofs.Appended.{row_of-append}
use Rattle.crush_model.proofs.Moved.{at_parent, place, placed_last, row_id, Lawful-moved}
use Rattle.crush_model.proofs.Relocated.{under_parent, relocate, relocate_device}
use Rattle.crush_nodes.specs.Ops.{StoresUpTo}
use Rattle.crush_nodes.proofs.RowLaws.{StoresUpTo-lawful}
use Rattle.crush_builder.specs.Pending.{with_first_weight}
use Rattle.crush_map.specs.WrittenItems.{placed_row, put_below, weight_or_one, adjustment}
use Rattle.crush_builder.specs.Built.{Pending, filling, Draft, with_next_item, table_with_item}
use Rattle.crush_builder.proofs.Held.{held-put}
use Rattle.crush_builder.specs.Building.{BuilderData, IsRoot, IsPending, IsDraft, held_buckets}
use Rattle.crush_edits.proofs.Edits.{some_row}
use Rattle.crush_edits.proofs.FitLaws.{Fits-rows}

-- THE ROW of an item: what is true of each row of a table is true of the item's row
holds_of_row : (P : Row → Type 0) (t : List Row) (i : ItemId) (r : Row) → All P t → row_of t i ≡ Some r → P r
holds_of_row P [] i r a e = absurd (let no : ◌≡◌ {A = Option Row} None (Some r) = e in cc)
holds_of_row P (x ∷ t) i r a e = by_id (same_id x.id i) e (holds_of_row P t i r (All-tail P x t a)) where
  by_id : (b : Bool) → (if b then Some x else row_of t i) ≡ Some r → (row_of t i ≡ Some r → P r) → P r
  by_id true h ih = let same : x ≡ r = cc in subst P same (All-head P x t a)
  by_id false h ih = ih h

no_row : (t : List Row) (i : ItemId) → times i t ≡ 0 → filter (λ (x : Row). same_id x.id i) t ≡ []
no_row [] i h = refl
no_row (x ∷ t) i h = by_id (same_id x.id i) (sym (times-cons i x t) ∙ h) (no_row t i) where
  by_id : (b : Bool) → one_if b + times i t ≡ 0 → (times i t ≡ 0 → filter (λ (y : Row). same_id y.id i) t ≡ []) → (if b then x ∷ filter (λ (y : Row). same_id y.id i) t else filter (λ (y : Row). same_id y.id i) t) ≡ []
  by_id true n ih = absurd (omega (arith, n))
  by_id false n ih = ih (omega (arith, n))

-- the item's row is the only row with its id
pub only_row : (t : List Row) (i : ItemId) (r : Row) → times i t ≤ 1 → row_of t i ≡ Some r → filter (λ (x : Row). same_id x.id i) t ≡ r ∷ []
only_row [] i r h e = absurd (let no : ◌≡◌ {A = Option Row} None (Some r) = e in cc)
only_row (x ∷ t) i r h e = by_id (same_id x.id i) (subst (λ n. n ≤ 1) (times-cons i x t) h) e (only_row t i r) where
  by_id : (b : Bool) → one_if b + times i t ≤ 1 → (if b then Some x else row_of t i) ≡ Some r → (times i t ≤ 1 → row_of t i ≡ Some r → filter (λ (y : Row). same_id y.id i) t ≡ r ∷ [])
      → (if b then x ∷ filter (λ (y : Row). same_id y.id i) t else filter (λ (y : Row). same_id y.id i) t) ≡ r ∷ []
  by_id true n h ih = let same : x ≡ r = cc in λ k. same k ∷ no_row t i (omega (arith, n)) k
  by_id false n h ih = ih (omega (arith, n)) h

-- so the table after the step is the one that the laws of moves describe: the row is moved to the end
put_below-last : (k : ℕ) (i : ItemId) (w : ℕ) (t : List Row) (r : Row) → times i t ≤ 1 → row_of t i ≡ Some r → put_below k i w t ≡ without_row i t ++ placed_row k w r ∷ []
put_below-last k i w t r h e = ap (λ xs. without_row i t ++ map (placed_row k w) xs) (only_row t i r h e)

-- A ROOT is below nothing, so it isn't part of another item
nothing_above : (t : List Row) → Lawful t → (k : ℕ) → parent_of t (Bucket k) ≡ None → above t (Bucket k) ≡ []
nothing_above t l k h = above-parent t l (Bucket k) ∙ ap (λ o. then_up o (λ p. above t (Bucket p))) h

not_under : (t : List Row) (i : ItemId) (k : ℕ) → above t (Bucket k) ≡ [] → is_under t i (Bucket k) ≡ false
not_under t (Device d) k e = refl
not_under t (Bucket b) k e = ap (member b) e

pub is_no_part : (t : List Row) → Lawful t → (i : ItemId) (k : ℕ) → IsRoot t k → same_id (Bucket k) i ≡ false → is_part t i (Bucket k) ≡ false
is_no_part t l i k root other = λ j. other j || not_under t i k (nothing_above t l k root.root) j

-- THE KIND of the item: if a device is taken out, the rows that are taken out are rows of devices
part_id : (i : ItemId) (r : Row) → (as_root i r).id ≡ r.id
part_id i r = by_id (same_id r.id i) where
  by_id : (b : Bool) → (if b then record r { parent = None } else r).id ≡ r.id
  by_id true = refl
  by_id false = refl

same_device : (j : ItemId) (x : ℕ) → (same_id j (Device x) || false) ≡ true → is_device_id j ≡ true
same_device (Device d) x h = refl
same_device (Bucket b) x h = absurd (let no : false ≡ true = h in cc)

are_devices : (x : ℕ) (u : List Row) → All (λ (r : Row). is_device r ≡ true) (filter (λ (r : Row). same_id r.id (Device x) || false) u)
are_devices x [] = All-nil (λ (r : Row). is_device r ≡ true)
are_devices x (r ∷ u) = by_id (same_id r.id (Device x) || false) refl (are_devices x u) where
  by_id : (b : Bool) → (same_id r.id (Device x) || false) ≡ b → All (λ (y : Row). is_device y ≡ true) (filter (λ (y : Row). same_id y.id (Device x) || false) u)
      → All (λ (y : Row). is_device y ≡ true) (if b then r ∷ filter (λ (y : Row). same_id y.id (Device x) || false) u else filter (λ (y : Row). same_id y.id (Device x) || false) u)
  by_id true e ih = All-cons (λ (y : Row). is_device y ≡ true) r (filter (λ (y : Row). same_id y.id (Device x) || false) u) (same_device r.id x e) ih
  by_id false e ih = ih

part_devices : (t : List Row) (x : ℕ) → All (λ (r : Row). is_device r ≡ true) (part (Device x) t)
part_devices t x = All-map (λ (r : Row). is_device r ≡ true) (as_root (Device x)) (filter (λ (r : Row). same_id r.id (Device x) || false) t)
    (All-weaker (λ (r : Row). is_device r ≡ true) (λ (r : Row). is_device (as_root (Device x) r) ≡ true) (λ r h. ap is_device_id (part_id (Device x) r) ∙ h) (filter (λ (r : Row). same_id r.id (Device x) || false) t) (are_devices x t))

-- the item itself is among the rows that were taken out
part_there : (t : List Row) (i : ItemId) → is_there t i ≡ true → is_there (part i t) i ≡ true
part_there t i h =
    is_there-map (as_root i) (part_id i) (filter (λ (r : Row). is_part t i r.id) t) i
    ∙ ap is_some (row_of-only (is_part t i) t i ∙ (λ j. if same_id_refl i j || is_under t i i then row_of t i else None)) ∙ h

taken_there : (t : List Row) (i : ItemId) (xs : List Row) → is_there t i ≡ true → Same xs (part i t) → is_there xs i ≡ true
taken_there t i xs h same = times-is_there xs i (subst (λ n. 1 ≤ n) (sym (reordered-count (λ (r : Row). same_id r.id i) same.rows)) (is_there-times (part i t) i (part_there t i h)))

one_there : (b : Bool) (r : Row) → is_some (if b then Some r else None) ≡ true → b ≡ true
one_there true r h = refl
one_there false r h = h

-- THE MOVE: attaching the item with its weight gives the table with its row at the end
item_moved : (t : List Row) (i : ItemId) (k w : ℕ) (n : Items) (r : Row) → Lawful t → row_of t i ≡ Some r → is_part t i (Bucket k) ≡ false → IsOne n → Same (rows None n) (part i t)
    → Same (table_without i t ++ rows (Some k) (with_first_weight w n)) (without_row i t ++ placed_row k w r ∷ [])
item_moved t i k w none r l e far one whole = absurd one
item_moved t (Device x) k w (device d none) r l e far one whole =
    let dev : is_device r ≡ true = ap is_device_id (row_id (Device x) t r e) in
    let row : record r { parent = Some k; weight = w } ≡ placed_row k w r = λ j. record r { parent = Some k; weight = if sym dev j then w else r.weight } in
    subst (λ z. Same (table_without (Device x) t ++ rows (Some k) (device (record d { weight = w }) none)) (without_row (Device x) t ++ z ∷ [])) row
    (relocate_device t (Device x) (Some k) d w r l e whole far)
item_moved t (Bucket x) k w (device d none) r l e far one whole =
    let there : is_there (device_row None d ∷ []) (Bucket x) ≡ true = taken_there t (Bucket x) (device_row None d ∷ []) (ap is_some e) whole in
    absurd (let no : false ≡ true = there in cc)
item_moved t (Device x) k w (bucket h v m kids none) r l e far one whole =
    let dev = All-head (λ (y : Row). is_device y ≡ true) (bucket_row None h) (rows (Some h.id) kids ++ []) (reordered-All (λ (y : Row). is_device y ≡ true) (reordered-sym whole.rows) (part_devices t x)) in
    absurd (let no : false ≡ true = dev in cc)
item_moved t (Bucket x) k w (bucket h v m kids none) r l e far one whole =
    let buck : is_device r ≡ false = ap is_device_id (row_id (Bucket x) t r e) in
    let row : record r { parent = Some k } ≡ placed_row k w r = λ j. record r { parent = Some k; weight = if sym buck j then w else r.weight } in
    subst (λ z. Same (table_without (Bucket x) t ++ rows (Some k) (bucket h v m kids none)) (without_row (Bucket x) t ++ z ∷ [])) row
    (relocate t (Bucket x) (Some k) (bucket h v m kids none) r l e one whole far)
item_moved t i k w (device d (device f rest)) r l e far one whole = absurd one
item_moved t i k w (device d (bucket h v m kids rest)) r l e far one whole = absurd one
item_moved t i k w (bucket h v m kids (device f rest)) r l e far one whole = absurd one
item_moved t i k w (bucket h v m kids (bucket g u o more rest)) r l e far one whole = absurd one

pub item_same : (t : List Row) (i : ItemId) (k w : ℕ) (n : Items) → Lawful t → is_there t i ≡ true → is_part t i (Bucket k) ≡ false → IsOne n → Same (rows None n) (part i t)
    → Same (table_without i t ++ rows (Some k) (with_first_weight w n)) (put_below k i w t)
item_same t i k w n l there far one whole =
    let r = some_row t i there in
    subst (Same (table_without i t ++ rows (Some k) (with_first_weight w n))) (sym (put_below-last k i w t r.0 (l.ids i) r.1)) (item_moved t i k w n r.0 l r.1 far one whole)

-- the weight that the item has in the bucket: w for a device, and its sum for a bucket
pub weight_to_come : (t : List Row) (i : ItemId) (w : ℕ) (n : Items) → is_there t i ≡ true → IsOne n → Same (rows None n) (part i t) → weight_sum (with_first_weight w n) ≡ (if is_device_id i then w else weight_sum n)
weight_to_come t i w none there one whole = absurd one
weight_to_come t (Device x) w (device d none) there one whole = omega arith
weight_to_come t (Bucket x) w (device d none) there one whole = absurd (let no : false ≡ true = taken_there t (Bucket x) (device_row None d ∷ []) there whole in cc)
weight_to_come t (Device x) w (bucket h v m kids none) there one whole =
    let dev = All-head (λ (y : Row). is_device y ≡ true) (bucket_row None h) (rows (Some h.id) kids ++ []) (reordered-All (λ (y : Row). is_device y ≡ true) (reordered-sym whole.rows) (part_devices t x)) in
    absurd (let no : false ≡ true = dev in cc)
weight_to_come t (Bucket x) w (bucket h v m kids none) there one whole = refl
weight_to_come t i w (device d (device f rest)) there one whole = absurd one
weight_to_come t i w (device d (bucket h v m kids rest)) there one whole = absurd one
weight_to_come t i w (bucket h v m kids (device f rest)) there one whole = absurd one
weight_to_come t i w (bucket h v m kids (bucket g u o more rest)) there one whole = absurd one

-- giving a device its weight doesn't change which sums are stored, so they are still right
pub weighted_sums : (w : ℕ) (n : Items) → StoresSums n → StoresSums (with_first_weight w n)
weighted_sums w none s = s
weighted_sums w (device d rest) s = s
weighted_sums w (bucket h v m kids rest) s = s

-- THE TABLE AFTER THE STEP IS LAWFUL if it isn't too heavy
placed_form : (i : ItemId) (k w : ℕ) (r : Row) → (is_device_id i ≡ true → w ≤ HEAVIEST_DEVICE) → r.id ≡ i → IsRowOf i r → IsRowOf i (placed_row k w r)
placed_form (Device d) k w r h e form = record {
  id = form.id;
  kind = form.kind;
  light = subst (λ b. (if b then w else r.weight) ≤ HEAVIEST_DEVICE) (sym (ap is_device_id e)) (h refl);
  unplaced = λ p. absurd (let no : ◌≡◌ {A = Option ℕ} (Some k) None = p in cc);
  alg = form.alg;
  class_ids = form.class_ids;
  class = form.class;
}
placed_form (Bucket b) k w r h e form = record {
  some = form.some;
  most = form.most;
  kind_some = form.kind_some;
  kind_most = form.kind_most;
  weight = (λ j. if ap is_device_id e j then w else r.weight) ∙ form.weight;
  class = form.class;
  alg = form.alg;
  class_ids = form.class_ids;
  few = form.few;
  classes = form.classes;
}

pub item_lawful : (t : List Row) (i : ItemId) (k w : ℕ) → Lawful t → is_there t i ≡ true → is_there t (Bucket k) ≡ true → is_part t i (Bucket k) ≡ false → (is_device_id i ≡ true → w ≤ HEAVIEST_DEVICE) → is_too_heavy (put_below k i w t) ≡ false → Lawful (put_below k i w t)
item_lawful t i k w l there stands far h light =
    let r = some_row t i there in
    let put = put_below-last k i w t r.0 (l.ids i) r.1 in
    let row : IsRow r.0 = holds_of_row IsRow t i r.0 l.rows r.1 in
    subst Lawful (sym put) (Lawful-moved t i k (if is_device r.0 then w else r.0.weight) r.0 l r.1 stands far (record { name = row.name; form = placed_form r.0.id k w r.0 (λ d. h (sym (ap is_device_id (row_id i t r.0 r.1)) ∙ d)) refl row.form }) (ap is_too_heavy (sym put) ∙ light))

-- the ids are still distinct if the item's row stays at its old position and gets the new parent and weight
placed_id : (i : ItemId) (p : Option ℕ) (w : ℕ) (r : Row) → (place i p w r).id ≡ r.id
placed_id i p w r = by_id (same_id r.id i) where
  by_id : (b : Bool) → (if b then at_parent p w r else r).id ≡ r.id
  by_id true = refl
  by_id false = refl

pub item_distinct : (t : List Row) (i : ItemId) (k w : ℕ) → Lawful t → is_there t i ≡ true → Distinct (put_below k i w t)
item_distinct t i k w l there =
    let r = some_row t i there in
    let v : ℕ = if is_device r.0 then w else r.0.weight in
    subst Distinct (sym (put_below-last k i w t r.0 (l.ids i) r.1))
    (Distinct-same (placed_last i (Some k) v t r.0 (l.ids i) r.1) (Distinct-map (place i (Some k) v) (placed_id i (Some k) v) t l.ids))

-- testing the weights of u is the same as testing those of the table after the step, because u is that table in another order
pub item_heavy : (t u : List Row) (i : ItemId) (k w : ℕ) → Lawful t → is_there t i ≡ true → Same u (put_below k i w t) → is_too_heavy u ≡ is_too_heavy (put_below k i w t)
item_heavy t u i k w l there same = sym (is_too_heavy-same (put_below k i w t) u (reordered-sym same.rows) (item_distinct t i k w l there))

-- THE BUCKET that is being filled is a root. It is still a root when the item is taken out, and when the item is put into it
pub open_root : (s : SettingData) (t : List Row) (p : Pending) (k : ℕ) → p ≡ filling k → IsPending s t p → IsRoot t k
open_root s t p k e h = subst (IsPending s t) e h

root_row : (t u : List Row) (k : ℕ) → row_of u (Bucket k) ≡ row_of t (Bucket k) → IsRoot t k → IsRoot u k
root_row t u k e root = record { there = ap is_some e ∙ root.there; root = ap (option_and_then (λ (r : Row). r.parent)) e ∙ root.root }

pub root_without : (t : List Row) (i : ItemId) (k : ℕ) → IsRoot t k → is_part t i (Bucket k) ≡ false → IsRoot (table_without i t) k
root_without t i k root far = root_row t (table_without i t) k (row_of-only (λ j. not (is_part t i j)) t (Bucket k) ∙ (λ j. if not (far j) then row_of t (Bucket k) else None)) root

pub root_put : (t : List Row) (i : ItemId) (k w : ℕ) → IsRoot t k → same_id (Bucket k) i ≡ false → IsRoot (put_below k i w t) k
root_put t i k w root other =
    let keeps : row_of (without_row i t) (Bucket k) ≡ row_of t (Bucket k) = row_of-only (λ j. not (same_id j i)) t (Bucket k) ∙ (λ j. if not (other j) then row_of t (Bucket k) else None) in
    let there : is_there (without_row i t) (Bucket k) ≡ true = ap is_some keeps ∙ root.there in
    let last : List Row = map (placed_row k w) (filter (λ (r : Row). same_id r.id i) t) in
    root_row t (put_below k i w t) k (row_of-append (without_row i t) last (Bucket k) ∙ (λ j. if there j then row_of (without_row i t) (Bucket k) else row_of last (Bucket k)) ∙ keeps) root

-- each bucket of the table is still in the table after the step
put_there : (t : List Row) (i : ItemId) (k w : ℕ) → Lawful t → is_there t i ≡ true → (b : ℕ) → IsThere t b → IsThere (put_below k i w t) b
put_there t i k w l there b h =
    let r = some_row t i there in
    let v : ℕ = if is_device r.0 then w else r.0.weight in
    let placed : is_there (map (place i (Some k) v) t) (Bucket b) ≡ true = is_there-map (place i (Some k) v) (placed_id i (Some k) v) t (Bucket b) ∙ h in
    subst (λ u. IsThere u b) (sym (put_below-last k i w t r.0 (l.ids i) r.1))
    (times-is_there (without_row i t ++ placed_row k w r.0 ∷ []) (Bucket b)
    (subst (λ n. 1 ≤ n) (reordered-count (λ (x : Row). same_id x.id (Bucket b)) (placed_last i (Some k) v t r.0 (l.ids i) r.1)) (is_there-times (map (place i (Some k) v) t) (Bucket b) placed)))

pub put_fits : (s : SettingData) (t : List Row) (i : ItemId) (k w : ℕ) → Lawful t → is_there t i ≡ true → Fits s t → Fits s (put_below k i w t)
put_fits s t i k w l there f = Fits-rows s t (put_below k i w t) f
    (All-append (HasKind s) (without_row i t) (map (placed_row k w) (filter (λ (r : Row). same_id r.id i) t))
    (All-filter (λ (r : Row). not (same_id r.id i)) (HasKind s) t f.types)
    (All-map (HasKind s) (placed_row k w) (filter (λ (r : Row). same_id r.id i) t) (All-filter (λ (r : Row). same_id r.id i) (HasKind s) t f.types)))
    (put_there t i k w l there)

has_no_parent : (o : Option ℕ) → is_some o ≡ false → o ≡ None
has_no_parent None h = refl
has_no_parent (Some p) h = absurd (let no : true ≡ false = h in cc)

-- after the step too, the number of adjusted weights is at most the number of held buckets
put_held : (t : List Row) (i : ItemId) (k n : ℕ) (w : Option ℕ) → Lawful t → is_there t i ≡ true → is_placed t i ≡ false → n ≤ held_buckets t → n + adjustment t i w ≤ held_buckets (put_below k i (weight_or_one w) t)
put_held t i k n w l there free h =
    let r = some_row t i there in
    subst (λ u. n + adjustment t i w ≤ held_buckets u) (sym (put_below-last k i (weight_or_one w) t r.0 (l.ids i) r.1)) (held-put t i k (weight_or_one w) n w r.0 l (has_no_parent (parent_of t i) free) r.1 h)

step_at : (b : BuilderData) (h : ForestData) (s : SettingData) (t : List Row) (a : ℕ) (i : ItemId) (k : ℕ) (w : Option ℕ) → IsDraft b (record { setting = s; table = t; pending = filling k; adjusted = a }) → is_there t i ≡ true → is_placed t i ≡ false → same_id (Bucket k) i ≡ false
    → Stands h (put_below k i (weight_or_one w) t) → (more : ℕ) → more ≡ adjustment t i w → IsDraft (record b { forest = h; adjusted = b.adjusted + more }) (with_next_item (record { setting = s; table = t; pending = filling k; adjusted = a }) i w)
step_at b h s t a i k w at there free other st more is = record {
  setting = at.setting;
  pending = at.pending;
  adjusted = (λ j. at.adjusted j + is j);
  few = put_held t i k a w at.stands.lawful there free at.few;
  stands = st;
  fits = put_fits s t i k (weight_or_one w) at.stands.lawful there at.fits;
  part = root_put t i k (weight_or_one w) at.part other;
}

-- the table of the draft after the step, if bucket k is being filled
pub put_table : (d : Draft) (i : ItemId) (k w : ℕ) → d.pending ≡ filling k → table_with_item d.pending i w d.table ≡ put_below k i w d.table
put_table d i k w e = ap (λ (p : Pending). table_with_item p i w d.table) e

-- THE STEP: the builder represents the draft with the item at the end of the bucket
pub item_step : (b : BuilderData) (h : ForestData) (d : Draft) (i : ItemId) (k : ℕ) (w : Option ℕ) (n : Items) → IsDraft b d → b.pending ≡ filling k → is_there d.table i ≡ true → is_placed d.table i ≡ false → same_id (Bucket k) i ≡ false → IsOne n → Same (rows None n) (part i d.table)
    → Stands h (table_without i d.table ++ rows (Some k) (with_first_weight (weight_or_one w) n)) → (more : ℕ) → more ≡ adjustment d.table i w → IsDraft (record b { forest = h; adjusted = b.adjusted + more }) (with_next_item d i w)
item_step b h d i k w n at e there free other one whole st more is =
    let p : d.pending ≡ filling k = sym at.pending ∙ e in
    let v : ℕ = weight_or_one w in
    let root = open_root d.setting d.table d.pending k p at.part in
    let far = is_no_part d.table at.stands.lawful i k root other in
    let put : Stands h (put_below k i v d.table) = same_stands h (table_without i d.table ++ rows (Some k) (with_first_weight v n)) (put_below k i v d.table) (item_same d.table i k v n at.stands.lawful there far one whole) st in
    subst (λ (x : Pending). IsDraft (record b { forest = h; adjusted = b.adjusted + more }) (with_next_item (record { setting = d.setting; table = d.table; pending = x; adjusted = d.adjusted }) i w)) (sym p)
    (step_at b h d.setting d.table d.adjusted i k w (subst (λ (x : Pending). IsDraft b (record { setting = d.setting; table = d.table; pending = x; adjusted = d.adjusted })) p at) there free other put more is)

-- the table with the item in the bucket is lawful
pub put_lawful : (t : List Row) (i : ItemId) (k w : ℕ) (n : Items) → Lawful t → is_there t i ≡ true → IsRoot t k → same_id (Bucket k) i ≡ false → IsOne n → Same (rows None n) (part i t)
    → (is_device_id i ≡ true → w ≤ HEAVIEST_DEVICE) → is_too_heavy (put_below k i w t) ≡ false → Lawful (table_without i t ++ rows (Some k) (with_first_weight w n))
put_lawful t i k w n l there root other one whole h light =
    let far = is_no_part t l i k root other in
    let m : Items = with_first_weight w n in
    Lawful-same (put_below k i w t) (table_without i t ++ rows (Some k) m) (Same-sym (table_without i t ++ rows (Some k) m) (put_below k i w t) (item_same t i k w n l there far one whole)) (item_lawful t i k w l there root.there far h light)

-- THE ITEM THAT WAS TAKEN OUT is lawful by itself, so its sums are in range
as_it_was : (t : List Row) (i : ItemId) → Lawful t → parent_of t i ≡ None → All (λ (r : Row). as_root i r ≡ r) t
as_it_was t i l root = All-weaker (λ (r : Row). row_of t r.id ≡ Some r) (λ (r : Row). as_root i r ≡ r) each t (All-found t l.ids) where
  each : (r : Row) → row_of t r.id ≡ Some r → as_root i r ≡ r
  each r e = ⊎_elim
      (λ p. let none : r.parent ≡ None = ap (option_and_then (λ (x : Row). x.parent)) (sym (sym (ap (row_of t) p.1) ∙ e)) ∙ root in
      ap (λ b. if b then record r { parent = None } else r) p.0 ∙ (λ k. record r { parent = sym none k }))
      (λ p. ap (λ b. if b then record r { parent = None } else r) p.0)
      (same_id_tells r.id i)

map_same : (f : Row → Row) (xs : List Row) → All (λ (r : Row). f r ≡ r) xs → map f xs ≡ xs
map_same f [] a = refl
map_same f (x ∷ xs) a = λ k. All-head (λ (r : Row). f r ≡ r) x xs a k ∷ map_same f xs (All-tail (λ (r : Row). f r ≡ r) x xs a) k

part_closed : (t : List Row) (i : ItemId) → Lawful t → parent_of t i ≡ None → (j : ItemId) (p : ℕ) → is_part t i j ≡ true → parent_of t j ≡ Some p → is_part t i (Bucket p) ≡ true
part_closed t i l root j p h e = ⊎_elim
    (λ q. absurd (let no : ◌≡◌ {A = Option ℕ} None (Some p) = sym root ∙ ap (parent_of t) (sym q.1) ∙ e in cc))
    (λ q. let under : is_under t i j ≡ true = sym (ap (λ b. b || is_under t i j) q.0) ∙ h in sym (under_parent t l i j p e) ∙ under)
    (same_id_tells j i)

part_lawful : (t : List Row) (i : ItemId) → Lawful t → parent_of t i ≡ None → Lawful (part i t)
part_lawful t i l root =
    subst Lawful (sym (map_same (as_root i) (filter (λ (r : Row). is_part t i r.id) t) (All-filter (λ (r : Row). is_part t i r.id) (λ (r : Row). as_root i r ≡ r) t (as_it_was t i l root))))
    (Lawful-only (is_part t i) t (part_closed t i l root) l)

weighted_small : (w : ℕ) (n : Items) → StoresUpTo HEAVIEST_BUCKET n → StoresUpTo HEAVIEST_BUCKET (with_first_weight w n)
weighted_small w none s = s
weighted_small w (device d rest) s = s
weighted_small w (bucket h v m kids rest) s = s

pub item_small : (t : List Row) (i : ItemId) (w : ℕ) (n : Items) → Lawful t → is_placed t i ≡ false → Same (rows None n) (part i t) → StoresSums n → StoresUpTo HEAVIEST_BUCKET (with_first_weight w n)
item_small t i w n l free whole sums =
    weighted_small w n (StoresUpTo-lawful n sums (Lawful-same (part i t) (rows None n) (Same-sym (rows None n) (part i t) whole) (part_lawful t i l (has_no_parent (parent_of t i) free))))

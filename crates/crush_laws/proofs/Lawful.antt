-- Proves that after a line without a fault, the table and the setting are lawful.
use Rattle.std.proofs.Common.{◌≡◌, ℕ, ◌<◌, ◌≤◌, Bool, true, false, List, [], ◌∷◌, ◌++◌, Option, Some, None, refl, sym, ap, subst, ◌∙◌, arith}
use Rattle.std.proofs.lemmas.Bool.{eq-eqb, or_parts, or_right}
use Rattle.std.proofs.lemmas.List.Elements.{All-head, All-tail}
use Rattle.std.specs.Prelude.{◌==◌, bytes_eq, map, filter, find, is_some, unwrap_or, option_and_then, All, IfSome, if◌then◌else◌}
use Rattle.std.specs.List.{list_any}
use Rattle.std.specs.Option.{option_map}
use Rattle.crush_units.specs.declared.id.ItemId.{ItemId}
use Rattle.crush_units.specs.declared.id.ItemId.TheVariants.{Device, Bucket}
use Rattle.crush_units.specs.Id.{same_id}
use Rattle.crush_units.specs.Name.{IsName}
use Rattle.crush_units.proofs.Ids.{same_id_refl, same_id_equal}
use Rattle.crush_units.specs.declared.limits.TheConstants.{HEAVIEST_DEVICE, LARGEST_TUNABLE, LAST_DEVICE_ID, LAST_TYPE}
use Rattle.crush_model.specs.Table.{Row, is_device, is_device_id, row_of, id_named, is_there, member, used_ids}
use Rattle.crush_model.specs.Columns.{is_part, without_row}
use Rattle.crush_model.specs.Lawful.{Lawful, is_too_heavy}
use Rattle.crush_edits.specs.Setting.{KindData}
use Rattle.crush_edits.specs.Fits.{IsKind, Fits, is_reserved}
use Rattle.crush_model.proofs.Appended.{row_of-append, unused_fresh}
use Rattle.crush_map.specs.WrittenItems.{placed_row, put_below, weight_or_one}
use Rattle.crush_builder.specs.Built.{Draft, Pending, nothing, begun, numbered, filling, with_kind, with_device, with_tunable, table_with_item, with_next_item}
use Rattle.crush_builder.specs.Building.{IsRoot, is_open, has_name, closed_item, item_named, has_kind_number, has_kind_name, has_tunable, is_full_of_devices, is_full_of_kinds, is_full_of_tunables}
use Rattle.crush_builder.proofs.KindSteps.{Fits-with_kind}
use Rattle.crush_builder.proofs.TunableSteps.{Fits-with_tunable}
use Rattle.crush_apply.proofs.Found.{there_by_name}
use Rattle.crush_builder.proofs.RowSteps.{new_device, device_lawful}
use Rattle.crush_edits.proofs.FitLaws.{Fits-push}
use Rattle.crush_builder.proofs.ItemSteps.{is_no_part, item_lawful, put_fits, root_put}
use Rattle.crush_text.specs.Document.{IsMap}

-- a map with one more tunable is lawful
pub map_with_tunable : (d : Draft) (x : List ℕ) (v : ℕ) → IsMap d → IsName x → v ≤ LARGEST_TUNABLE → has_tunable d.setting x ≡ false → is_full_of_tunables d ≡ false → IsMap (with_tunable d x v)
map_with_tunable d x v m form most free few = record {
  lawful = m.lawful;
  fits = Fits-with_tunable d.setting d.table (record { name = x; value = v }) m.fits (record { name = form; value = most }) free few;
}

-- a map with one more type is lawful
pub map_with_kind : (d : Draft) (n : ℕ) (x : List ℕ) → IsMap d → n ≤ LAST_TYPE → IsName x → (0 < n → is_reserved x ≡ false) → has_kind_number d.setting n ≡ false → has_kind_name d.setting x ≡ false → is_full_of_kinds d ≡ false → IsMap (with_kind d n x)
map_with_kind d n x m most form free number name few = record {
  lawful = m.lawful;
  fits = Fits-with_kind d.setting d.table (record { number = n; name = x }) m.fits (record { number = most; name = form; free = free }) number name few;
}

-- a map with one more device is lawful
pub map_with_device : (d : Draft) (n : ℕ) (x : List ℕ) (class : Option (List ℕ)) → IsMap d → n ≤ LAST_DEVICE_ID → IsName x → IfSome class IsName → is_there d.table (Device n) ≡ false → has_name d x ≡ false → is_full_of_devices d ≡ false → IsMap (with_device d n x class)
map_with_device d n x class m most form kind number name few = record {
  lawful = device_lawful d.table n x class m.lawful (omega arith) form kind number ((or_parts _ _ name).0) few;
  fits = Fits-push d.setting d.table (new_device n x class) m.fits (λ some. absurd (omega (arith, some)));
}

-- a number is the number of one of the types
pub record IsTypeOf (kinds : List KindData) (n : ℕ) : Type 0 where
  pub there : list_any (λ (x : KindData). x.number == n) kinds ≡ true
  pub most : n ≤ LAST_TYPE

-- the number that is found for a type's name is the number of one of the types
pub kind_there : (kinds : List KindData) (k : List ℕ) (n : ℕ) → All IsKind kinds → unwrap_or (option_map (λ (x : KindData). x.number) (find (λ (x : KindData). bytes_eq x.name k) kinds)) 0 ≡ n → 0 < n → IsTypeOf kinds n
kind_there [] k n all e some = absurd (omega arith)
kind_there (x ∷ kinds) k n all e some = by_test (bytes_eq x.name k) e (λ r. kind_there kinds k n (All-tail IsKind x kinds all) r some)
  where
    by_test : (b : Bool) → unwrap_or (option_map (λ (y : KindData). y.number) (if b then Some x else find (λ (y : KindData). bytes_eq y.name k) kinds)) 0 ≡ n
        → (unwrap_or (option_map (λ (y : KindData). y.number) (find (λ (y : KindData). bytes_eq y.name k) kinds)) 0 ≡ n → IsTypeOf kinds n) → IsTypeOf (x ∷ kinds) n
    by_test true e ih = record { there = rw (eq-eqb x.number n e) refl; most = subst (λ (m : ℕ). m ≤ LAST_TYPE) e (All-head IsKind x kinds all).number }
    by_test false e ih = let r = ih e in record { there = or_right (x.number == n) _ r.there; most = r.most }

-- a bucket's row without a parent that is appended to the table is a root
pub made_root : (t : List Row) (r : Row) (b : ℕ) → r.id ≡ Bucket b → r.parent ≡ None → member b (used_ids t) ≡ false → IsRoot (t ++ r ∷ []) b
made_root t r b is none free =
    let last : row_of (r ∷ []) (Bucket b) ≡ Some r = rw (ap (λ (i : ItemId). same_id i (Bucket b)) is ∙ same_id_refl (Bucket b)) refl in
    let found : row_of (t ++ r ∷ []) (Bucket b) ≡ Some r = row_of-append t (r ∷ []) (Bucket b) ∙ rw (unused_fresh t b free) last in
    record { there = ap is_some found; root = ap (option_and_then (λ (x : Row). x.parent)) found ∙ none }

-- what an item must meet so that the open bucket can list it
pub record Listable (d : Draft) (i : ItemId) : Type 0 where
  pub there : is_there d.table i ≡ true
  pub closed : is_open d.pending i ≡ false

-- an item that is found by its name meets this
pub listable : (d : Draft) (n : List ℕ) (i : ItemId) → item_named d n ≡ Some i → Listable d i
listable d n i e = by_name (id_named d.table n) refl e
  where
    by_open : (j : ItemId) (b : Bool) → id_named d.table n ≡ Some j → is_open d.pending j ≡ b → (if b then None else Some j) ≡ Some i → Listable d i
    by_open j true is o e = absurd (let no : (let x : Option ItemId = None in x) ≡ Some i = e in cc)
    by_open j false is o e = let k : j ≡ i = cc in record { there = there_by_name d.table n i (is ∙ ap (λ (l : ItemId). Some l) k); closed = ap (is_open d.pending) (sym k) ∙ o }

    by_name : (o : Option ItemId) → id_named d.table n ≡ o → option_and_then (closed_item d.pending) o ≡ Some i → Listable d i
    by_name None is e = absurd (let no : (let x : Option ItemId = None in x) ≡ Some i = e in cc)
    by_name (Some j) is e = by_open j (is_open d.pending j) is refl e

-- the written weight of a bucket doesn't change the rows
bucket_rows : (b : ℕ) (x w v : ℕ) (t : List Row) → map (placed_row b w) (filter (λ (r : Row). same_id r.id (Bucket x)) t) ≡ map (placed_row b v) (filter (λ (r : Row). same_id r.id (Bucket x)) t)
bucket_rows b x w v [] = refl
bucket_rows b x w v (r ∷ t) = by_id (same_id r.id (Bucket x)) refl (bucket_rows b x w v t)
  where
    one : r.id ≡ Bucket x → placed_row b w r ≡ placed_row b v r
    one e = let no : is_device r ≡ false = ap is_device_id e in rw no refl

    by_id : (c : Bool) → same_id r.id (Bucket x) ≡ c → map (placed_row b w) (filter (λ (y : Row). same_id y.id (Bucket x)) t) ≡ map (placed_row b v) (filter (λ (y : Row). same_id y.id (Bucket x)) t)
        → map (placed_row b w) (if c then r ∷ filter (λ (y : Row). same_id y.id (Bucket x)) t else filter (λ (y : Row). same_id y.id (Bucket x)) t) ≡ map (placed_row b v) (if c then r ∷ filter (λ (y : Row). same_id y.id (Bucket x)) t else filter (λ (y : Row). same_id y.id (Bucket x)) t)
    by_id true e ih = λ k. one (same_id_equal r.id (Bucket x) e) k ∷ ih k
    by_id false e ih = ih

-- the written weight of a bucket doesn't change the table
bucket_table : (p : Pending) (x w v : ℕ) (t : List Row) → table_with_item p (Bucket x) w t ≡ table_with_item p (Bucket x) v t
bucket_table nothing x w v t = refl
bucket_table (begun k n) x w v t = refl
bucket_table (numbered k n b cs) x w v t = refl
bucket_table (filling b) x w v t = ap (λ (l : List Row). without_row (Bucket x) t ++ l) (bucket_rows b x w v t)

-- a device's weight must be in its range, and a bucket's weight may be any number
abbrev pub IsLight : ItemId → ℕ → Type 0
IsLight (Device n) w = w ≤ HEAVIEST_DEVICE
IsLight (Bucket x) w = Unit {0}

-- the table in which the item has got its parent is lawful
lawful_below : (t : List Row) (i : ItemId) (b w : ℕ) → Lawful t → IsLight i w → is_there t i ≡ true → is_there t (Bucket b) ≡ true → is_part t i (Bucket b) ≡ false → is_too_heavy (put_below b i w t) ≡ false → Lawful (put_below b i w t)
lawful_below t (Device n) b w l small there stands far h = item_lawful t (Device n) b w l there stands far (λ _. small) h
lawful_below t (Bucket x) b w l small there stands far h =
    let same : put_below b (Bucket x) 0 t ≡ put_below b (Bucket x) w t = bucket_table (filling b) x 0 w t in
    subst Lawful same (item_lawful t (Bucket x) b 0 l there stands far (λ _. omega arith) (ap is_too_heavy same ∙ h))

-- the map with one more item in the open bucket
pub record ItemMade (d : Draft) (i : ItemId) (w : Option ℕ) (b : ℕ) : Type 0 where
  pub map : IsMap (with_next_item d i w)
  pub root : IsRoot (with_next_item d i w).table b

-- the line of an item leads to this map
pub map_with_item : (d : Draft) (x : List ℕ) (i : ItemId) (w : Option ℕ) (b : ℕ) → IsMap d → d.pending ≡ filling b → IsRoot d.table b → item_named d x ≡ Some i → IsLight i (weight_or_one w) → is_too_heavy (with_next_item d i w).table ≡ false → ItemMade d i w b
map_with_item d x i w b m p root named weight light =
    let l = listable d x i named in
    let v : ℕ = weight_or_one w in
    let is : (with_next_item d i w).table ≡ put_below b i v d.table = ap (λ (q : Pending). table_with_item q i v d.table) p in
    let other : same_id (Bucket b) i ≡ false = ap (λ (q : Pending). is_open q i) (sym p) ∙ l.closed in
    let far = is_no_part d.table m.lawful i b root other in
    let h : is_too_heavy (put_below b i v d.table) ≡ false = ap is_too_heavy (sym is) ∙ light in
    record {
      map = record {
        lawful = subst Lawful (sym is) (lawful_below d.table i b v m.lawful weight l.there root.there far h);
        fits = subst (Fits d.setting) (sym is) (put_fits d.setting d.table i b v m.lawful l.there m.fits);
      };
      root = subst (λ (t : List Row). IsRoot t b) (sym is) (root_put d.table i b v root other);
    }

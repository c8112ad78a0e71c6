-- An edit that isn't refused leaves a lawful table that the setting fits.
use Rattle.std.proofs.Common.{◌≡◌, ℕ, ◌≤◌, Bool, true, false, List, [], ◌∷◌, length, refl, ap, sym, subst, ◌∙◌, arith, ⊎_elim}
use Rattle.std.specs.Prelude.{◌==◌, ◌&&◌, not, if◌then◌else◌, Option, Some, None, IfSome, All, is_some, is_none, option_and_then, unwrap_or, bytes_eq}
use Rattle.std.specs.Option.{option_map}
use Rattle.std.proofs.lemmas.Bool.{ltb-false, not-false}
use Rattle.std.proofs.lemmas.List.Elements.{All-head, All-tail}
use Rattle.std.proofs.lemmas.Slice.Eq.{bytes_eq-Decides}
use Rattle.crush_units.specs.declared.id.ItemId.{ItemId}
use Rattle.crush_units.specs.declared.id.ItemId.TheVariants.{Device, Bucket}
use Rattle.crush_units.specs.Id.{same_id}
use Rattle.crush_units.specs.Name.{IsName}
use Rattle.crush_units.specs.declared.limits.TheConstants.{HEAVIEST_DEVICE}
use Rattle.crush_units.proofs.Ids.{same_id_equal}
use Rattle.crush_model.specs.ItemRows.{device_row}
use Rattle.crush_model.specs.Table.{Row, is_device_id, row_of, id_named, is_named, is_there, is_placed, parent_of, class_of, own_weight_of, name_of}
use Rattle.crush_model.specs.Lawful.{IsRow, IsRowOf, Lawful, is_too_heavy, has_too_many}
use Rattle.crush_model.specs.Columns.{set_weight, set_subtree, set_name, set_class, swap_buckets, is_part, without_row}
use Rattle.crush_model.specs.Table.{are_nested}
use Rattle.crush_model.proofs.Classes.{Lawful-set_class}
use Rattle.crush_model.proofs.Columns.{Lawful-set_weight, Lawful-set_subtree}
use Rattle.crush_model.proofs.Moved.{row_id}
use Rattle.crush_model.proofs.Renamed.{Lawful-set_name, All-row}
use Rattle.crush_model.proofs.Swapped.{Lawful-swap}
use Rattle.crush_model.proofs.Weighs.{or_left, or_right, true_or_false}
use Rattle.crush_edits.specs.declared.refusal.Refusal.{Refusal}
use Rattle.crush_edits.specs.declared.refusal.Refusal.TheVariants.{BadName, BadLocation, NoSuchType, NoPlace, WeightTooLarge, NameTaken, NotPlaced, NotADevice, NotABucket, WrongType, Loop, Nested, NotEmpty, InUse, NoRoom, SumTooLarge}
use Rattle.crush_edits.specs.declared.refusal.Dones.{Dones}
use Rattle.crush_edits.specs.declared.edit.Edit.{Edit}
use Rattle.crush_edits.specs.declared.edit.Edit.TheVariants.{Place, Move, Swap, Reweight, ReweightSubtree, Remove, AddBucket, Rename, SetClass, RemoveClass}
use Rattle.crush_edits.specs.declared.edit.Placing.TheVariants.{Insert, CreateOrMove, Update}
use Rattle.crush_edits.specs.declared.location.Pair.{Pair}
use Rattle.crush_edits.specs.Stops.{StopData, stops, end_id, number_of, bucket_named, receiver}
use Rattle.crush_edits.specs.Put.{put, is_id, held}
use Rattle.crush_edits.specs.New.{IsRoute}
use Rattle.crush_edits.specs.Answer.{kept, on_some, meets, is_a_device, is_a_bucket, is_heavy, answer}
use Rattle.crush_edits.specs.Located.{is_bad_location, has_no_kind, names_it, is_taken}
use Rattle.crush_edits.specs.Placing.{put_after, edited_leaf, edited_device, kept_weight, move_item}
use Rattle.crush_edits.specs.Weighing.{is_unplaced}
use Rattle.crush_edits.specs.Edit.{after, refusal}
use Rattle.crush_edits.specs.Batch.{batch_done, no_dones, and_then, batch_from}
use Rattle.crush_edits.specs.Setting.{SettingData, kind_number}
use Rattle.crush_edits.specs.Fits.{HasKind}
use Rattle.crush_edits.specs.Making.{holds_items, is_taken_by_rule, after_add_bucket}
use Rattle.crush_edits.specs.Pushed.{IsLocation}
use Rattle.crush_edits.specs.LawEdit.{IsEdit, EditKeeps, BatchKeeps, IsPlacing, Keeps}
use Rattle.crush_edits.proofs.Order.{edit_passed}
use Rattle.crush_edits.proofs.Others.{weights_fit, name_fits, class_fits, swap_fits, remove_lawful, remove_fits, added_lawful, added_fits}
use Rattle.crush_edits.proofs.PutLaws.{lawful_put, lawful_new, put_fits}
use Rattle.crush_edits.proofs.Routes.{named_there}
use Rattle.crush_edits.proofs.Stops.{location_route, no_stop_named}
use Rattle.crush_edits.proofs.Tails.{form_stays, row_form, edited_is_own}

-- a weight that isn't too large is one that a device can have
pub not_heavy : (w : ℕ) → is_heavy w ≡ false → w ≤ HEAVIEST_DEVICE
not_heavy w h = ltb-false HEAVIEST_DEVICE w h

pub some_row : (t : List Row) (i : ItemId) → is_there t i ≡ true → (r : Row) × (row_of t i ≡ Some r)
some_row t i there = by_row (row_of t i) refl there where
  by_row : (o : Option Row) → row_of t i ≡ o → is_some o ≡ true → (r : Row) × (row_of t i ≡ Some r)
  by_row None e h = absurd cc
  by_row (Some r) e h = (r, e)

-- EDITS WITH A LOCATION
pub no_device_ends : (o : Option ItemId) → is_a_device o ≡ false → IfSome o (λ i. is_device_id i ≡ false)
no_device_ends None h = tt
no_device_ends (Some (Device d)) h = absurd cc
no_device_ends (Some (Bucket b)) h = refl

-- no bucket is part of a device
pub device_apart : (t : List Row) (d : ℕ) (o : Option ℕ) → IfSome o (λ b. is_part t (Device d) (Bucket b) ≡ false)
device_apart t d None = tt
device_apart t d (Some b) = refl

item_apart : (t : List Row) (i : ItemId) (o : Option ItemId) → meets (is_part t i) o ≡ false → IfSome (option_and_then number_of o) (λ b. is_part t i (Bucket b) ≡ false)
item_apart t i None h = tt
item_apart t i (Some (Device d)) h = tt
item_apart t i (Some (Bucket b)) h = h

class_form : (t : List Row) → Lawful t → (d : ℕ) → IfSome (class_of t (Device d)) IsName
class_form t l d = by_row (row_of t (Device d)) refl where
  in_form : (r : Row) → IsRowOf (Device d) r → IfSome r.class IsName
  in_form r form = form.class

  by_row : (o : Option Row) → row_of t (Device d) ≡ o → IfSome (option_and_then (λ (r : Row). r.class) o) IsName
  by_row None e = tt
  by_row (Some r) e = in_form r (subst (λ i. IsRowOf i r) (row_id (Device d) t r e) (row_form t l (Device d) r e).form)

device_light : (t : List Row) → Lawful t → (d w : ℕ) → w ≤ HEAVIEST_DEVICE → kept_weight t d w ≤ HEAVIEST_DEVICE
device_light t l d w light = by_place (is_placed t (Device d)) where
  in_form : (r : Row) → IsRowOf (Device d) r → r.weight ≤ HEAVIEST_DEVICE
  in_form r form = form.light

  by_row : (o : Option Row) → row_of t (Device d) ≡ o → unwrap_or (option_map (λ (r : Row). r.weight) o) w ≤ HEAVIEST_DEVICE
  by_row None e = light
  by_row (Some r) e = in_form r (subst (λ i. IsRowOf i r) (row_id (Device d) t r e) (row_form t l (Device d) r e).form)

  by_place : (b : Bool) → (if b then unwrap_or (own_weight_of t (Device d)) w else w) ≤ HEAVIEST_DEVICE
  by_place true = by_row (row_of t (Device d)) refl
  by_place false = light

-- if the table doesn't have the device, and no other item has its name, then no item has its name
name_free : (t : List Row) (d : ℕ) (n : List ℕ) → is_there t (Device d) ≡ false → meets (λ j. not (same_id j (Device d))) (id_named t n) ≡ false → is_named t n ≡ false
name_free t d n gone h = by_id (id_named t n) (named_there t n) h where
  by_id : (o : Option ItemId) → IfSome o (λ i. is_there t i ≡ true) → meets (λ j. not (same_id j (Device d))) o ≡ false → is_some o ≡ false
  by_id None there g = refl
  by_id (Some j) there g = absurd (let same : j ≡ Device d = same_id_equal j (Device d) (not-false (same_id j (Device d)) g) in let here : is_there t (Device d) ≡ true = ap (is_there t) (sym same) ∙ there in cc)

module _ (s : SettingData) (t : List Row) (k : Keeps s t) where
  -- A DEVICE that is put
  module _ (d : ℕ) (n : List ℕ) (l : List Pair) (form : IsPlacing d n l) (other : names_it l n ≡ false) (good : is_bad_location s l ≡ false) (known : has_no_kind s l ≡ false) (some : (length l == 0) ≡ false)
      (own : is_taken t (Device d) n ≡ false) (ends : is_a_device (end_id t (stops s l)) ≡ false) where
    pub route : IsRoute t (stops s l)
    route = location_route s t l k.fits form.at.names form.at.few good known some (no_device_ends (end_id t (stops s l)) ends)

    row_new : (w : ℕ) → w ≤ HEAVIEST_DEVICE → (b : ℕ) → IsRow (device_row (Some b) (edited_leaf t d n w))
    row_new w light b = record { name = form.name; form = record { id = form.id; kind = refl; light = light; unplaced = λ e. absurd cc; alg = refl; class_ids = refl; class = class_form t k.lawful d } }

    pub there_named : (r : Row) → row_of t (Device d) ≡ Some r → r.name ≡ n
    there_named r e =
        (bytes_eq-Decides r.name n).0 (not-false (bytes_eq r.name n)
        (sym (ap (λ o. meets (λ m. not (bytes_eq m n)) (option_map (λ (x : Row). x.name) o)) e) ∙ or_right (meets (λ j. not (same_id j (Device d))) (id_named t n)) (meets (λ m. not (bytes_eq m n)) (name_of t (Device d))) own))

    device_put_lawful : (w : ℕ) → w ≤ HEAVIEST_DEVICE → is_too_heavy (put t (edited_device t d n w) (stops s l)) ≡ false → has_too_many (put t (edited_device t d n w) (stops s l)) ≡ false → Lawful (put t (edited_device t d n w) (stops s l))
    device_put_lawful w light sums room = ⊎_elim there_already not_there (true_or_false (is_there t (Device d))) where
      not_there : is_there t (Device d) ≡ false → Lawful (put t (edited_device t d n w) (stops s l))
      not_there gone =
          lawful_new t (stops s l) k.lawful route (edited_leaf t d n w) gone (name_free t d n gone (or_left (meets (λ j. not (same_id j (Device d))) (id_named t n)) (meets (λ m. not (bytes_eq m n)) (name_of t (Device d))) own))
          (no_stop_named s l n other) (row_new w light) sums room

      there_already : is_there t (Device d) ≡ true → Lawful (put t (edited_device t d n w) (stops s l))
      there_already there =
          let found = some_row t (Device d) there in
          let r : Row = found.0 in
          let is : found.0.id ≡ Device d = row_id (Device d) t found.0 found.1 in
          let same : edited_device t d n w ≡ record found.0 { parent = None; weight = w } = ap (λ m. edited_device t d m w) (sym (there_named found.0 found.1)) ∙ edited_is_own t d w found.0 k.lawful found.1 in
          let put_same : put t (edited_device t d n w) (stops s l) ≡ put t (record found.0 { weight = w }) (stops s l) = ap (λ x. put t x (stops s l)) same in
          subst Lawful (sym put_same)
          (lawful_put t (stops s l) k.lawful route found.0 w (ap (row_of t) is ∙ found.1) (subst (λ i. IfSome (receiver t (stops s l)) (λ b. is_part t i (Bucket b) ≡ false)) (sym is) (device_apart t d (receiver t (stops s l))))
          (λ b. (form_stays found.0 (row_form t k.lawful (Device d) found.0 found.1)).1 d b w is light) (ap is_too_heavy (sym put_same) ∙ sums) (ap has_too_many (sym put_same) ∙ room))

    device_put : (w : ℕ) → w ≤ HEAVIEST_DEVICE → is_too_heavy (put t (edited_device t d n w) (stops s l)) ≡ false → has_too_many (put t (edited_device t d n w) (stops s l)) ≡ false → Keeps s (put t (edited_device t d n w) (stops s l))
    device_put w light sums room = record { lawful = device_put_lawful w light sums room; fits = put_fits s t l (edited_device t d n w) k.fits (λ more. absurd (omega arith)) }

    -- nothing changes if the device is held; otherwise it is put
    create_or_move : (w : ℕ) → w ≤ HEAVIEST_DEVICE → (b : Bool) → has_too_many (if b then kept t else put_after t (edited_device t d n w) (stops s l)).table ≡ false → is_too_heavy (if b then kept t else put_after t (edited_device t d n w) (stops s l)).table ≡ false
        → Keeps s (if b then kept t else put_after t (edited_device t d n w) (stops s l)).table
    create_or_move w light true room sums = k
    create_or_move w light false room sums = device_put w light sums room

    update : (w : ℕ) → w ≤ HEAVIEST_DEVICE → (b : Bool) → (b ≡ true → is_placed t (Device d) ≡ true) → has_too_many (if b then kept (set_weight (Device d) w t) else put_after t (edited_device t d n w) (stops s l)).table ≡ false
        → is_too_heavy (if b then kept (set_weight (Device d) w t) else put_after t (edited_device t d n w) (stops s l)).table ≡ false → Keeps s (if b then kept (set_weight (Device d) w t) else put_after t (edited_device t d n w) (stops s l)).table
    update w light true placed room sums = record { lawful = Lawful-set_weight t d w k.lawful (placed refl) light sums; fits = weights_fit s t (λ (r : Row). same_id r.id (Device d)) w k.fits }
    update w light false placed room sums = device_put w light sums room

  held_placed : (i : ItemId) (ps : List StopData) → held t i ps ≡ true → is_placed t i ≡ true
  held_placed i [] h = absurd cc
  held_placed i (p ∷ ps) h = by_parent (parent_of t i) h where
    by_parent : (o : Option ℕ) → is_id o (id_named t p.name) ≡ true → is_some o ≡ true
    by_parent None g = absurd cc
    by_parent (Some b) g = refl

  -- AN ITEM that is moved
  move : (l : List Pair) → IsLocation l → is_bad_location s l ≡ false → has_no_kind s l ≡ false → (length l == 0) ≡ false → is_a_device (end_id t (stops s l)) ≡ false
      → (o : Option ItemId) → IfSome o (λ i. is_there t i ≡ true) → meets (λ i. meets (is_part t i) (end_id t (stops s l))) o ≡ false → has_too_many (on_some t o (move_item s t l)).table ≡ false → is_too_heavy (on_some t o (move_item s t l)).table ≡ false → Keeps s (on_some t o (move_item s t l)).table
  move l form good known some ends None there loop room sums = k
  move l form good known some ends (Some i) there loop room sums = by_held (held t i (stops s l)) room sums where
    route : IsRoute t (stops s l)
    route = location_route s t l k.fits form.names form.few good known some (no_device_ends (end_id t (stops s l)) ends)

    moved : (r : Row) → row_of t i ≡ Some r → has_too_many (put t r (stops s l)) ≡ false → is_too_heavy (put t r (stops s l)) ≡ false → Keeps s (put t r (stops s l))
    moved r e room sums =
        let is : r.id ≡ i = row_id i t r e in
        let row : IsRow r = row_form t k.lawful i r e in
        record {
          lawful = lawful_put t (stops s l) k.lawful route r r.weight (ap (row_of t) is ∙ e) (subst (λ j. IfSome (receiver t (stops s l)) (λ b. is_part t j (Bucket b) ≡ false)) (sym is) (item_apart t i (end_id t (stops s l)) loop)) (form_stays r row).0 sums room;
          fits = put_fits s t l r k.fits (All-row (HasKind s) t k.fits.types i r e);
        }

    by_row : (o : Option Row) → row_of t i ≡ o → has_too_many (on_some t o (λ r. put_after t r (stops s l))).table ≡ false → is_too_heavy (on_some t o (λ r. put_after t r (stops s l))).table ≡ false → Keeps s (on_some t o (λ r. put_after t r (stops s l))).table
    by_row None e room sums = k
    by_row (Some r) e room sums = moved r e room sums

    by_held : (b : Bool) → has_too_many (if b then kept t else on_some t (row_of t i) (λ r. put_after t r (stops s l))).table ≡ false → is_too_heavy (if b then kept t else on_some t (row_of t i) (λ r. put_after t r (stops s l))).table ≡ false
        → Keeps s (if b then kept t else on_some t (row_of t i) (λ r. put_after t r (stops s l))).table
    by_held true room sums = k
    by_held false room sums = by_row (row_of t i) refl room sums

  -- WEIGHTS
  some_parent : (o : Option ℕ) → is_none o ≡ false → is_some o ≡ true
  some_parent None h = absurd cc
  some_parent (Some p) h = refl

  reweight : (w : ℕ) → w ≤ HEAVIEST_DEVICE → (o : Option ItemId) → meets (is_unplaced t) o ≡ false → is_a_bucket o ≡ false → is_too_heavy (on_some t o (λ i. kept (set_weight i w t))).table ≡ false → Keeps s (on_some t o (λ i. kept (set_weight i w t))).table
  reweight w light None placed device sums = k
  reweight w light (Some (Device d)) placed device sums = record { lawful = Lawful-set_weight t d w k.lawful (some_parent (parent_of t (Device d)) placed) light sums; fits = weights_fit s t (λ (r : Row). same_id r.id (Device d)) w k.fits }
  reweight w light (Some (Bucket b)) placed device sums = absurd cc

  subtree : (w : ℕ) → w ≤ HEAVIEST_DEVICE → (o : Option ℕ) → is_too_heavy (on_some t o (λ b. kept (set_subtree b w t))).table ≡ false → Keeps s (on_some t o (λ b. kept (set_subtree b w t))).table
  subtree w light None sums = k
  subtree w light (Some b) sums = record { lawful = Lawful-set_subtree t b w k.lawful light sums; fits = weights_fit s t _ w k.fits }

  -- NAMES
  bucket_there : (n : List ℕ) → IfSome (bucket_named t n) (λ b. is_there t (Bucket b) ≡ true)
  bucket_there n = by_id (id_named t n) (named_there t n) where
    by_id : (o : Option ItemId) → IfSome o (λ i. is_there t i ≡ true) → IfSome (option_and_then number_of o) (λ b. is_there t (Bucket b) ≡ true)
    by_id None h = tt
    by_id (Some (Device d)) h = tt
    by_id (Some (Bucket b)) h = h

  swap : (o q : Option ℕ) → IfSome o (λ b. is_there t (Bucket b) ≡ true) → IfSome q (λ b. is_there t (Bucket b) ≡ true) → meets (λ a. meets (are_nested t a) q) o ≡ false
      → is_too_heavy (on_some t o (λ a. on_some t q (λ b. kept (swap_buckets a b t)))).table ≡ false → Keeps s (on_some t o (λ a. on_some t q (λ b. kept (swap_buckets a b t)))).table
  swap None q here there nested sums = k
  swap (Some a) None here there nested sums = k
  swap (Some a) (Some b) here there nested sums =
      let one = some_row t (Bucket a) here in
      let two = some_row t (Bucket b) there in
      record { lawful = Lawful-swap t a b one.0 two.0 k.lawful one.1 two.1 nested sums; fits = swap_fits s t a b k.fits }

  rename : (to : List ℕ) → IsName to → (o : Option ItemId) → IfSome o (λ i. is_there t i ≡ true) → (is_some o && is_named t to) ≡ false → Keeps s (on_some t o (λ i. kept (set_name i to t))).table
  rename to form None there free = k
  rename to form (Some i) there free =
      let one = some_row t i there in
      record { lawful = Lawful-set_name i to t one.0 k.lawful one.1 form free; fits = name_fits s t i to k.fits }

  -- CLASSES
  classed : (c : Option (List ℕ)) → IfSome c IsName → (o : Option ItemId) → is_a_bucket o ≡ false → Keeps s (on_some t o (λ i. kept (set_class i c t))).table
  classed c form None device = k
  classed c form (Some (Device d)) device = record { lawful = Lawful-set_class d c t k.lawful form; fits = class_fits s t (Device d) c k.fits }
  classed c form (Some (Bucket b)) device = absurd cc

  -- ROWS
  remove : (o : Option ItemId) → meets (holds_items t) (option_and_then number_of o) ≡ false → meets (is_taken_by_rule s) (option_and_then number_of o) ≡ false → Keeps s (on_some t o (λ i. kept (without_row i t))).table
  remove None empty unused = k
  remove (Some i) empty unused = record { lawful = remove_lawful t i k.lawful empty; fits = remove_fits s t i k.fits unused }

  add_bucket : (n kind : List ℕ) → IsName n → (o : Option ℕ) → kind_number s kind ≡ o → is_none o ≡ false → is_named t n ≡ false → meets (λ x. x == 0) o ≡ false → has_too_many (after_add_bucket s t n kind).table ≡ false → Keeps s (after_add_bucket s t n kind).table
  add_bucket n kind form None e some free other room = absurd cc
  add_bucket n kind form (Some x) e some free other room = record { lawful = added_lawful s t n kind x k.lawful k.fits e other form free room; fits = added_fits s t n kind x e k.fits }

-- THE LAW
pub edit_keeps : EditKeeps
edit_keeps s t (Place Insert d n w l) k form told =
    let h = edit_passed s t (Place Insert d n w l) told in
    device_put s t k d n l form (h BadName) (h BadLocation) (h NoSuchType) (h NoPlace) (h NameTaken) (h NotABucket) w (not_heavy w (h WeightTooLarge)) (h SumTooLarge) (h NoRoom)
edit_keeps s t (Place CreateOrMove d n w l) k form told =
    let h = edit_passed s t (Place CreateOrMove d n w l) told in
    create_or_move s t k d n l form (h BadName) (h BadLocation) (h NoSuchType) (h NoPlace) (h NameTaken) (h NotABucket) (kept_weight t d w) (device_light t k.lawful d w (not_heavy w (h WeightTooLarge))) (held t (Device d) (stops s l)) (h NoRoom) (h SumTooLarge)
edit_keeps s t (Place Update d n w l) k form told =
    let h = edit_passed s t (Place Update d n w l) told in
    update s t k d n l form (h BadName) (h BadLocation) (h NoSuchType) (h NoPlace) (h NameTaken) (h NotABucket) w (not_heavy w (h WeightTooLarge)) (held t (Device d) (stops s l)) (held_placed s t k (Device d) (stops s l)) (h NoRoom) (h SumTooLarge)
edit_keeps s t (Move n l) k form told =
    let h = edit_passed s t (Move n l) told in
    move s t k l form (h BadLocation) (h NoSuchType) (h NoPlace) (h NotABucket) (id_named t n) (named_there t n) (h Loop) (h NoRoom) (h SumTooLarge)
edit_keeps s t (Swap m n) k form told =
    let h = edit_passed s t (Swap m n) told in
    swap s t k (bucket_named t m) (bucket_named t n) (bucket_there s t k m) (bucket_there s t k n) (h Nested) (h SumTooLarge)
edit_keeps s t (Reweight n w) k form told =
    let h = edit_passed s t (Reweight n w) told in
    reweight s t k w (not_heavy w (h WeightTooLarge)) (id_named t n) (h NotPlaced) (h NotADevice) (h SumTooLarge)
edit_keeps s t (ReweightSubtree n w) k form told =
    let h = edit_passed s t (ReweightSubtree n w) told in
    subtree s t k w (not_heavy w (h WeightTooLarge)) (bucket_named t n) (h SumTooLarge)
edit_keeps s t (Remove n) k form told =
    let h = edit_passed s t (Remove n) told in
    remove s t k (id_named t n) (h NotEmpty) (h InUse)
edit_keeps s t (AddBucket n kind) k form told =
    let h = edit_passed s t (AddBucket n kind) told in
    add_bucket s t k n kind form (kind_number s kind) refl (h NoSuchType) (h NameTaken) (h WrongType) (h NoRoom)
edit_keeps s t (Rename from to) k form told =
    let h = edit_passed s t (Rename from to) told in
    rename s t k to form (id_named t from) (named_there t from) (h NameTaken)
edit_keeps s t (SetClass n c) k form told =
    let h = edit_passed s t (SetClass n c) told in
    classed s t k (Some c) form (id_named t n) (h NotADevice)
edit_keeps s t (RemoveClass n) k form told =
    let h = edit_passed s t (RemoveClass n) told in
    classed s t k None tt (id_named t n) (h NotADevice)

-- the law for batches
batch_from_keeps : (s : SettingData) (es : List Edit) (d : Dones) (t u : List Row) (e : Dones) → Keeps s t → All IsEdit es → batch_from s es d t ≡ batch_done e u → Keeps s u
batch_from_keeps s [] d t u e k forms is = let same : t ≡ u = cc in subst (Keeps s) same k
batch_from_keeps s (x ∷ es) d t u e k forms is = by_refusal (refusal s t x) refl is (λ c v kv g. batch_from_keeps s es c v u e kv (All-tail IsEdit x es forms) g) where
  by_refusal : (o : Option Refusal) → refusal s t x ≡ o → and_then d (answer o t (after s t x)) (batch_from s es) ≡ batch_done e u → ((c : Dones) (v : List Row) → Keeps s v → batch_from s es c v ≡ batch_done e u → Keeps s u) → Keeps s u
  by_refusal (Some r) told f rest = absurd cc
  by_refusal None told f rest = rest _ (after s t x).table (edit_keeps s t x k (All-head IsEdit x es forms) told) f

pub batch_keeps : BatchKeeps
batch_keeps s t u es d k forms is = batch_from_keeps s es no_dones t u d k forms is

-- What Update gives for the table.
use Rattle.std.proofs.Common.{◌≡◌, ℕ, ◌≤◌, Bool, true, false, List, [], ◌∷◌, ap, sym, refl, ◌∙◌, arith}
use Rattle.std.proofs.lemmas.Bool.{not-false}
use Rattle.std.proofs.lemmas.Bool.Decides.{nat_tests}
use Rattle.std.proofs.lemmas.Slice.Eq.{bytes_eq-Decides}
use Rattle.std.specs.Prelude.{not, if◌then◌else◌, ◌||◌, nat_lt, Option, Some, None, is_some, option_and_then, bytes_eq}
use Rattle.std.specs.Option.{option_map}
use Rattle.crush_units.specs.declared.id.ItemId.{ItemId}
use Rattle.crush_units.specs.declared.id.ItemId.TheVariants.{Device}
use Rattle.crush_units.specs.Id.{same_id}
use Rattle.crush_units.proofs.Ids.{same_id_equal}
use Rattle.crush_model.specs.Columns.{set_weight}
use Rattle.crush_model.specs.Table.{Row, is_device, is_bucket, row_of, row_named, id_named, parent_of, is_placed, device_count, bucket_count}
use Rattle.crush_model.specs.Lawful.{Lawful, is_too_heavy, has_too_many}
use Rattle.crush_units.specs.Id.{is_device_id}
use Rattle.crush_units.specs.declared.limits.TheConstants.{HEAVIEST_DEVICE, MOST_BUCKETS, MOST_DEVICES}
use Rattle.crush_model.proofs.Changes.{with_weight, with_weight-id}
use Rattle.crush_model.proofs.Columns.{count-map}
use Rattle.crush_model.proofs.Passing.{lawful_room}
use Rattle.crush_model.proofs.Weighs.{or_left}
use Rattle.crush_edits.specs.declared.edit.Edit.TheVariants.{Place, Reweight}
use Rattle.crush_edits.specs.declared.edit.Placing.TheVariants.{Update}
use Rattle.crush_edits.specs.declared.location.Pair.{Pair}
use Rattle.crush_edits.specs.declared.refusal.Refusal.TheVariants.{NoRoom, SumTooLarge}
use Rattle.crush_edits.specs.Answer.{After, answer, kept, meets, first_refusal, is_heavy, sum_test}
use Rattle.crush_edits.specs.Edit.{edit}
use Rattle.crush_edits.specs.Located.{is_taken}
use Rattle.crush_edits.specs.Placing.{put_after, edited_device, device_put_tests, after_update}
use Rattle.crush_edits.specs.Put.{is_id, held}
use Rattle.crush_edits.specs.Setting.{SettingData}
use Rattle.crush_edits.specs.Stops.{StopData, stops}
use Rattle.crush_apply.specs.Answered.{last_refusal}
use Rattle.crush_apply.proofs.Devices.{own_name}

-- an item that is held is in a bucket
pub held_placed : (t : List Row) (i : ItemId) (ps : List StopData) → held t i ps ≡ true → is_placed t i ≡ true
held_placed t i [] h = absurd cc
held_placed t i (p ∷ ps) h = by_parent (parent_of t i) h where
  by_parent : (o : Option ℕ) → is_id o (id_named t p.name) ≡ true → is_some o ≡ true
  by_parent None e = absurd cc
  by_parent (Some b) e = refl

placed_row : (t : List Row) (i : ItemId) → is_placed t i ≡ true → (r : Row) × (row_of t i ≡ Some r)
placed_row t i h = by_row (row_of t i) h where
  by_row : (o : Option Row) → is_some (option_and_then (λ (x : Row). x.parent) o) ≡ true → (r : Row) × (o ≡ Some r)
  by_row None e = absurd cc
  by_row (Some r) e = (r, refl)

-- the name of a row finds some row
named_row : (t : List Row) (i : ItemId) (r : Row) (n : List ℕ) → row_of t i ≡ Some r → bytes_eq r.name n ≡ true → is_some (row_named t n) ≡ true
named_row [] i r n found same = absurd cc
named_row (x ∷ t) i r n found same = by_name (bytes_eq x.name n) refl (same_id x.id i) found (λ f. named_row t i r n f same) where
  by_name : (b : Bool) → bytes_eq x.name n ≡ b → (c : Bool) → (if c then Some x else row_of t i) ≡ Some r → (row_of t i ≡ Some r → is_some (row_named t n) ≡ true) → is_some (if b then Some x else row_named t n) ≡ true
  by_name true e c f ih = refl
  by_name false e true f ih = absurd (let is : x ≡ r = cc in let no : false ≡ true = sym e ∙ ap (λ (y : Row). bytes_eq y.name n) is ∙ same in cc)
  by_name false e false f ih = ih f

-- if a device is in a bucket, and the name isn't taken, then the name finds the device
pub placed_named : (t : List Row) (d : ℕ) (n : List ℕ) → is_taken t (Device d) n ≡ false → is_placed t (Device d) ≡ true → id_named t n ≡ Some (Device d)
placed_named t d n own placed =
    let row = placed_row t (Device d) placed in
    let same : row.0.name ≡ n = own_name t (Device d) n row.0 own row.1 in
    by_named (row_named t n) (named_row t (Device d) row.0 n row.1 ((bytes_eq-Decides row.0.name n).1 same)) (or_left (meets (λ j. not (same_id j (Device d))) (id_named t n)) _ own) where
      by_named : (o : Option Row) → is_some o ≡ true → meets (λ j. not (same_id j (Device d))) (option_map (λ (r : Row). r.id) o) ≡ false → option_map (λ (r : Row). r.id) o ≡ Some (Device d)
      by_named None some e = absurd cc
      by_named (Some r) some e = ap Some (same_id_equal r.id (Device d) (not-false (same_id r.id (Device d)) e))

-- a weight changes no counts
same_room : (i : ItemId) (w : ℕ) (t : List Row) → has_too_many (set_weight i w t) ≡ has_too_many t
same_room i w t =
    let which : Row → Bool = λ r. same_id r.id i in
    let devices : device_count (set_weight i w t) ≡ device_count t = count-map (with_weight which w) is_device (λ r. ap is_device_id (with_weight-id which w r)) t in
    let buckets : bucket_count (set_weight i w t) ≡ bucket_count t = count-map (with_weight which w) is_bucket (λ r. ap (λ j. not (is_device_id j)) (with_weight-id which w r)) t in
    λ k. nat_lt MOST_DEVICES (devices k) || nat_lt MOST_BUCKETS (buckets k)

light_weight : (w : ℕ) → w ≤ HEAVIEST_DEVICE → is_heavy w ≡ false
light_weight w h = grind (arith, nat_tests)

-- THE HELD DEVICE: Update gives what Reweight gives
pub held_update : (s : SettingData) (t : List Row) (d : ℕ) (n : List ℕ) (w : ℕ) (l : List Pair) → Lawful t → ((a : After) → first_refusal (device_put_tests s t d n w l a) ≡ last_refusal a)
    → is_taken t (Device d) n ≡ false → w ≤ HEAVIEST_DEVICE → held t (Device d) (stops s l) ≡ true → edit s t (Place Update d n w l) ≡ edit s t (Reweight n w)
held_update s t d n w l lawful last own light there =
    let u : List Row = set_weight (Device d) w t in
    let placed = held_placed t (Device d) (stops s l) there in
    let named = placed_named t d n own placed in
    let not_heavy = light_weight w light in
    let few : has_too_many u ≡ false = same_room (Device d) w t ∙ lawful_room t lawful in
    let stays : after_update s t d n w l ≡ kept u = ap (λ b. if b then kept u else put_after t (edited_device t d n w) (stops s l)) there in
    let reweighed : edit s t (Reweight n w) ≡ answer (first_refusal (sum_test (kept u) ∷ [])) t (kept u) = rw (not_heavy, named, placed) refl in
    ap (λ o. answer o t (after_update s t d n w l)) (last (after_update s t d n w l))
    ∙ ap (λ a. answer (last_refusal a) t a) stays
    ∙ ap (λ b. answer (if b then Some NoRoom else (if is_too_heavy u then Some SumTooLarge else None)) t (kept u)) few
    ∙ sym reweighed

-- Putting a device at a destination, both if the table has the device and if the table doesn't have it.
use Rattle.std.proofs.Common.{◌≡◌, ℕ, ◌<◌, Bool, true, false, List, ap, sym, subst, ◌∙◌, refl}
use Rattle.std.proofs.lemmas.Bool.{not-false}
use Rattle.std.specs.Prelude.{not, Option, Some, None, IfSome, is_some, option_and_then, bytes_eq}
use Rattle.std.specs.Option.{option_map}
use Rattle.std.proofs.lemmas.Slice.Eq.{bytes_eq-Decides}
use Rattle.crush_units.specs.declared.id.ItemId.{ItemId}
use Rattle.crush_units.specs.declared.id.ItemId.TheVariants.{Device}
use Rattle.crush_units.specs.Id.{same_id}
use Rattle.crush_units.specs.Name.{IsName}
use Rattle.crush_units.proofs.Ids.{same_id_equal}
use Rattle.crush_units.specs.declared.limits.TheConstants.{DEVICE_IDS}
use Rattle.crush_model.specs.Items.{LeafData}
use Rattle.crush_model.specs.ItemRows.{device_row}
use Rattle.crush_model.specs.Table.{Row, row_of, id_named, is_named, is_there, kind_of, name_of, class_of}
use Rattle.crush_model.specs.Lawful.{Lawful, is_too_heavy, has_too_many}
use Rattle.crush_model.proofs.Found.{row_of-absent, times-absent}
use Rattle.crush_model.proofs.Moved.{row_id}
use Rattle.crush_model.proofs.Weighs.{or_left, or_right}
use Rattle.crush_edits.specs.Answer.{meets}
use Rattle.crush_edits.specs.Changed.{same_table}
use Rattle.crush_edits.specs.LawPut.{IsApart}
use Rattle.crush_edits.specs.Located.{is_taken}
use Rattle.crush_edits.specs.New.{IsRoute}
use Rattle.crush_edits.specs.Placing.{put_after, edited_device}
use Rattle.crush_edits.specs.Put.{put, held}
use Rattle.crush_edits.specs.Stops.{StopData, receiver}
use Rattle.crush_edits.proofs.PutLaws.{changes, changes_new}
use Rattle.crush_edits.proofs.Routes.{named_there}
use Rattle.crush_edits.proofs.Tails.{edited_is_own}
use Rattle.crush_edits.proofs.Edits.{some_row, device_apart}
use Rattle.crush_apply.specs.Answered.{last_answer}
use Rattle.crush_apply.specs.Coming.{CanMove, CanArrive}
use Rattle.crush_apply.specs.Placed.{CanPut, CanPutNew}
use Rattle.crush_apply.specs.Destination.{DestinationData}
use Rattle.crush_apply.proofs.Answered.{IsPut, put_same}

-- if the table has the device, and the name isn't taken, then the device has the name
pub own_name : (t : List Row) (i : ItemId) (n : List ℕ) (r : Row) → is_taken t i n ≡ false → row_of t i ≡ Some r → r.name ≡ n
own_name t i n r own found =
    let other : meets (λ m. not (bytes_eq m n)) (name_of t i) ≡ false = or_right (meets (λ j. not (same_id j i)) (id_named t n)) (meets (λ m. not (bytes_eq m n)) (name_of t i)) own in
    let at : meets (λ m. not (bytes_eq m n)) (option_map (λ (x : Row). x.name) (Some r)) ≡ false = ap (λ o. meets (λ m. not (bytes_eq m n)) (option_map (λ (x : Row). x.name) o)) (sym found) ∙ other in
    (bytes_eq-Decides r.name n).0 (not-false (bytes_eq r.name n) at)

-- putting the device as the edit says puts its own row with the edit's weight
pub own_put : (t : List Row) (d : ℕ) (n : List ℕ) (w : ℕ) (ps : List StopData) (r : Row) → Lawful t → is_taken t (Device d) n ≡ false → row_of t (Device d) ≡ Some r → put t (edited_device t d n w) ps ≡ put t (record r { weight = w }) ps
own_put t d n w ps r lawful own found =
    ap (λ m. put t (edited_device t d m w) ps) (sym (own_name t (Device d) n r own found)) ∙ ap (λ x. put t x ps) (edited_is_own t d w r lawful found)

-- the new device of an edit, which has no class
abbrev pub new_leaf : ℕ → List ℕ → ℕ → LeafData
new_leaf d n w = record { id = d; name = n; weight = w; class = None }

pub new_put : (t : List Row) (d : ℕ) (n : List ℕ) (w : ℕ) (ps : List StopData) → is_there t (Device d) ≡ false → put t (edited_device t d n w) ps ≡ put t (device_row None (new_leaf d n w)) ps
new_put t d n w ps gone =
    let class : class_of t (Device d) ≡ None = ap (option_and_then (λ (x : Row). x.class)) (row_of-absent t (Device d) (times-absent t (Device d) gone)) in
    ap (λ c. put t (device_row None (record { id = d; name = n; weight = w; class = c })) ps) class

-- a receiver is never part of a device
pub no_loop : (t : List Row) (d : ℕ) (i : ItemId) (ps : List StopData) → i ≡ Device d → IsApart t i ps
no_loop t d i ps is = subst (λ j. IsApart t j ps) (sym is) (device_apart t d (receiver t ps))

-- if the table doesn't have the device, and no other item has its name, then no item has its name
new_name : (t : List Row) (i : ItemId) (n : List ℕ) → is_taken t i n ≡ false → is_there t i ≡ false → is_named t n ≡ false
new_name t i n own gone = by_id (id_named t n) (or_left (meets (λ j. not (same_id j i)) (id_named t n)) (meets (λ m. not (bytes_eq m n)) (name_of t i)) own) (named_there t n) where
  by_id : (o : Option ItemId) → meets (λ j. not (same_id j i)) o ≡ false → IfSome o (λ j. is_there t j ≡ true) → is_some o ≡ false
  by_id None e there = refl
  by_id (Some j) e there = absurd (let same : j ≡ i = same_id_equal j i (not-false (same_id j i) e) in let again : is_there t i ≡ true = ap (is_there t) (sym same) ∙ there in cc)

-- the table has an item if and only if it has a type for the item
pub kind_tells : (t : List Row) (i : ItemId) (o : Option ℕ) (b : Bool) → o ≡ kind_of t i → is_some o ≡ b → is_there t i ≡ b
kind_tells t i o b is e = by_row (row_of t i) is where
  by_row : (q : Option Row) → o ≡ option_map (λ (r : Row). r.kind) q → is_some q ≡ b
  by_row None f = ap is_some (sym f) ∙ e
  by_row (Some r) f = ap is_some (sym f) ∙ e

-- putting the device changes the table, unless the device is held
pub put_changes : (t : List Row) (d : ℕ) (n : List ℕ) (w : ℕ) (ps : List StopData) → Lawful t → IsRoute t ps → held t (Device d) ps ≡ false → same_table t (put t (edited_device t d n w) ps) ≡ false
put_changes t d n w ps lawful route free = by_there (is_there t (Device d)) refl where
  by_there : (b : Bool) → is_there t (Device d) ≡ b → same_table t (put t (edited_device t d n w) ps) ≡ false
  by_there true there = changes t ps (edited_device t d n w) lawful route there free
  by_there false gone = ap (same_table t) (new_put t d n w ps gone) ∙ changes_new t ps (new_leaf d n w) lawful route gone

-- A DEVICE THAT THE TABLE HAS can be moved: its own row is put, with the edit's weight
pub device_moves : (t : List Row) (d : ℕ) (n : List ℕ) (w : ℕ) (to : DestinationData) → CanArrive t d n w to → is_there t (Device d) ≡ true → CanMove t (Device d) to
device_moves t d n w to can there = record { leads = can.leads; there = there; apart = no_loop t d (Device d) to.stops refl }

-- its row
pub record OwnRow (t : List Row) (d : ℕ) (n : List ℕ) (w : ℕ) (to : DestinationData) : Type 0 where
  pub row : Row
  pub found : row_of t (Device d) ≡ Some row
  pub own : row_of t row.id ≡ Some row
  pub same : put t (edited_device t d n w) to.stops ≡ put t (record row { weight = w }) to.stops
  pub put : IsPut t (last_answer t (put_after t (edited_device t d n w) to.stops)) (record row { weight = w }) to

pub own_row : (t : List Row) (d : ℕ) (n : List ℕ) (w : ℕ) (to : DestinationData) → Lawful t → CanArrive t d n w to → held t (Device d) to.stops ≡ false → is_there t (Device d) ≡ true → OwnRow t d n w to
own_row t d n w to lawful can free there =
    let found = some_row t (Device d) there in
    let same = own_put t d n w to.stops found.0 lawful can.own found.1 in
    record {
      row = found.0;
      found = found.1;
      own = ap (row_of t) (row_id (Device d) t found.0 found.1) ∙ found.1;
      same = same;
      put = put_same t (edited_device t d n w) (record found.0 { weight = w }) to can.leads same (put_changes t d n w to.stops lawful can.leads.route free);
    }

pub put_own : (t : List Row) (d : ℕ) (w : ℕ) (to : DestinationData) (r : Row) → row_of t (Device d) ≡ Some r → has_too_many (put t (record r { weight = w }) to.stops) ≡ false → is_too_heavy (put t (record r { weight = w }) to.stops) ≡ false → CanPut t r w to.stops
put_own t d w to r found room light = record { apart = no_loop t d r.id to.stops (row_id (Device d) t r found); room = room; light = light }

-- A DEVICE THAT THE TABLE DOESN'T HAVE can be put
pub device_put_new : (t : List Row) (d : ℕ) (n : List ℕ) (w : ℕ) (to : DestinationData) → CanArrive t d n w to → is_there t (Device d) ≡ false → d < DEVICE_IDS → IsName n
    → has_too_many (put t (device_row None (new_leaf d n w)) to.stops) ≡ false → is_too_heavy (put t (device_row None (new_leaf d n w)) to.stops) ≡ false → CanPutNew t (new_leaf d n w) to.stops
device_put_new t d n w to can gone id name room light = record {
  gone = gone;
  unnamed = new_name t (Device d) n can.own gone;
  other = can.other;
  form = λ b. record { name = name; form = record { id = id; kind = refl; light = can.weight; unplaced = λ e. absurd cc; alg = refl; class_ids = refl; class = tt } };
  room = room;
  light = light;
}

-- THE NEW DEVICE is put
pub new_is_put : (t : List Row) (d : ℕ) (n : List ℕ) (w : ℕ) (to : DestinationData) → Lawful t → CanArrive t d n w to → held t (Device d) to.stops ≡ false → is_there t (Device d) ≡ false → IsPut t (last_answer t (put_after t (edited_device t d n w) to.stops)) (device_row None (new_leaf d n w)) to
new_is_put t d n w to lawful can free gone = put_same t (edited_device t d n w) (device_row None (new_leaf d n w)) to can.leads (new_put t d n w to.stops gone) (put_changes t d n w to.stops lawful can.leads.route free)

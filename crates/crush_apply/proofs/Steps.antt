-- The steps of putting an item at a destination: the new buckets are added, and the item is moved into the bucket of the first stop. A new device is instead added together with its new buckets.
use Rattle.std.proofs.Common.{◌≡◌, ℕ, ◌≤◌, true, false, List, ◌++◌, ap, sym, subst, refl, ◌∙◌, append_assoc}
use Rattle.std.specs.Prelude.{Bool, if◌then◌else◌, Some, None, IfSome, is_some}
use Rattle.crush_units.specs.declared.id.ItemId.{ItemId}
use Rattle.crush_units.specs.declared.id.ItemId.TheVariants.{Device, Bucket}
use Rattle.crush_units.specs.Id.{same_id}
use Rattle.crush_units.specs.declared.limits.TheConstants.{HEAVIEST_DEVICE}
use Rattle.crush_model.specs.Items.{LeafData, Items, none, device, bucket}
use Rattle.crush_model.specs.ItemRows.{rows, device_row}
use Rattle.crush_model.specs.Forest.{ForestData, rows_of, OnlyDevices}
use Rattle.crush_model.specs.Stands.{Stands}
use Rattle.crush_model.specs.Table.{Row, row_of, is_there}
use Rattle.crush_model.specs.Same.{Same}
use Rattle.crush_model.specs.Law.{IsOne}
use Rattle.crush_model.specs.Lawful.{IsRow, Lawful, has_too_many}
use Rattle.crush_model.specs.Columns.{table_without, part}
use Rattle.crush_model.proofs.Attached.{is_there-append}
use Rattle.crush_model.proofs.Changes.{Same-with, Same-without}
use Rattle.crush_model.proofs.Found.{is_there-same, is_there-times, times-is_there}
use Rattle.crush_model.proofs.Moved.{row_id}
use Rattle.crush_model.proofs.Reorder.{reordered-count}
use Rattle.crush_model.proofs.Same.{Same-is, Same-sym, Same-trans, Lawful-same}
use Rattle.crush_model.proofs.Stands.{stands_lawful}
use Rattle.crush_nodes.specs.Ops.{part_of, FitsPlace}
use Rattle.crush_nodes.proofs.LastSteps.{OnlyDevices-join}
use Rattle.crush_edits.specs.LawRoute.{rows_made}
use Rattle.crush_edits.specs.Boxes.{boxes}
use Rattle.crush_edits.specs.Put.{NewData, new_buckets, next_up, next_place, put}
use Rattle.crush_edits.specs.Stops.{receiver}
use Rattle.crush_edits.proofs.Boxes.{rows-boxes}
use Rattle.crush_edits.proofs.Routes.{route_next}
use Rattle.crush_edits.proofs.PutLaws.{room_new, moves, moves_device, new_puts, lawful_put, lawful_new}
use Rattle.crush_edits.proofs.Tails.{next_stays, form_stays, row_form}
use Rattle.crush_apply.specs.Placed.{place_at, CanPut, CanPutNew}
use Rattle.crush_apply.specs.Destination.{DestinationData, Leads}
use Rattle.crush_apply.proofs.Destinations.{placed_boxes}

-- A FOREST THAT REPRESENTS A TABLE has the items of the table, also after an item is removed from both
pub stands_there : (g : ForestData) (u : List Row) (i : ItemId) → Stands g u → is_there u i ≡ true → is_there (rows_of g) i ≡ true
stands_there g u i st there = is_there-same (rows_of g) u st.same.rows (stands_lawful g u st).ids i ∙ there

rows_without : (g : ForestData) (u : List Row) (i : ItemId) → Stands g u → Same (table_without i (rows_of g)) (table_without i u)
rows_without g u i st = Same-without i (rows_of g) u (stands_lawful g u st) st.same

pub stands_left : (g : ForestData) (u : List Row) (i j : ItemId) → Stands g u → is_there (table_without i u) j ≡ true → is_there (table_without i (rows_of g)) j ≡ true
stands_left g u i j st there =
    times-is_there (table_without i (rows_of g)) j (subst (λ n. 1 ≤ n) (sym (reordered-count (λ (r : Row). same_id r.id j) (rows_without g u i st).rows)) (is_there-times (table_without i u) j there))

-- the rows of the forest with an item that is put are lawful if the table after the put is
pub placed_lawful : (g : ForestData) (u v n : List Row) (i : ItemId) → Stands g u → Same (table_without i u ++ n) v → Lawful v → Lawful (table_without i (rows_of g) ++ n)
placed_lawful g u v n i st same lawful =
    let whole : Same (table_without i (rows_of g) ++ n) v = Same-trans (table_without i (rows_of g) ++ n) (table_without i u ++ n) v (Same-with n (table_without i (rows_of g)) (table_without i u) (rows_without g u i st)) same in
    Lawful-same v (table_without i (rows_of g) ++ n) (Same-sym (table_without i (rows_of g) ++ n) v whole) lawful

-- AN ITEM THAT THE TABLE HAS, with the weight that it gets
module _ (t : List Row) (l : Lawful t) (i : ItemId) (to : DestinationData) (leads : Leads t to) (r : Row) (w : ℕ) (found : row_of t i ≡ Some r) (can : CanPut t r w to.stops) where
  own : r.id ≡ i
  own = row_id i t r found

  found_own : row_of t r.id ≡ Some r
  found_own = ap (row_of t) own ∙ found

  pub few_new : has_too_many (t ++ rows_made t to.stops) ≡ false
  few_new = room_new t to.stops l leads.route r w found_own can.room

  pub still_there : is_there (t ++ rows_made t to.stops) i ≡ true
  still_there = is_there-append t (rows_made t to.stops) i (ap is_some found)

  pub next_there : (b : ℕ) → next_place t to.stops ≡ Some b → is_there (table_without i (t ++ rows_made t to.stops)) (Bucket b) ≡ true
  next_there b next =
      let stays : IfSome (next_place t to.stops) (λ k. is_there (table_without r.id (t ++ rows_made t to.stops)) (Bucket k) ≡ true) = next_stays t to.stops r l leads.route found_own can.apart few_new in
      subst (λ j. is_there (table_without j (t ++ rows_made t to.stops)) (Bucket b) ≡ true) own
      (subst (λ q. IfSome q (λ k. is_there (table_without r.id (t ++ rows_made t to.stops)) (Bucket k) ≡ true)) next stays)

  pub put_lawful : ((b : ℕ) → IsRow (record r { parent = Some b; weight = w })) → Lawful (put t (record r { weight = w }) to.stops)
  put_lawful form = lawful_put t to.stops l leads.route r w found_own can.apart form can.light can.room

  pub device_form : (d : ℕ) → i ≡ Device d → w ≤ HEAVIEST_DEVICE → (b : ℕ) → IsRow (record r { parent = Some b; weight = w })
  device_form d e light b = (form_stays r (row_form t l r.id r found_own)).1 d b w (own ∙ e) light

  pub device_same : (d : LeafData) (b : ℕ) → next_place t to.stops ≡ Some b → Same (rows None (device d none)) (part i (t ++ rows_made t to.stops))
      → Same (table_without i (t ++ rows_made t to.stops) ++ rows (Some b) (device (record d { weight = w }) none)) (put t (record r { weight = w }) to.stops)
  device_same d b next whole =
      subst (λ j. Same (table_without j (t ++ rows_made t to.stops) ++ rows (Some b) (device (record d { weight = w }) none)) (put t (record r { weight = w }) to.stops)) own
      (subst (λ q. Same (table_without r.id (t ++ rows_made t to.stops) ++ rows q (device (record d { weight = w }) none)) (put t (record r { weight = w }) to.stops)) next
      (moves_device t to.stops l leads.route r w found_own can.apart can.room d (subst (λ j. Same (rows None (device d none)) (part j (t ++ rows_made t to.stops))) (sym own) whole)))

-- the same with the weight that the item has
module _ (t : List Row) (l : Lawful t) (i : ItemId) (to : DestinationData) (leads : Leads t to) (r : Row) (found : row_of t i ≡ Some r) (can : CanPut t r r.weight to.stops) where
  pub item_form : (b : ℕ) → IsRow (record r { parent = Some b })
  item_form = (form_stays r (row_form t l i r found)).0

  pub item_same : (n : Items) (b : ℕ) → next_place t to.stops ≡ Some b → IsOne n → Same (rows None n) (part i (t ++ rows_made t to.stops)) → Same (table_without i (t ++ rows_made t to.stops) ++ rows (Some b) n) (put t r to.stops)
  item_same n b next one whole =
      let own_id = row_id i t r found in
      subst (λ j. Same (table_without j (t ++ rows_made t to.stops) ++ rows (Some b) n) (put t r to.stops)) own_id
      (subst (λ q. Same (table_without r.id (t ++ rows_made t to.stops) ++ rows q n) (put t r to.stops)) next
      (moves t to.stops l leads.route r n (ap (row_of t) own_id ∙ found) can.apart can.room one (subst (λ j. Same (rows None n) (part j (t ++ rows_made t to.stops))) (sym own_id) whole)))

-- A DEVICE THAT THE TABLE DOESN'T HAVE, in its new buckets
module _ (t : List Row) (l : Lawful t) (to : DestinationData) (leads : Leads t to) (d : LeafData) (can : CanPutNew t d to.stops) where
  abbrev ns : List NewData
  ns = new_buckets t to.stops

  -- what is added to the receiver
  abbrev pub new_item : Items
  new_item = boxes 1 (device d none) ns

  pub new_same : Same (t ++ rows to.receiver new_item) (put t (device_row None d) to.stops)
  new_same =
      let are : t ++ rows to.receiver new_item ≡ (t ++ rows_made t to.stops) ++ rows (next_place t to.stops) (device d none) =
      ap (λ o. t ++ rows o new_item) leads.receiver ∙ ap (λ z. t ++ z) (rows-boxes 1 (device d none) ns (receiver t to.stops)) ∙ sym (append_assoc t (rows_made t to.stops) (rows (next_place t to.stops) (device d none))) in
      Same-trans (t ++ rows to.receiver new_item) ((t ++ rows_made t to.stops) ++ rows (next_place t to.stops) (device d none)) (put t (device_row None d) to.stops) (Same-is are) (new_puts t to.stops l leads.route d can.gone)

  pub new_lawful : Lawful (t ++ rows to.receiver new_item)
  new_lawful =
      Lawful-same (put t (device_row None d) to.stops) (t ++ rows to.receiver new_item) (Same-sym (t ++ rows to.receiver new_item) (put t (device_row None d) to.stops) new_same)
      (lawful_new t to.stops l leads.route d can.gone can.unnamed can.other can.form can.light can.room)

  pub new_fits : FitsPlace (place_at to.receiver) new_item
  new_fits = let next = route_next t to.stops leads.route in placed_boxes to.receiver 1 (device d none) ns next.0 (ap (next_up ns) leads.receiver ∙ next.1)

-- THE PART of a device, which is the device with everything below it, is just the device
devices_if : (c : Bool) (d : LeafData) (s : Items) → OnlyDevices s → OnlyDevices (if c then device d s else s)
devices_if true d s o = o
devices_if false d s o = o

pub part_devices : (d : ℕ) (s : Items) → OnlyDevices (part_of (Device d) s)
part_devices d none = tt
part_devices d (device x s) = devices_if (same_id (Device x.id) (Device d)) x (part_of (Device d) s) (part_devices d s)
part_devices d (bucket h w m k s) = OnlyDevices-join (part_of (Device d) k) (part_of (Device d) s) (part_devices d k) (part_devices d s)

pub one_device : (n : Items) → OnlyDevices n → IsOne n → (d : LeafData) × (n ≡ device d none)
one_device none o one = absurd one
one_device (device d none) o one = (d, refl)
one_device (device d (device e s)) o one = absurd one
one_device (device d (bucket h w m k s)) o one = absurd one
one_device (bucket h w m k s) o one = absurd o

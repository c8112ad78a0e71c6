-- The sums and counts of the table after an item was put at a destination.
use Rattle.std.proofs.Common.{◌≡◌, ℕ, ◌+◌, ◌<◌, ◌≤◌, Bool, true, false, List, [], ◌∷◌, ◌++◌, ap, sym, subst, ◌∙◌, arith}
use Rattle.std.proofs.lemmas.Bool.Decides.{nat_tests}
use Rattle.std.specs.Prelude.{Some, None, IfSome, ◌||◌, nat_lt, nat_le, not}
use Rattle.crush_units.specs.declared.id.ItemId.{ItemId}
use Rattle.crush_units.specs.declared.id.ItemId.TheVariants.{Device, Bucket}
use Rattle.crush_units.specs.declared.limits.TheConstants.{HEAVIEST_BUCKET, HEAVIEST_DEVICE, MOST_BUCKETS, MOST_DEVICES}
use Rattle.crush_model.specs.Columns.{table_without, part, is_part}
use Rattle.crush_model.specs.Items.{LeafData, Items, none, device, bucket}
use Rattle.crush_model.specs.ItemRows.{rows, device_row}
use Rattle.crush_model.specs.Law.{IsOne}
use Rattle.crush_model.specs.Lawful.{Lawful, is_too_heavy, has_too_many}
use Rattle.crush_model.specs.Same.{Same}
use Rattle.crush_model.specs.Stored.{weight_sum, StoresSums}
use Rattle.crush_model.specs.Table.{Row, row_of, is_there, device_count, bucket_count}
use Rattle.crush_model.proofs.Moved.{row_id}
use Rattle.crush_nodes.specs.Ops.{CanCome, StoresUpTo}
use Rattle.crush_nodes.specs.Room.{parent_at}
use Rattle.crush_edits.specs.Boxes.{boxes}
use Rattle.crush_edits.specs.LawPut.{route_boxes, OnceIds, IsApart}
use Rattle.crush_edits.specs.Put.{NewData, new_header, new_buckets, put}
use Rattle.crush_edits.specs.Stops.{receiver}
use Rattle.crush_edits.proofs.Boxes.{weight_sum-boxes, StoresSums-boxes}
use Rattle.crush_edits.proofs.PutLaws.{boxed_item, boxed_device, boxed_new, counts_put, counts_new}
use Rattle.crush_edits.proofs.Routes.{route_next}
use Rattle.crush_apply.specs.Placed.{place_at}
use Rattle.crush_apply.specs.Destination.{DestinationData, Leads}
use Rattle.crush_apply.proofs.Destinations.{parent_of_place, placed_boxes}

-- COUNTS: for an item that the table has, and for a device that it doesn't have
too_many : (d b e c k : ℕ) → e ≤ MOST_DEVICES → d ≡ e → b ≡ c + k → nat_lt MOST_BUCKETS (c + k) ≡ (nat_lt MOST_DEVICES d || nat_lt MOST_BUCKETS b)
too_many d b e c k few same more = grind (arith, nat_tests)

pub lacks_room_is : (t : List Row) (to : DestinationData) (r : Row) (w fresh buckets : ℕ) → Lawful t → Leads t to → fresh ≡ to.fresh → row_of t r.id ≡ Some r → buckets ≡ bucket_count t
    → nat_lt MOST_BUCKETS (buckets + fresh) ≡ has_too_many (put t (record r { weight = w }) to.stops)
lacks_room_is t to r w fresh buckets l leads many found counted =
    let counts = counts_put t to.stops l leads.route r w found in
    too_many (device_count (put t (record r { weight = w }) to.stops)) (bucket_count (put t (record r { weight = w }) to.stops)) (device_count t) buckets fresh l.devices counts.0 (omega (arith, counts.1, many, leads.fresh, counted))

pub lacks_room_new : (t : List Row) (to : DestinationData) (d : LeafData) (fresh devices buckets : ℕ) → Lawful t → Leads t to → fresh ≡ to.fresh → is_there t (Device d.id) ≡ false → devices ≡ device_count t → buckets ≡ bucket_count t
    → (nat_lt MOST_DEVICES (devices + 1) || nat_lt MOST_BUCKETS (buckets + fresh)) ≡ has_too_many (put t (device_row None d) to.stops)
lacks_room_new t to d fresh devices buckets l leads many gone counted_devices counted =
    let counts = counts_new t to.stops l leads.route d gone in
    let more : devices + 1 ≡ device_count (put t (device_row None d) to.stops) = omega (arith, counts.0, counted_devices) in
    let made : buckets + fresh ≡ bucket_count (put t (device_row None d) to.stops) = omega (arith, counts.1, many, leads.fresh, counted) in
    λ j. nat_lt MOST_DEVICES (more j) || nat_lt MOST_BUCKETS (made j)

-- the receiver isn't part of the item
pub receiver_apart : (t : List Row) (i : ItemId) (to : DestinationData) → Leads t to → IsApart t i to.stops → IfSome (parent_at (place_at to.receiver)) (λ b. is_part t i (Bucket b) ≡ false)
receiver_apart t i to leads apart = subst (λ o. IfSome o (λ b. is_part t i (Bucket b) ≡ false)) (sym (parent_of_place to.receiver ∙ leads.receiver)) apart

-- the sums that nested new buckets store are in range if the item's weight is
small-boxes : (m : ℕ) (n : Items) (ns : List NewData) → weight_sum n ≤ HEAVIEST_BUCKET → StoresUpTo HEAVIEST_BUCKET n → StoresUpTo HEAVIEST_BUCKET (boxes m n ns)
small-boxes m n [] le s = s
small-boxes m n (x ∷ ns) le s = small-boxes m (bucket (new_header x) (weight_sum n) m n none) ns (omega (arith, le)) (le, s, tt)

-- THE TEST of sums, for the new buckets with the item in them
module _ (t : List Row) (l : Lawful t) (to : DestinationData) (leads : Leads t to) where
  parent_is : receiver t to.stops ≡ parent_at (place_at to.receiver)
  parent_is = sym (parent_of_place to.receiver ∙ leads.receiver)

  come : (u : List Row) (n : Items) → OnceIds (u ++ rows (receiver t to.stops) (route_boxes 1 n t to.stops)) → StoresSums n → StoresUpTo HEAVIEST_BUCKET n → weight_sum n ≤ HEAVIEST_BUCKET → CanCome u (place_at to.receiver) (route_boxes 1 n t to.stops)
  come u n once sums small light =
      let next = route_next t to.stops leads.route in
      record {
        sums = StoresSums-boxes 1 n (new_buckets t to.stops) sums;
        small = small-boxes 1 n (new_buckets t to.stops) light small;
        kind = placed_boxes to.receiver 1 n (new_buckets t to.stops) next.0 (ap (λ q. Rattle.crush_edits.specs.Put.next_up (new_buckets t to.stops) q) leads.receiver ∙ next.1);
        apart = subst (λ q. OnceIds (u ++ rows q (route_boxes 1 n t to.stops))) parent_is once;
      }

  -- the result of a test that holds for every item of this weight that could be put there
  told : (u : List Row) (n : Items) (v : List Row) (w : ℕ) (answer : Bool)
      → OnceIds (u ++ rows (receiver t to.stops) (route_boxes 1 n t to.stops)) × (is_too_heavy (u ++ rows (receiver t to.stops) (route_boxes 1 n t to.stops)) ≡ is_too_heavy v)
      → StoresSums n → StoresUpTo HEAVIEST_BUCKET n → weight_sum n ≤ HEAVIEST_BUCKET → weight_sum n ≡ w
      → ((m : Items) → weight_sum m ≡ w → CanCome u (place_at to.receiver) m → answer ≡ not (is_too_heavy (u ++ rows (parent_at (place_at to.receiver)) m)))
      → answer ≡ not (is_too_heavy v)
  told u n v w answer both sums small light is test =
      test (route_boxes 1 n t to.stops) (weight_sum-boxes 1 n (new_buckets t to.stops) ∙ is) (come u n both.0 sums small light)
      ∙ ap (λ q. not (is_too_heavy (u ++ rows q (route_boxes 1 n t to.stops)))) (sym parent_is) ∙ ap not both.1

  -- an item with the weight that it has
  pub item_told : (i : ItemId) (r : Row) (n : Items) (w : ℕ) (answer : Bool) → row_of t i ≡ Some r → IsApart t i to.stops → has_too_many (put t r to.stops) ≡ false
      → IsOne n → Same (rows None n) (part i t) → StoresSums n → StoresUpTo HEAVIEST_BUCKET n → weight_sum n ≤ HEAVIEST_BUCKET → weight_sum n ≡ w
      → ((m : Items) → weight_sum m ≡ w → CanCome (table_without i t) (place_at to.receiver) m → answer ≡ not (is_too_heavy (table_without i t ++ rows (parent_at (place_at to.receiver)) m)))
      → answer ≡ not (is_too_heavy (put t r to.stops))
  item_told i r n w answer found apart room one whole sums small light is test =
      let own = row_id i t r found in
      let both : OnceIds (table_without i t ++ rows (receiver t to.stops) (route_boxes 1 n t to.stops)) × (is_too_heavy (table_without i t ++ rows (receiver t to.stops) (route_boxes 1 n t to.stops)) ≡ is_too_heavy (put t r to.stops)) =
      subst (λ j. OnceIds (table_without j t ++ rows (receiver t to.stops) (route_boxes 1 n t to.stops)) × (is_too_heavy (table_without j t ++ rows (receiver t to.stops) (route_boxes 1 n t to.stops)) ≡ is_too_heavy (put t r to.stops))) own
      (boxed_item t to.stops l leads.route 1 r n (ap (row_of t) own ∙ found) (subst (λ j. IsApart t j to.stops) (sym own) apart) room one (subst (λ j. Same (rows None n) (part j t)) (sym own) whole)) in
      told (table_without i t) n (put t r to.stops) w answer both sums small light is test

  -- a device with another weight
  pub device_told : (i : ItemId) (r : Row) (d : LeafData) (w : ℕ) (answer : Bool) → row_of t i ≡ Some r → IsApart t i to.stops → has_too_many (put t (record r { weight = w }) to.stops) ≡ false
      → Same (rows None (device d none)) (part i t) → w ≤ HEAVIEST_DEVICE
      → ((m : Items) → weight_sum m ≡ w → CanCome (table_without i t) (place_at to.receiver) m → answer ≡ not (is_too_heavy (table_without i t ++ rows (parent_at (place_at to.receiver)) m)))
      → answer ≡ not (is_too_heavy (put t (record r { weight = w }) to.stops))
  device_told i r d w answer found apart room whole light test =
      let own = row_id i t r found in
      let n : Items = device (record d { weight = w }) none in
      let after : Row = record r { weight = w } in
      let both : OnceIds (table_without i t ++ rows (receiver t to.stops) (route_boxes 1 n t to.stops)) × (is_too_heavy (table_without i t ++ rows (receiver t to.stops) (route_boxes 1 n t to.stops)) ≡ is_too_heavy (put t after to.stops)) =
      subst (λ j. OnceIds (table_without j t ++ rows (receiver t to.stops) (route_boxes 1 n t to.stops)) × (is_too_heavy (table_without j t ++ rows (receiver t to.stops) (route_boxes 1 n t to.stops)) ≡ is_too_heavy (put t after to.stops))) own
      (boxed_device t to.stops l leads.route r w (ap (row_of t) own ∙ found) 1 (subst (λ j. IsApart t j to.stops) (sym own) apart) room d (subst (λ j. Same (rows None (device d none)) (part j t)) (sym own) whole)) in
      told (table_without i t) n (put t after to.stops) w answer both tt tt (omega (arith, light)) (omega arith) test

  -- a device that the table doesn't have
  pub new_told : (d : LeafData) (w : ℕ) (answer : Bool) → is_there t (Device d.id) ≡ false → d.weight ≡ w → w ≤ HEAVIEST_DEVICE
      → ((m : Items) → weight_sum m ≡ w → CanCome t (place_at to.receiver) m → answer ≡ not (is_too_heavy (t ++ rows (parent_at (place_at to.receiver)) m)))
      → answer ≡ not (is_too_heavy (put t (device_row None d) to.stops))
  new_told d w answer gone is light test =
      told t (device d none) (put t (device_row None d) to.stops) w answer (boxed_new t to.stops l leads.route d gone 1) tt tt (omega (arith, is, light)) (omega (arith, is)) test

-- if the table has as many devices as are allowed, one more is too many, whatever the number of buckets is
pub full_of_devices : (d : ℕ) (b : Bool) → MOST_DEVICES ≤ d → nat_le MOST_DEVICES d ≡ (nat_lt MOST_DEVICES (d + 1) || b)
full_of_devices d b h = let one : nat_le MOST_DEVICES d ≡ true = grind (arith, nat_tests) in let other : nat_lt MOST_DEVICES (d + 1) ≡ true = grind (arith, nat_tests) in one ∙ ap (λ z. z || b) (sym other)

pub room_for_devices : (d : ℕ) (b : Bool) → d < MOST_DEVICES → b ≡ (nat_lt MOST_DEVICES (d + 1) || b)
room_for_devices d b h = let no : nat_lt MOST_DEVICES (d + 1) ≡ false = grind (arith, nat_tests) in ap (λ z. z || b) (sym no)

-- Proves that the table is lawful after a device has moved to a bucket and has got another weight.
use Rattle.std.proofs.Common.{◌≡◌, ℕ, ◌≤◌, Bool, true, false, not, refl, List, [], ◌∷◌, ◌++◌, ap, sym, ◌∙◌, arith}
use Rattle.std.specs.Prelude.{Some, None, is_some, if◌then◌else◌}
use Rattle.crush_units.specs.Id.{same_id}
use Rattle.crush_units.specs.declared.id.ItemId.TheVariants.{Device, Bucket}
use Rattle.crush_units.specs.declared.limits.TheConstants.{HEAVIEST_DEVICE}
use Rattle.crush_model.specs.Columns.{is_part, part, table_without, without_row}
use Rattle.crush_model.specs.Forest.{OnlyDevices}
use Rattle.crush_model.specs.ItemRows.{rows}
use Rattle.crush_model.specs.Items.{LeafData, Items, none, device, bucket}
use Rattle.crush_model.specs.Law.{IsOne}
use Rattle.crush_model.specs.Lawful.{IsRow, Lawful, is_too_heavy}
use Rattle.crush_model.specs.Same.{Same}
use Rattle.crush_model.specs.Stored.{weight_sum}
use Rattle.crush_model.specs.Table.{Row, row_of, is_there}
use Rattle.crush_model.proofs.Forms.{placed_device}
use Rattle.crush_model.proofs.Found.{Distinct, Distinct-same}
use Rattle.crush_model.proofs.Kept.{Distinct-map}
use Rattle.crush_model.proofs.Moved.{at_parent, place, place-id, placed_last, row_id, Lawful-moved}
use Rattle.crush_model.proofs.Relocated.{relocate_device}
use Rattle.crush_model.proofs.Removed.{row_of-only}
use Rattle.crush_model.proofs.Renamed.{All-row}
use Rattle.crush_model.proofs.Reorder.{reordered-sym}
use Rattle.crush_model.proofs.Same.{Same-sym, Lawful-same, is_too_heavy-same}
use Rattle.crush_nodes.proofs.LastSteps.{OnlyDevices-join}
use Rattle.crush_nodes.specs.Ops.{CanCome, part_of}
use Rattle.crush_nodes.specs.declared.place.Place.TheVariants.{Bucket as AtBucket}
use Rattle.crush_hierarchy.specs.Given.{with_given}
use Rattle.crush_map_tests.proofs.Passed.{found, passed}

-- the table without the device still has each bucket
pub left_there : (t : List Row) (d b : ℕ) → is_there t (Bucket b) ≡ true → is_there (table_without (Device d) t) (Bucket b) ≡ true
left_there t d b there = ap is_some (row_of-only (λ j. not (is_part t (Device d) j)) t (Bucket b)) ∙ there

-- the only item that is removed is the device
devices_if : (c : Bool) (x : LeafData) (s : Items) → OnlyDevices s → OnlyDevices (if c then device x s else s)
devices_if true x s h = h
devices_if false x s h = h

part_devices : (d : ℕ) (s : Items) → OnlyDevices (part_of (Device d) s)
part_devices d none = tt
part_devices d (device x s) = devices_if (same_id (Device x.id) (Device d)) x (part_of (Device d) s) (part_devices d s)
part_devices d (bucket h w m k s) = OnlyDevices-join (part_of (Device d) k) (part_of (Device d) s) (part_devices d k) (part_devices d s)

-- the test whether sums of weights stay in range, which the move passes
abbrev Passes : List Row → ℕ → ℕ → ℕ → Type 0
Passes t d b w =
    (m : Items) → weight_sum m ≡ w → CanCome (table_without (Device d) t) (AtBucket b) m → true ≡ not (is_too_heavy (table_without (Device d) t ++ rows (Some b) m))

module _ (t : List Row) (l : Lawful t) (d b w : ℕ) (r : Row) (is : row_of t (Device d) ≡ Some r) where
  abbrev last : List Row
  last = without_row (Device d) t ++ at_parent (Some b) w r ∷ []

  -- the row of the device is the last row, and no id occurs twice
  distinct : Distinct last
  distinct = Distinct-same (placed_last (Device d) (Some b) w t r (l.ids (Device d)) is) (Distinct-map (place (Device d) (Some b) w) (place-id (Device d) (Some b) w) t l.ids)

  last_lawful : (e : LeafData) → is_there t (Bucket b) ≡ true → w ≤ HEAVIEST_DEVICE → Same (rows None (device e none)) (part (Device d) t) → Passes t d b w → Lawful (table_without (Device d) t ++ rows (Some b) (device (record e { weight = w }) none))
  last_lawful e there light whole test =
      let m : Items = device (record e { weight = w }) none in
      let u : List Row = table_without (Device d) t ++ rows (Some b) m in
      let moved : Same u last = relocate_device t (Device d) (Some b) e w r l is whole refl in
      let apart : Distinct u = Distinct-same (reordered-sym moved.rows) distinct in
      let can : CanCome (table_without (Device d) t) (AtBucket b) m = record { sums = tt; small = tt; kind = tt; apart = apart } in
      let fits : is_too_heavy u ≡ false = passed (is_too_heavy u) (test m (omega arith) can) in
      let row : IsRow (at_parent (Some b) w r) = placed_device d b w r (row_id (Device d) t r is) light (All-row IsRow t l.rows (Device d) r is) in
      Lawful-same last u (Same-sym u last moved) (Lawful-moved t (Device d) b w r l is there refl row (sym (is_too_heavy-same u last moved.rows apart) ∙ fits))

-- the table with the device at its new place is lawful
pub put_lawful : (t : List Row) (d b w : ℕ) (s : Items) → Lawful t → is_there t (Device d) ≡ true → is_there t (Bucket b) ≡ true → w ≤ HEAVIEST_DEVICE → IsOne (part_of (Device d) s) → Same (rows None (part_of (Device d) s)) (part (Device d) t)
    → Passes t d b w → Lawful (table_without (Device d) t ++ rows (Some b) (with_given (Some w) (part_of (Device d) s)))
put_lawful t d b w s l here there light one whole test = by_item (part_of (Device d) s) (part_devices d s) one whole where
  row : (r : Row) × (row_of t (Device d) ≡ Some r)
  row = found (row_of t (Device d)) here

  by_item : (n : Items) → OnlyDevices n → IsOne n → Same (rows None n) (part (Device d) t) → Lawful (table_without (Device d) t ++ rows (Some b) (with_given (Some w) n))
  by_item none o i h = absurd i
  by_item (device e none) o i h = last_lawful t l d b w row.0 row.1 e there light h test
  by_item (device e (device f rest)) o i h = absurd i
  by_item (device e (bucket g v m kids rest)) o i h = absurd i
  by_item (bucket g v m kids rest) o i h = absurd o

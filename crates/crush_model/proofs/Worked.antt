-- The items, sums and total of the example map, by computation, and what some changes do to them.
use Rattle.std.specs.Prelude.{◌≡◌, ℕ, ◌*◌, List, [], ◌∷◌, ◌++◌, Some, None, true, false, codes, refl}
use Rattle.crush_units.specs.declared.id.ItemId.TheVariants.{Device, Bucket}
use Rattle.crush_units.specs.declared.alg.Alg.TheVariants.{Straw2}
use Rattle.crush_units.specs.declared.limits.TheConstants.{HEAVIEST_DEVICE}
use Rattle.crush_model.specs.Items.{LeafData, HeaderData, none, device, bucket}
use Rattle.crush_model.specs.Table.{Row, id_named, is_named, parent_of, kind_of, is_placed, above, is_below, kids, sum_below, total, weight_of, device_count, bucket_count, used_ids, free_ids}
use Rattle.crush_model.specs.Lawful.{Lawful, is_too_heavy, has_too_many}
use Rattle.crush_model.specs.Tested.{is_lawful}
use Rattle.crush_model.proofs.Tested.{Lawful-tested}
use Rattle.crush_model.specs.Forest.{ForestData, rows_of, all_items, IsSound}
use Rattle.crush_model.specs.ItemRows.{rows}
use Rattle.crush_model.specs.Stored.{stored_weight}
use Rattle.crush_model.specs.Columns.{set_weight, set_subtree, table_without, part, without_row, exchange_parents, swap_buckets}

abbrev leaf : ℕ → List ℕ → ℕ → LeafData
leaf d n w = record { id = d; name = n; weight = w; class = None }

abbrev header : ℕ → ℕ → List ℕ → HeaderData
header b k n = record { id = b; kind = k; name = n; alg = Straw2; class_ids = [] }

-- hosts h1 (-2) and h2 (-3) in the root default (-1)
abbrev example : ForestData
example = record {
  roots = bucket (header 1 11 (codes "default")) 163840 2
      (bucket (header 2 1 (codes "h1")) 131072 2 (device (leaf 0 (codes "osd.0") 65536) (device (leaf 1 (codes "osd.1") 65536) none))
      (bucket (header 3 1 (codes "h2")) 32768 1 (device (leaf 2 (codes "osd.2") 32768) none) none)) none;
  unplaced = none;
  root_capacity = 1;
  unplaced_capacity = 0;
}

abbrev map : List Row
map = rows_of example

root_kids : kids map 1 ≡ Bucket 2 ∷ (Bucket 3 ∷ [])
root_kids = refl

host_kids : kids map 2 ≡ Device 0 ∷ (Device 1 ∷ [])
host_kids = refl

other_kids : kids map 3 ≡ Device 2 ∷ []
other_kids = refl

root_sum : sum_below map 1 ≡ 163840
root_sum = refl

host_sum : sum_below map 2 ≡ 131072
host_sum = refl

other_sum : sum_below map 3 ≡ 32768
other_sum = refl

all_weight : total map ≡ 163840
all_weight = refl

stores : stored_weight 2 (all_items example) ≡ 131072
stores = refl

-- columns of one item
named : id_named map (codes "h2") ≡ Some (Bucket 3)
named = refl

unknown : is_named map (codes "h3") ≡ false
unknown = refl

parent : parent_of map (Device 2) ≡ Some 3
parent = refl

root_parent : is_placed map (Bucket 1) ≡ false
root_parent = refl

kind : kind_of map (Bucket 1) ≡ Some 11
kind = refl

climbs : above map (Device 0) ≡ 2 ∷ (1 ∷ [])
climbs = refl

below : is_below map 1 (Device 2) ≡ true
below = refl

beside : is_below map 2 (Device 2) ≡ false
beside = refl

bucket_weight : weight_of map (Bucket 2) ≡ Some 131072
bucket_weight = refl

-- counts and ids
devices : device_count map ≡ 3
devices = refl

buckets : bucket_count map ≡ 3
buckets = refl

used : used_ids map ≡ 1 ∷ (2 ∷ (3 ∷ []))
used = refl

free : free_ids map 2 ≡ 4 ∷ (5 ∷ [])
free = refl

-- osd.2 weighs 65536 units: each bucket above it weighs 32768 more
heavier : sum_below (set_weight (Device 2) 65536 map) 3 ≡ 65536
heavier = refl

heavier_root : sum_below (set_weight (Device 2) 65536 map) 1 ≡ 196608
heavier_root = refl

heavier_host : sum_below (set_weight (Device 2) 65536 map) 2 ≡ 131072
heavier_host = refl

-- each device of h1 weighs 16384
lighter : sum_below (set_subtree 2 16384 map) 2 ≡ 32768
lighter = refl

lighter_root : sum_below (set_subtree 2 16384 map) 1 ≡ 65536
lighter_root = refl

-- osd.0 moved into h2, with its own weight
abbrev moved : List Row
moved = without_row (Device 0) map ++ (record { id = Device 0; kind = 0; name = codes "osd.0"; parent = Some 3; weight = 65536; class = None; alg = None; class_ids = [] } ∷ [])

moved_kids : kids moved 3 ≡ Device 2 ∷ (Device 0 ∷ [])
moved_kids = refl

moved_host : sum_below moved 2 ≡ 65536
moved_host = refl

moved_other : sum_below moved 3 ≡ 98304
moved_other = refl

moved_root : sum_below moved 1 ≡ 163840
moved_root = refl

-- h1 and h2 exchange their items and their names
abbrev swapped : List Row
swapped = swap_buckets 2 3 map

swapped_kids : kids swapped 2 ≡ Device 2 ∷ []
swapped_kids = refl

swapped_sum : sum_below swapped 3 ≡ 131072
swapped_sum = refl

swapped_name : id_named swapped (codes "h1") ≡ Some (Bucket 3)
swapped_name = refl

swapped_root : sum_below swapped 1 ≡ 163840
swapped_root = refl

-- h2 is removed with all that is below it
left : kids (table_without (Bucket 3) map) 1 ≡ Bucket 2 ∷ []
left = refl

left_sum : sum_below (table_without (Bucket 3) map) 1 ≡ 131072
left_sum = refl

taken : total (part (Bucket 3) map) ≡ 32768
taken = refl

-- three devices of the greatest weight in two buckets below one root, whose sum is above HEAVIEST_BUCKET
abbrev heavy : List Row
heavy = rows_of (record {
  roots = bucket (header 5 3 (codes "rx")) (3 * HEAVIEST_DEVICE) 2
      (bucket (header 4 1 (codes "hx")) (2 * HEAVIEST_DEVICE) 2 (device (leaf 10 (codes "osd.10") HEAVIEST_DEVICE) (device (leaf 11 (codes "osd.11") HEAVIEST_DEVICE) none))
      (bucket (header 6 1 (codes "hy")) HEAVIEST_DEVICE 2 (device (leaf 12 (codes "osd.12") HEAVIEST_DEVICE) none) none)) none;
  unplaced = none;
  root_capacity = 1;
  unplaced_capacity = 0;
})

fits_still : is_too_heavy (table_without (Bucket 6) heavy) ≡ false
fits_still = refl

fits_no_more : is_too_heavy heavy ≡ true
fits_no_more = refl

room : has_too_many map ≡ false
room = refl

-- a device of 21823 units in a new host h3 (-4) in a new rack r1 (-5) in default
abbrev added : List Row
added = map ++ rows (Some 1) (bucket (header 5 3 (codes "r1")) 21823 1 (bucket (header 4 1 (codes "h3")) 21823 1 (device (leaf 3 (codes "osd.3") 21823) none) none) none)

added_kids : kids added 1 ≡ Bucket 2 ∷ (Bucket 3 ∷ (Bucket 5 ∷ []))
added_kids = refl

added_sum : sum_below added 1 ≡ 185663
added_sum = refl

added_rack : sum_below added 5 ≡ 21823
added_rack = refl

added_lawful : is_lawful added ≡ true
added_lawful = refl

-- two buckets whose sums would be out of range after a swap: a (-2) with one device in p (-1), and q (-3) with two devices
abbrev full : List Row
full = rows None (bucket (header 1 11 (codes "p")) (2 * HEAVIEST_DEVICE) 2 (bucket (header 2 1 (codes "a")) HEAVIEST_DEVICE 1 (device (leaf 0 (codes "d0") HEAVIEST_DEVICE) none) (device (leaf 1 (codes "d1") HEAVIEST_DEVICE) none))
    (bucket (header 3 11 (codes "q")) (2 * HEAVIEST_DEVICE) 2 (device (leaf 2 (codes "d2") HEAVIEST_DEVICE) (device (leaf 3 (codes "d3") HEAVIEST_DEVICE) none)) none))

full_fits : is_too_heavy full ≡ false
full_fits = refl

full_swapped : is_too_heavy (swap_buckets 2 3 full) ≡ true
full_swapped = refl

-- the example map is lawful, and so are the tables that the changes give
pub example_lawful : Lawful map
example_lawful = Lawful-tested map refl

pub example_sound : IsSound example
example_sound = record { lawful = example_lawful; sums = (refl, (refl, tt, (refl, tt, tt)), tt); roots = tt; unplaced = tt }

moved_lawful : is_lawful moved ≡ true
moved_lawful = refl

swapped_lawful : is_lawful swapped ≡ true
swapped_lawful = refl

-- these tables are not lawful: one has a device twice, and one has a bucket in itself
twice : is_lawful (map ++ rows (Some 3) (device (leaf 0 (codes "disk") 65536) none)) ≡ false
twice = refl

loop : is_lawful (exchange_parents 1 2 map) ≡ false
loop = refl

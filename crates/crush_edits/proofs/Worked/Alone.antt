-- For each refusal except NoRoom, edits for which only its test holds. Each comment begins with the number of the refusal.
use Rattle.std.proofs.Common.{◌≡◌, ◌+◌, [], ◌∷◌, refl}
use Rattle.std.specs.Prelude.{codes, None}
use Rattle.crush_units.specs.declared.limits.TheConstants.{HEAVIEST_DEVICE}
use Rattle.crush_edits.specs.declared.edit.Edit.TheVariants.{Place, Move, Swap, Reweight, ReweightSubtree, Remove, AddBucket, Rename, SetClass, RemoveClass}
use Rattle.crush_edits.specs.declared.edit.Placing.TheVariants.{Insert, CreateOrMove, Update}
use Rattle.crush_edits.proofs.Worked.Examples.{a_bucket, table_with_spare, table_with_classes, heavy_table, example_setting, plain_setting, at, host, rack, root, holding}

-- 1: a bucket of the location has the device's name, also above the end of the route
bad_name : holding example_setting table_with_spare (Place Insert 3 (codes "osd.3") 65536 (host (codes "osd.3") ∷ [])) ≡ 1 ∷ []
bad_name = refl

bad_name_above : holding example_setting table_with_spare (Place Insert 3 (codes "osd.3") 65536 (host (codes "h1") ∷ (rack (codes "osd.3") ∷ []))) ≡ 1 ∷ []
bad_name_above = refl

-- 2: a type twice, a bucket twice, type 0
type_twice : holding example_setting table_with_spare (Place Insert 3 (codes "osd.3") 65536 (host (codes "h1") ∷ (host (codes "h2") ∷ []))) ≡ 2 ∷ []
type_twice = refl

bucket_twice : holding example_setting table_with_spare (Place Insert 3 (codes "osd.3") 65536 (host (codes "n1") ∷ (rack (codes "n1") ∷ []))) ≡ 2 ∷ []
bucket_twice = refl

type_zero : holding example_setting table_with_spare (Place Insert 3 (codes "osd.3") 65536 (at (codes "osd") (codes "x") ∷ [])) ≡ 2 ∷ []
type_zero = refl

bucket_called_as_type : holding example_setting table_with_spare (Place Insert 3 (codes "osd.3") 65536 (host (codes "osd") ∷ (rack (codes "host") ∷ []))) ≡ []
bucket_called_as_type = refl

-- 3: of a location, of a new bucket
no_type : holding example_setting table_with_spare (Place Insert 3 (codes "osd.3") 65536 (at (codes "pod") (codes "p") ∷ [])) ≡ 3 ∷ []
no_type = refl

no_type_of_bucket : holding example_setting table_with_spare (AddBucket (codes "x") (codes "pod")) ≡ 3 ∷ []
no_type_of_bucket = refl

-- 4
no_place : holding example_setting table_with_spare (Place Insert 3 (codes "osd.3") 65536 []) ≡ 4 ∷ []
no_place = refl

no_place_of_move : holding example_setting table_with_spare (Move (codes "h1") []) ≡ 4 ∷ []
no_place_of_move = refl

-- 5: the weight of a new device, and of a device that is already at its location, if the edit sets the weight and if it doesn't use it
too_large : holding example_setting table_with_spare (Place Insert 13 (codes "osd.13") (HEAVIEST_DEVICE + 1) (host (codes "hy") ∷ [])) ≡ 5 ∷ []
too_large = refl

too_large_set : holding example_setting table_with_spare (Place Update 1 (codes "osd.1") (HEAVIEST_DEVICE + 1) (host (codes "h1") ∷ [])) ≡ 5 ∷ []
too_large_set = refl

too_large_unused : holding example_setting table_with_spare (Place CreateOrMove 1 (codes "osd.1") (HEAVIEST_DEVICE + 1) (host (codes "h1") ∷ [])) ≡ 5 ∷ []
too_large_unused = refl

-- 6
nothing_moves : holding example_setting table_with_spare (Move (codes "x") (host (codes "h1") ∷ [])) ≡ 6 ∷ []
nothing_moves = refl

nothing_swaps : holding example_setting table_with_spare (Swap (codes "x") (codes "h1")) ≡ 6 ∷ []
nothing_swaps = refl

nothing_reweighs : holding example_setting table_with_spare (Reweight (codes "x") 65536) ≡ 6 ∷ []
nothing_reweighs = refl

nothing_reweighs_below : holding example_setting table_with_spare (ReweightSubtree (codes "x") 65536) ≡ 6 ∷ []
nothing_reweighs_below = refl

nothing_goes : holding example_setting table_with_spare (Remove (codes "x")) ≡ 6 ∷ []
nothing_goes = refl

nothing_is_renamed : holding example_setting table_with_spare (Rename (codes "x") (codes "y")) ≡ 6 ∷ []
nothing_is_renamed = refl

nothing_gets_a_class : holding example_setting table_with_classes (SetClass (codes "x") (codes "ssd")) ≡ 6 ∷ []
nothing_gets_a_class = refl

nothing_loses_its_class : holding example_setting table_with_classes (RemoveClass (codes "x")) ≡ 6 ∷ []
nothing_loses_its_class = refl

-- 7: a bucket's name, another name of the device that is there, a name for a bucket
name_of_bucket : holding example_setting table_with_spare (Place Insert 3 (codes "h1") 65536 (rack (codes "r1") ∷ [])) ≡ 7 ∷ []
name_of_bucket = refl

other_name_of_device : holding example_setting table_with_spare (Place Insert 9 (codes "disk") 65536 (host (codes "h1") ∷ [])) ≡ 7 ∷ []
other_name_of_device = refl

name_of_other_device : holding example_setting table_with_spare (Place Insert 7 (codes "osd.9") 65536 (host (codes "h1") ∷ [])) ≡ 7 ∷ []
name_of_other_device = refl

name_of_new_bucket : holding example_setting table_with_spare (AddBucket (codes "h1") (codes "host")) ≡ 7 ∷ []
name_of_new_bucket = refl

name_of_renamed : holding example_setting table_with_spare (Rename (codes "h1") (codes "h2")) ≡ 7 ∷ []
name_of_renamed = refl

-- 8
placed : holding example_setting table_with_spare (Place Insert 0 (codes "osd.0") 65536 (host (codes "h1") ∷ [])) ≡ 8 ∷ []
placed = refl

-- 9
unplaced : holding example_setting table_with_spare (Reweight (codes "osd.9") 65536) ≡ 9 ∷ []
unplaced = refl

-- 10: also of a root
bucket_reweighs : holding example_setting table_with_spare (Reweight (codes "h1") 65536) ≡ 10 ∷ []
bucket_reweighs = refl

root_reweighs : holding example_setting table_with_spare (Reweight (codes "default") 65536) ≡ 10 ∷ []
root_reweighs = refl

bucket_gets_a_class : holding example_setting table_with_classes (SetClass (codes "h1") (codes "ssd")) ≡ 10 ∷ []
bucket_gets_a_class = refl

bucket_loses_its_class : holding example_setting table_with_classes (RemoveClass (codes "h1")) ≡ 10 ∷ []
bucket_loses_its_class = refl

-- 11: of a location always with 12, for a device has type 0
device_reweighs_below : holding example_setting table_with_spare (ReweightSubtree (codes "osd.0") 65536) ≡ 11 ∷ []
device_reweighs_below = refl

device_swaps : holding example_setting table_with_spare (Swap (codes "osd.0") (codes "h1")) ≡ 11 ∷ []
device_swaps = refl

-- 12: also where the bucket holds the item
wrong_type : holding example_setting table_with_spare (Move (codes "h1") (rack (codes "default") ∷ [])) ≡ 12 ∷ []
wrong_type = refl

wrong_type_held : holding example_setting table_with_spare (Place CreateOrMove 0 (codes "osd.0") 65536 (rack (codes "h1") ∷ [])) ≡ 12 ∷ []
wrong_type_held = refl

wrong_type_of_bucket : holding example_setting table_with_spare (AddBucket (codes "x") (codes "osd")) ≡ 12 ∷ []
wrong_type_of_bucket = refl

-- 13
loop_below : holding example_setting table_with_spare (Move (codes "default") (host (codes "h1") ∷ [])) ≡ 13 ∷ []
loop_below = refl

loop_itself : holding example_setting table_with_spare (Move (codes "h1") (host (codes "h1") ∷ [])) ≡ 13 ∷ []
loop_itself = refl

-- 14
nested_below : holding example_setting table_with_spare (Swap (codes "h1") (codes "default")) ≡ 14 ∷ []
nested_below = refl

nested_above : holding example_setting table_with_spare (Swap (codes "default") (codes "h1")) ≡ 14 ∷ []
nested_above = refl

nested_itself : holding example_setting table_with_spare (Swap (codes "h1") (codes "h1")) ≡ 14 ∷ []
nested_itself = refl

-- 15
not_empty : holding example_setting table_with_spare (Remove (codes "h1")) ≡ 15 ∷ []
not_empty = refl

-- 16
in_use : holding example_setting (a_bucket 1 11 (codes "default") None ∷ []) (Remove (codes "default")) ≡ 16 ∷ []
in_use = refl

-- 17
not_directory : holding example_setting table_with_spare (Rename (codes "osd.0") (codes "y")) ≡ 17 ∷ []
not_directory = refl

-- 18
already_renamed : holding example_setting table_with_spare (Rename (codes "x") (codes "h1")) ≡ 18 ∷ []
already_renamed = refl

-- 20: of a new device, a new weight, a moved device, two buckets
sum_of_new : holding plain_setting heavy_table (Place Insert 4 (codes "d4") HEAVIEST_DEVICE (root (codes "q") ∷ [])) ≡ 20 ∷ []
sum_of_new = refl

subtree_to_the_limit : holding plain_setting heavy_table (ReweightSubtree (codes "p") HEAVIEST_DEVICE) ≡ []
subtree_to_the_limit = refl

sum_of_moved : holding plain_setting heavy_table (Move (codes "d0") (root (codes "q") ∷ [])) ≡ 20 ∷ []
sum_of_moved = refl

sum_of_swapped : holding plain_setting heavy_table (Swap (codes "a") (codes "q")) ≡ 20 ∷ []
sum_of_swapped = refl

-- 21: not if the device already has the class, if it has none, or if its class is removed
class_bound : holding example_setting table_with_classes (SetClass (codes "osd.0") (codes "hdd")) ≡ 21 ∷ []
class_bound = refl

class_same : holding example_setting table_with_classes (SetClass (codes "osd.0") (codes "ssd")) ≡ []
class_same = refl

class_none : holding example_setting table_with_classes (SetClass (codes "osd.1") (codes "hdd")) ≡ []
class_none = refl

class_goes : holding example_setting table_with_classes (RemoveClass (codes "osd.0")) ≡ []
class_goes = refl

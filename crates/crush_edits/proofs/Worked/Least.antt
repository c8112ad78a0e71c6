-- Edits for which several tests hold: the refusal of the least number is reported. Each comment has the numbers whose tests hold.
use Rattle.std.proofs.Common.{◌≡◌, ◌+◌, [], ◌∷◌, refl}
use Rattle.std.specs.Prelude.{codes}
use Rattle.crush_units.specs.declared.limits.TheConstants.{HEAVIEST_DEVICE}
use Rattle.crush_edits.specs.declared.refusal.Refusal.TheVariants.{BadName, BadLocation, NoSuchType, NoPlace, WeightTooLarge, NoSuchItem, NameTaken, AlreadyPlaced, NotABucket, WrongType, NotEmpty}
use Rattle.crush_edits.specs.declared.edit.Edit.TheVariants.{Place, Move, Swap, Reweight, ReweightSubtree, Remove, AddBucket, Rename}
use Rattle.crush_edits.specs.declared.edit.Placing.TheVariants.{Insert, CreateOrMove}
use Rattle.crush_edits.specs.Answer.{refused}
use Rattle.crush_edits.specs.Edit.{edit}
use Rattle.crush_edits.proofs.Worked.Examples.{table_with_spare, heavy_table, example_setting, plain_setting, at, host, rack, holding}

-- 1 and 2
bad_name_and_location_hold : holding example_setting table_with_spare (Place Insert 3 (codes "osd.3") 65536 (host (codes "osd.3") ∷ (host (codes "h1") ∷ []))) ≡ 1 ∷ (2 ∷ [])
bad_name_and_location_hold = refl

bad_name_and_location : edit example_setting table_with_spare (Place Insert 3 (codes "osd.3") 65536 (host (codes "osd.3") ∷ (host (codes "h1") ∷ []))) ≡ refused BadName
bad_name_and_location = refl

-- 1 and 3
bad_name_and_type_hold : holding example_setting table_with_spare (Place Insert 3 (codes "osd.3") 65536 (at (codes "pod") (codes "osd.3") ∷ [])) ≡ 1 ∷ (3 ∷ [])
bad_name_and_type_hold = refl

bad_name_and_type : edit example_setting table_with_spare (Place Insert 3 (codes "osd.3") 65536 (at (codes "pod") (codes "osd.3") ∷ [])) ≡ refused BadName
bad_name_and_type = refl

-- 2 and 3
location_and_type_hold : holding example_setting table_with_spare (Place Insert 3 (codes "osd.3") 65536 (at (codes "osd") (codes "x") ∷ (at (codes "pod") (codes "p") ∷ []))) ≡ 2 ∷ (3 ∷ [])
location_and_type_hold = refl

location_and_type : edit example_setting table_with_spare (Place Insert 3 (codes "osd.3") 65536 (at (codes "osd") (codes "x") ∷ (at (codes "pod") (codes "p") ∷ []))) ≡ refused BadLocation
location_and_type = refl

-- 2 and 6
location_and_item_hold : holding example_setting table_with_spare (Move (codes "x") (at (codes "osd") (codes "x") ∷ [])) ≡ 2 ∷ (6 ∷ [])
location_and_item_hold = refl

location_and_item : edit example_setting table_with_spare (Move (codes "x") (at (codes "osd") (codes "x") ∷ [])) ≡ refused BadLocation
location_and_item = refl

-- 3 and 5
type_and_weight_hold : holding example_setting table_with_spare (Place Insert 3 (codes "osd.3") (HEAVIEST_DEVICE + 1) (at (codes "pod") (codes "p") ∷ [])) ≡ 3 ∷ (5 ∷ [])
type_and_weight_hold = refl

type_and_weight : edit example_setting table_with_spare (Place Insert 3 (codes "osd.3") (HEAVIEST_DEVICE + 1) (at (codes "pod") (codes "p") ∷ [])) ≡ refused NoSuchType
type_and_weight = refl

-- 3 and 7
type_and_name_hold : holding example_setting table_with_spare (AddBucket (codes "h1") (codes "pod")) ≡ 3 ∷ (7 ∷ [])
type_and_name_hold = refl

type_and_name : edit example_setting table_with_spare (AddBucket (codes "h1") (codes "pod")) ≡ refused NoSuchType
type_and_name = refl

-- 4 and 5
place_and_weight_hold : holding example_setting table_with_spare (Place Insert 3 (codes "osd.3") (HEAVIEST_DEVICE + 1) []) ≡ 4 ∷ (5 ∷ [])
place_and_weight_hold = refl

place_and_weight : edit example_setting table_with_spare (Place Insert 3 (codes "osd.3") (HEAVIEST_DEVICE + 1) []) ≡ refused NoPlace
place_and_weight = refl

-- 4 and 6
place_and_item_hold : holding example_setting table_with_spare (Move (codes "x") []) ≡ 4 ∷ (6 ∷ [])
place_and_item_hold = refl

place_and_item : edit example_setting table_with_spare (Move (codes "x") []) ≡ refused NoPlace
place_and_item = refl

-- 5 and 6
weight_and_item_hold : holding example_setting table_with_spare (Reweight (codes "x") (HEAVIEST_DEVICE + 1)) ≡ 5 ∷ (6 ∷ [])
weight_and_item_hold = refl

weight_and_item : edit example_setting table_with_spare (Reweight (codes "x") (HEAVIEST_DEVICE + 1)) ≡ refused WeightTooLarge
weight_and_item = refl

-- 5 and 7
weight_and_name_hold : holding example_setting table_with_spare (Place Insert 9 (codes "disk") (HEAVIEST_DEVICE + 1) (host (codes "h1") ∷ [])) ≡ 5 ∷ (7 ∷ [])
weight_and_name_hold = refl

weight_and_name : edit example_setting table_with_spare (Place Insert 9 (codes "disk") (HEAVIEST_DEVICE + 1) (host (codes "h1") ∷ [])) ≡ refused WeightTooLarge
weight_and_name = refl

-- 5 and 9
weight_and_unplaced_hold : holding example_setting table_with_spare (Reweight (codes "osd.9") (HEAVIEST_DEVICE + 1)) ≡ 5 ∷ (9 ∷ [])
weight_and_unplaced_hold = refl

weight_and_unplaced : edit example_setting table_with_spare (Reweight (codes "osd.9") (HEAVIEST_DEVICE + 1)) ≡ refused WeightTooLarge
weight_and_unplaced = refl

-- 5 and 10
weight_and_bucket_hold : holding example_setting table_with_spare (Reweight (codes "h1") 2621440000) ≡ 5 ∷ (10 ∷ [])
weight_and_bucket_hold = refl

weight_and_bucket : edit example_setting table_with_spare (Reweight (codes "h1") 2621440000) ≡ refused WeightTooLarge
weight_and_bucket = refl

-- 5 and 11
weight_and_device_hold : holding example_setting table_with_spare (ReweightSubtree (codes "osd.0") (HEAVIEST_DEVICE + 1)) ≡ 5 ∷ (11 ∷ [])
weight_and_device_hold = refl

weight_and_device : edit example_setting table_with_spare (ReweightSubtree (codes "osd.0") (HEAVIEST_DEVICE + 1)) ≡ refused WeightTooLarge
weight_and_device = refl

-- 6 and 11
item_and_device_hold : holding example_setting table_with_spare (Swap (codes "x") (codes "osd.0")) ≡ 6 ∷ (11 ∷ [])
item_and_device_hold = refl

item_and_device : edit example_setting table_with_spare (Swap (codes "x") (codes "osd.0")) ≡ refused NoSuchItem
item_and_device = refl

-- 6, 11 and 12
item_and_end_hold : holding example_setting table_with_spare (Move (codes "x") (host (codes "osd.1") ∷ [])) ≡ 6 ∷ (11 ∷ (12 ∷ []))
item_and_end_hold = refl

item_and_end : edit example_setting table_with_spare (Move (codes "x") (host (codes "osd.1") ∷ [])) ≡ refused NoSuchItem
item_and_end = refl

-- 7 and 8
name_and_placed_hold : holding example_setting table_with_spare (Place Insert 0 (codes "disk") 65536 (host (codes "h1") ∷ [])) ≡ 7 ∷ (8 ∷ [])
name_and_placed_hold = refl

name_and_placed : edit example_setting table_with_spare (Place Insert 0 (codes "disk") 65536 (host (codes "h1") ∷ [])) ≡ refused NameTaken
name_and_placed = refl

-- 7, 11 and 12
name_and_end_hold : holding example_setting table_with_spare (Place CreateOrMove 9 (codes "disk") 65536 (host (codes "osd.1") ∷ [])) ≡ 7 ∷ (11 ∷ (12 ∷ []))
name_and_end_hold = refl

name_and_end : edit example_setting table_with_spare (Place CreateOrMove 9 (codes "disk") 65536 (host (codes "osd.1") ∷ [])) ≡ refused NameTaken
name_and_end = refl

-- 7 and 12
name_and_type_zero_hold : holding example_setting table_with_spare (AddBucket (codes "h1") (codes "osd")) ≡ 7 ∷ (12 ∷ [])
name_and_type_zero_hold = refl

name_and_type_zero : edit example_setting table_with_spare (AddBucket (codes "h1") (codes "osd")) ≡ refused NameTaken
name_and_type_zero = refl

-- 7 and 17
name_and_directory_hold : holding example_setting table_with_spare (Rename (codes "osd.0") (codes "h1")) ≡ 7 ∷ (17 ∷ [])
name_and_directory_hold = refl

name_and_directory : edit example_setting table_with_spare (Rename (codes "osd.0") (codes "h1")) ≡ refused NameTaken
name_and_directory = refl

-- 8, 11 and 12
placed_and_end_hold : holding example_setting table_with_spare (Place Insert 0 (codes "osd.0") 65536 (host (codes "osd.1") ∷ [])) ≡ 8 ∷ (11 ∷ (12 ∷ []))
placed_and_end_hold = refl

placed_and_end : edit example_setting table_with_spare (Place Insert 0 (codes "osd.0") 65536 (host (codes "osd.1") ∷ [])) ≡ refused AlreadyPlaced
placed_and_end = refl

-- 8 and 12
placed_and_wrong_type_hold : holding example_setting table_with_spare (Place Insert 0 (codes "osd.0") 65536 (rack (codes "h1") ∷ [])) ≡ 8 ∷ (12 ∷ [])
placed_and_wrong_type_hold = refl

placed_and_wrong_type : edit example_setting table_with_spare (Place Insert 0 (codes "osd.0") 65536 (rack (codes "h1") ∷ [])) ≡ refused AlreadyPlaced
placed_and_wrong_type = refl

-- 11 and 12
device_and_type_hold : holding example_setting table_with_spare (Place Insert 3 (codes "osd.3") 65536 (host (codes "osd.1") ∷ [])) ≡ 11 ∷ (12 ∷ [])
device_and_type_hold = refl

device_and_type : edit example_setting table_with_spare (Place Insert 3 (codes "osd.3") 65536 (host (codes "osd.1") ∷ [])) ≡ refused NotABucket
device_and_type = refl

-- 11, 12 and 13
device_and_loop_hold : holding example_setting table_with_spare (Move (codes "osd.0") (host (codes "osd.0") ∷ [])) ≡ 11 ∷ (12 ∷ (13 ∷ []))
device_and_loop_hold = refl

device_and_loop : edit example_setting table_with_spare (Move (codes "osd.0") (host (codes "osd.0") ∷ [])) ≡ refused NotABucket
device_and_loop = refl

-- 12 and 13
type_and_loop_hold : holding example_setting table_with_spare (Move (codes "h1") (rack (codes "h1") ∷ [])) ≡ 12 ∷ (13 ∷ [])
type_and_loop_hold = refl

type_and_loop : edit example_setting table_with_spare (Move (codes "h1") (rack (codes "h1") ∷ [])) ≡ refused WrongType
type_and_loop = refl

-- 12 and 20
type_and_sum_hold : holding plain_setting heavy_table (Place Insert 4 (codes "d4") HEAVIEST_DEVICE (rack (codes "q") ∷ [])) ≡ 12 ∷ (20 ∷ [])
type_and_sum_hold = refl

type_and_sum : edit plain_setting heavy_table (Place Insert 4 (codes "d4") HEAVIEST_DEVICE (rack (codes "q") ∷ [])) ≡ refused WrongType
type_and_sum = refl

-- 15 and 16
items_and_rule_hold : holding example_setting table_with_spare (Remove (codes "default")) ≡ 15 ∷ (16 ∷ [])
items_and_rule_hold = refl

items_and_rule : edit example_setting table_with_spare (Remove (codes "default")) ≡ refused NotEmpty
items_and_rule = refl

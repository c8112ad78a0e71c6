-- Worked lines of the edits with a location.
use Rattle.std.proofs.Common.{◌≡◌, ◌+◌, true, false, [], ◌∷◌, refl}
use Rattle.std.specs.Prelude.{codes}
use Rattle.crush_units.specs.declared.id.ItemId.TheVariants.{Device, Bucket}
use Rattle.crush_units.specs.declared.limits.TheConstants.{HEAVIEST_DEVICE}
use Rattle.crush_edits.specs.declared.refusal.Refusal.TheVariants.{WeightTooLarge, NoSuchItem, AlreadyPlaced, NotABucket, Loop, SumTooLarge}
use Rattle.crush_edits.specs.declared.edit.Edit.TheVariants.{Place, Move, Remove}
use Rattle.crush_edits.specs.declared.edit.Placing.TheVariants.{Insert, CreateOrMove, Update}
use Rattle.crush_edits.specs.Answer.{done}
use Rattle.crush_edits.specs.Edit.{edit}
use Rattle.crush_edits.specs.Batch.{batch}
use Rattle.crush_edits.proofs.Worked.Examples.{example_table, table_with_spare, table_with_class, example_setting, plain_setting, host, rack, root, line, no, yes, no_at, all, shown, shown_batch}

-- a device in a new host in a new rack in default: `add osd.3 0.333 host=h3 rack=r1 root=default`
add_in_new : shown (edit example_setting example_table (Place Insert 3 (codes "osd.3") 21823 (host (codes "h3") ∷ (rack (codes "r1") ∷ (root (codes "default") ∷ []))))) ≡ yes true 2 (line 1 (codes "default") (Bucket 2 ∷ (Bucket 3 ∷ (Bucket 5 ∷ []))) 185663 ∷ (line 2 (codes "h1") (Device 0 ∷ (Device 1 ∷ [])) 131072 ∷ (line 3 (codes "h2") (Device 2 ∷ []) 32768 ∷ (line 4 (codes "h3") (Device 3 ∷ []) 21823 ∷ (line 5 (codes "r1") (Bucket 4 ∷ []) 21823 ∷ [])))))
add_in_new = refl

-- its pairs in another order
add_in_any_order : shown (edit example_setting example_table (Place Insert 3 (codes "osd.3") 21823 (root (codes "default") ∷ (host (codes "h3") ∷ (rack (codes "r1") ∷ []))))) ≡ yes true 2 (line 1 (codes "default") (Bucket 2 ∷ (Bucket 3 ∷ (Bucket 5 ∷ []))) 185663 ∷ (line 2 (codes "h1") (Device 0 ∷ (Device 1 ∷ [])) 131072 ∷ (line 3 (codes "h2") (Device 2 ∷ []) 32768 ∷ (line 4 (codes "h3") (Device 3 ∷ []) 21823 ∷ (line 5 (codes "r1") (Bucket 4 ∷ []) 21823 ∷ [])))))
add_in_any_order = refl

-- no bucket is created for the pairs above the first bucket that the map has: `add osd.3 1 host=h1 rack=r9 root=other`
add_in_first_there : shown (edit example_setting example_table (Place Insert 3 (codes "osd.3") 65536 (host (codes "h1") ∷ (rack (codes "r9") ∷ (root (codes "other") ∷ []))))) ≡ yes true 0 (line 1 (codes "default") (Bucket 2 ∷ (Bucket 3 ∷ [])) 229376 ∷ (line 2 (codes "h1") (Device 0 ∷ (Device 1 ∷ (Device 3 ∷ []))) 196608 ∷ (line 3 (codes "h2") (Device 2 ∷ []) 32768 ∷ [])))
add_in_first_there = refl

-- a placed device moves with its own weight: `create-or-move osd.0 5.0 host=h2`
create_or_move_moves : shown (edit example_setting example_table (Place CreateOrMove 0 (codes "osd.0") 327680 (host (codes "h2") ∷ []))) ≡ yes true 0 (line 1 (codes "default") (Bucket 2 ∷ (Bucket 3 ∷ [])) 163840 ∷ (line 2 (codes "h1") (Device 1 ∷ []) 65536 ∷ (line 3 (codes "h2") (Device 2 ∷ (Device 0 ∷ [])) 98304 ∷ [])))
create_or_move_moves = refl

-- the bucket of the lowest pair holds it: `create-or-move osd.0 5.0 host=h1 root=other`
create_or_move_held : edit example_setting example_table (Place CreateOrMove 0 (codes "osd.0") 327680 (host (codes "h1") ∷ (root (codes "other") ∷ []))) ≡ done false 0 example_table
create_or_move_held = refl

-- the receiver is the moved bucket or is below it: `move default host=h1`, `move h1 host=h1`
move_into_itself : shown (edit example_setting example_table (Move (codes "default") (host (codes "h1") ∷ []))) ≡ no Loop
move_into_itself = refl

move_onto_itself : shown (edit example_setting example_table (Move (codes "h1") (host (codes "h1") ∷ []))) ≡ no Loop
move_onto_itself = refl

-- weights up to the limits: `add osd.10 32767.99998 host=hx rack=rx`, `add osd.11 32767.99998 host=hx`
add_heavy : shown_batch (batch example_setting example_table (Place Insert 10 (codes "osd.10") HEAVIEST_DEVICE (host (codes "hx") ∷ (rack (codes "rx") ∷ [])) ∷ (Place Insert 11 (codes "osd.11") HEAVIEST_DEVICE (host (codes "hx") ∷ []) ∷ []))) ≡ all 2 2 2 (line 1 (codes "default") (Bucket 2 ∷ (Bucket 3 ∷ [])) 163840 ∷ (line 2 (codes "h1") (Device 0 ∷ (Device 1 ∷ [])) 131072 ∷ (line 3 (codes "h2") (Device 2 ∷ []) 32768 ∷ (line 4 (codes "hx") (Device 10 ∷ (Device 11 ∷ [])) 4294967294 ∷ (line 5 (codes "rx") (Bucket 4 ∷ []) 4294967294 ∷ [])))))
add_heavy = refl

-- one more, `add osd.12 32767.99998 host=hy rack=rx`, and nothing is left of its new host
add_too_heavy : shown_batch (batch example_setting example_table (Place Insert 10 (codes "osd.10") HEAVIEST_DEVICE (host (codes "hx") ∷ (rack (codes "rx") ∷ [])) ∷ (Place Insert 11 (codes "osd.11") HEAVIEST_DEVICE (host (codes "hx") ∷ []) ∷ (Place Insert 12 (codes "osd.12") HEAVIEST_DEVICE (host (codes "hy") ∷ (rack (codes "rx") ∷ [])) ∷ [])))) ≡ no_at 2 SumTooLarge
add_too_heavy = refl

add_leaves_no_host : shown_batch (batch example_setting example_table (Place Insert 10 (codes "osd.10") HEAVIEST_DEVICE (host (codes "hx") ∷ (rack (codes "rx") ∷ [])) ∷ (Place Insert 11 (codes "osd.11") HEAVIEST_DEVICE (host (codes "hx") ∷ []) ∷ (Remove (codes "hy") ∷ [])))) ≡ no_at 2 NoSuchItem
add_leaves_no_host = refl

-- `add osd.13 32768 host=hy`
add_weight_too_large : shown (edit example_setting example_table (Place Insert 13 (codes "osd.13") (HEAVIEST_DEVICE + 1) (host (codes "hy") ∷ []))) ≡ no WeightTooLarge
add_weight_too_large = refl

-- two edits add the same device, and the later one is refused: `add osd.7 1 host=h1`, `add osd.7 1 host=h2`
add_twice : shown_batch (batch example_setting example_table (Place Insert 7 (codes "osd.7") 65536 (host (codes "h1") ∷ []) ∷ (Place Insert 7 (codes "osd.7") 65536 (host (codes "h2") ∷ []) ∷ []))) ≡ no_at 1 AlreadyPlaced
add_twice = refl

-- an unplaced device: `move osd.9 host=h2`
move_unplaced : shown (edit example_setting table_with_spare (Move (codes "osd.9") (host (codes "h2") ∷ []))) ≡ yes true 0 (line 1 (codes "default") (Bucket 2 ∷ (Bucket 3 ∷ [])) 163840 ∷ (line 2 (codes "h1") (Device 0 ∷ (Device 1 ∷ [])) 131072 ∷ (line 3 (codes "h2") (Device 2 ∷ (Device 9 ∷ [])) 32768 ∷ [])))
move_unplaced = refl

-- a device that is declared and is in no bucket gets the given weight, and doesn't keep its own weight 0: `create-or-move osd.9 1.5 host=h2`
create_or_move_unplaced : shown (edit example_setting table_with_spare (Place CreateOrMove 9 (codes "osd.9") 98304 (host (codes "h2") ∷ []))) ≡ yes true 0 (line 1 (codes "default") (Bucket 2 ∷ (Bucket 3 ∷ [])) 262144 ∷ (line 2 (codes "h1") (Device 0 ∷ (Device 1 ∷ [])) 131072 ∷ (line 3 (codes "h2") (Device 2 ∷ (Device 9 ∷ [])) 131072 ∷ [])))
create_or_move_unplaced = refl

-- `set osd.9 1 host=h2`
set_unplaced : shown (edit example_setting table_with_spare (Place Update 9 (codes "osd.9") 65536 (host (codes "h2") ∷ []))) ≡ yes true 0 (line 1 (codes "default") (Bucket 2 ∷ (Bucket 3 ∷ [])) 229376 ∷ (line 2 (codes "h1") (Device 0 ∷ (Device 1 ∷ [])) 131072 ∷ (line 3 (codes "h2") (Device 2 ∷ (Device 9 ∷ [])) 98304 ∷ [])))
set_unplaced = refl

-- `add osd.9 1 host=h1`
add_unplaced : shown (edit example_setting table_with_spare (Place Insert 9 (codes "osd.9") 65536 (host (codes "h1") ∷ []))) ≡ yes true 0 (line 1 (codes "default") (Bucket 2 ∷ (Bucket 3 ∷ [])) 229376 ∷ (line 2 (codes "h1") (Device 0 ∷ (Device 1 ∷ (Device 9 ∷ []))) 196608 ∷ (line 3 (codes "h2") (Device 2 ∷ []) 32768 ∷ [])))
add_unplaced = refl

-- a device that is already in the bucket of the lowest pair stays there and gets the weight: `set osd.1 3 host=h1`, twice
set_held : shown (edit example_setting example_table (Place Update 1 (codes "osd.1") 196608 (host (codes "h1") ∷ []))) ≡ yes true 0 (line 1 (codes "default") (Bucket 2 ∷ (Bucket 3 ∷ [])) 294912 ∷ (line 2 (codes "h1") (Device 0 ∷ (Device 1 ∷ [])) 262144 ∷ (line 3 (codes "h2") (Device 2 ∷ []) 32768 ∷ [])))
set_held = refl

set_held_twice : shown_batch (batch example_setting example_table (Place Update 1 (codes "osd.1") 196608 (host (codes "h1") ∷ []) ∷ (Place Update 1 (codes "osd.1") 196608 (host (codes "h1") ∷ []) ∷ []))) ≡ all 2 1 0 (line 1 (codes "default") (Bucket 2 ∷ (Bucket 3 ∷ [])) 294912 ∷ (line 2 (codes "h1") (Device 0 ∷ (Device 1 ∷ [])) 262144 ∷ (line 3 (codes "h2") (Device 2 ∷ []) 32768 ∷ [])))
set_held_twice = refl

-- a bucket into a new rack: `move h2 rack=r1 root=default`
move_in_new : shown (edit plain_setting example_table (Move (codes "h2") (rack (codes "r1") ∷ (root (codes "default") ∷ [])))) ≡ yes true 1 (line 1 (codes "default") (Bucket 2 ∷ (Bucket 4 ∷ [])) 163840 ∷ (line 2 (codes "h1") (Device 0 ∷ (Device 1 ∷ [])) 131072 ∷ (line 4 (codes "r1") (Bucket 3 ∷ []) 32768 ∷ (line 3 (codes "h2") (Device 2 ∷ []) 32768 ∷ []))))
move_in_new = refl

-- a class id isn't free for a new bucket: `add osd.3 1 host=h3` with the class id -4 in h1
add_beside_class : shown (edit plain_setting table_with_class (Place Insert 3 (codes "osd.3") 65536 (host (codes "h3") ∷ []))) ≡ yes true 1 (line 1 (codes "default") (Bucket 2 ∷ (Bucket 3 ∷ [])) 163840 ∷ (line 2 (codes "h1") (Device 0 ∷ (Device 1 ∷ [])) 131072 ∷ (line 3 (codes "h2") (Device 2 ∷ []) 32768 ∷ (line 5 (codes "h3") (Device 3 ∷ []) 65536 ∷ []))))
add_beside_class = refl

-- `move osd.0 host=osd.0`
move_device_onto_itself : shown (edit plain_setting example_table (Move (codes "osd.0") (host (codes "osd.0") ∷ []))) ≡ no NotABucket
move_device_onto_itself = refl

-- Worked lines of refusals, with the unplaced device osd.9.
use Rattle.std.proofs.Common.{◌≡◌, [], ◌∷◌, refl}
use Rattle.std.specs.Prelude.{codes}
use Rattle.crush_edits.specs.declared.refusal.Refusal.TheVariants.{BadName, BadLocation, NoSuchType, NoPlace, NameTaken, AlreadyPlaced, NotPlaced, NotADevice, NotABucket, WrongType, Nested}
use Rattle.crush_edits.specs.declared.edit.Edit.TheVariants.{Place, Move, Swap, Reweight, ReweightSubtree, AddBucket}
use Rattle.crush_edits.specs.declared.edit.Placing.TheVariants.{Insert}
use Rattle.crush_edits.specs.Edit.{edit}
use Rattle.crush_edits.proofs.Worked.Examples.{table_with_spare, example_setting, at, host, rack, no, shown}

-- `add osd.3 1 host=osd.3`
add_bad_name : shown (edit example_setting table_with_spare (Place Insert 3 (codes "osd.3") 65536 (host (codes "osd.3") ∷ []))) ≡ no BadName
add_bad_name = refl

-- `add osd.3 1 host=h1 host=h2`, `add osd.3 1 osd=x`
add_type_twice : shown (edit example_setting table_with_spare (Place Insert 3 (codes "osd.3") 65536 (host (codes "h1") ∷ (host (codes "h2") ∷ [])))) ≡ no BadLocation
add_type_twice = refl

add_type_zero : shown (edit example_setting table_with_spare (Place Insert 3 (codes "osd.3") 65536 (at (codes "osd") (codes "x") ∷ []))) ≡ no BadLocation
add_type_zero = refl

-- `add osd.3 1 pod=p`
add_no_type : shown (edit example_setting table_with_spare (Place Insert 3 (codes "osd.3") 65536 (at (codes "pod") (codes "p") ∷ []))) ≡ no NoSuchType
add_no_type = refl

-- `add osd.3 1`
add_nowhere : shown (edit example_setting table_with_spare (Place Insert 3 (codes "osd.3") 65536 [])) ≡ no NoPlace
add_nowhere = refl

-- `add-bucket h1 host`
add_bucket_taken : shown (edit example_setting table_with_spare (AddBucket (codes "h1") (codes "host"))) ≡ no NameTaken
add_bucket_taken = refl

-- `add osd.0 1 host=h1`
add_placed : shown (edit example_setting table_with_spare (Place Insert 0 (codes "osd.0") 65536 (host (codes "h1") ∷ []))) ≡ no AlreadyPlaced
add_placed = refl

-- `reweight osd.9 1`
reweight_unplaced : shown (edit example_setting table_with_spare (Reweight (codes "osd.9") 65536)) ≡ no NotPlaced
reweight_unplaced = refl

-- `reweight h1 1`, also of a root
reweight_bucket : shown (edit example_setting table_with_spare (Reweight (codes "h1") 65536)) ≡ no NotADevice
reweight_bucket = refl

reweight_root : shown (edit example_setting table_with_spare (Reweight (codes "default") 65536)) ≡ no NotADevice
reweight_root = refl

-- `reweight-subtree osd.0 1`, `add osd.3 1 host=osd.1`
subtree_of_device : shown (edit example_setting table_with_spare (ReweightSubtree (codes "osd.0") 65536)) ≡ no NotABucket
subtree_of_device = refl

add_in_device : shown (edit example_setting table_with_spare (Place Insert 3 (codes "osd.3") 65536 (host (codes "osd.1") ∷ []))) ≡ no NotABucket
add_in_device = refl

-- `move h1 rack=default`, `add-bucket x osd`
move_in_wrong_type : shown (edit example_setting table_with_spare (Move (codes "h1") (rack (codes "default") ∷ []))) ≡ no WrongType
move_in_wrong_type = refl

add_bucket_of_type_zero : shown (edit example_setting table_with_spare (AddBucket (codes "x") (codes "osd"))) ≡ no WrongType
add_bucket_of_type_zero = refl

-- `swap-bucket h1 default`, `swap-bucket h1 h1`
swap_nested : shown (edit example_setting table_with_spare (Swap (codes "h1") (codes "default"))) ≡ no Nested
swap_nested = refl

swap_with_itself : shown (edit example_setting table_with_spare (Swap (codes "h1") (codes "h1"))) ≡ no Nested
swap_with_itself = refl

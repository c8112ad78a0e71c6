-- Worked lines of the other edits.
use Rattle.std.proofs.Common.{◌≡◌, true, false, [], ◌∷◌, refl}
use Rattle.std.specs.Prelude.{codes, None, Some}
use Rattle.crush_units.specs.declared.id.ItemId.TheVariants.{Device, Bucket}
use Rattle.crush_edits.specs.declared.refusal.Refusal.TheVariants.{NoSuchItem, NameTaken, NotEmpty, InUse, NotDirectory, AlreadyRenamed, SumTooLarge, ClassBound}
use Rattle.crush_edits.specs.declared.edit.Edit.TheVariants.{Swap, Reweight, ReweightSubtree, Remove, Rename, SetClass, RemoveClass}
use Rattle.crush_model.specs.Classes.{class_weight_of}
use Rattle.crush_model.specs.Columns.{set_class}
use Rattle.crush_edits.specs.Answer.{done}
use Rattle.crush_edits.specs.Edit.{edit}
use Rattle.crush_edits.specs.Batch.{batch}
use Rattle.crush_edits.proofs.Worked.Examples.{example_table, table_with_classes, heavy_table, example_setting, plain_setting, line, no, yes, no_at, all, shown, shown_batch}

-- `reweight osd.2 1.0`
reweight_device : shown (edit example_setting example_table (Reweight (codes "osd.2") 65536)) ≡ yes true 0 (line 1 (codes "default") (Bucket 2 ∷ (Bucket 3 ∷ [])) 196608 ∷ (line 2 (codes "h1") (Device 0 ∷ (Device 1 ∷ [])) 131072 ∷ (line 3 (codes "h2") (Device 2 ∷ []) 65536 ∷ [])))
reweight_device = refl

-- the weight that the device has already
reweight_same : edit example_setting example_table (Reweight (codes "osd.2") 32768) ≡ done false 0 example_table
reweight_same = refl

-- `reweight-subtree h1 0.25`, and the same again
reweight_host : shown (edit example_setting example_table (ReweightSubtree (codes "h1") 16384)) ≡ yes true 0 (line 1 (codes "default") (Bucket 2 ∷ (Bucket 3 ∷ [])) 65536 ∷ (line 2 (codes "h1") (Device 0 ∷ (Device 1 ∷ [])) 32768 ∷ (line 3 (codes "h2") (Device 2 ∷ []) 32768 ∷ [])))
reweight_host = refl

reweight_host_twice : shown_batch (batch example_setting example_table (ReweightSubtree (codes "h1") 16384 ∷ (ReweightSubtree (codes "h1") 16384 ∷ []))) ≡ all 2 1 0 (line 1 (codes "default") (Bucket 2 ∷ (Bucket 3 ∷ [])) 65536 ∷ (line 2 (codes "h1") (Device 0 ∷ (Device 1 ∷ [])) 32768 ∷ (line 3 (codes "h2") (Device 2 ∷ []) 32768 ∷ [])))
reweight_host_twice = refl

-- the two buckets exchange names and items, and keep their places and ids: `swap-bucket h1 h2`
swap_hosts : shown (edit example_setting example_table (Swap (codes "h1") (codes "h2"))) ≡ yes true 0 (line 1 (codes "default") (Bucket 2 ∷ (Bucket 3 ∷ [])) 163840 ∷ (line 2 (codes "h2") (Device 2 ∷ []) 32768 ∷ (line 3 (codes "h1") (Device 0 ∷ (Device 1 ∷ [])) 131072 ∷ [])))
swap_hosts = refl

-- `swap-bucket a q` would leave p too heavy
swap_too_heavy : shown (edit plain_setting heavy_table (Swap (codes "a") (codes "q"))) ≡ no SumTooLarge
swap_too_heavy = refl

-- `rm default`
remove_full : shown (edit example_setting example_table (Remove (codes "default"))) ≡ no NotEmpty
remove_full = refl

-- each of the other items can be removed, and then default can't, because a rule takes it
remove_others : shown_batch (batch example_setting example_table (Remove (codes "osd.0") ∷ (Remove (codes "osd.1") ∷ (Remove (codes "h1") ∷ (Remove (codes "osd.2") ∷ (Remove (codes "h2") ∷ [])))))) ≡ all 5 5 0 (line 1 (codes "default") [] 0 ∷ [])
remove_others = refl

remove_taken : shown_batch (batch example_setting example_table (Remove (codes "osd.0") ∷ (Remove (codes "osd.1") ∷ (Remove (codes "h1") ∷ (Remove (codes "osd.2") ∷ (Remove (codes "h2") ∷ (Remove (codes "default") ∷ []))))))) ≡ no_at 5 InUse
remove_taken = refl

-- `rename-bucket x h1`, `rename-bucket osd.0 y`, `rename-bucket h1 h2`, `rename-bucket x y`, `rename-bucket osd.0 h1`, `rename-bucket h1 h1`
rename_again : shown (edit example_setting example_table (Rename (codes "x") (codes "h1"))) ≡ no AlreadyRenamed
rename_again = refl

rename_device : shown (edit example_setting example_table (Rename (codes "osd.0") (codes "y"))) ≡ no NotDirectory
rename_device = refl

rename_to_taken : shown (edit example_setting example_table (Rename (codes "h1") (codes "h2"))) ≡ no NameTaken
rename_to_taken = refl

rename_missing : shown (edit example_setting example_table (Rename (codes "x") (codes "y"))) ≡ no NoSuchItem
rename_missing = refl

rename_device_to_taken : shown (edit example_setting example_table (Rename (codes "osd.0") (codes "h1"))) ≡ no NameTaken
rename_device_to_taken = refl

rename_to_itself : shown (edit plain_setting example_table (Rename (codes "h1") (codes "h1"))) ≡ no NameTaken
rename_to_itself = refl

rename_host : shown (edit example_setting example_table (Rename (codes "h1") (codes "hq"))) ≡ yes true 0 (line 1 (codes "default") (Bucket 2 ∷ (Bucket 3 ∷ [])) 163840 ∷ (line 2 (codes "hq") (Device 0 ∷ (Device 1 ∷ [])) 131072 ∷ (line 3 (codes "h2") (Device 2 ∷ []) 32768 ∷ [])))
rename_host = refl

-- `set-device-class ssd osd.0`, the same again, `set-device-class hdd osd.0`, `rm-device-class osd.0`, the same again
class_set : edit example_setting example_table (SetClass (codes "osd.0") (codes "ssd")) ≡ done true 0 (set_class (Device 0) (Some (codes "ssd")) example_table)
class_set = refl

class_set_again : edit example_setting table_with_classes (SetClass (codes "osd.0") (codes "ssd")) ≡ done false 0 table_with_classes
class_set_again = refl

class_replaced : shown (edit example_setting table_with_classes (SetClass (codes "osd.0") (codes "hdd"))) ≡ no ClassBound
class_replaced = refl

class_removed : edit example_setting table_with_classes (RemoveClass (codes "osd.0")) ≡ done true 0 (set_class (Device 0) None table_with_classes)
class_removed = refl

class_removed_again : edit example_setting example_table (RemoveClass (codes "osd.0")) ≡ done false 0 example_table
class_removed_again = refl

-- the weight of the devices of class ssd
ssd_in_all : class_weight_of table_with_classes (Bucket 1) (codes "ssd") ≡ Some 98304
ssd_in_all = refl

ssd_in_host : class_weight_of table_with_classes (Bucket 2) (codes "ssd") ≡ Some 65536
ssd_in_host = refl

ssd_of_other : class_weight_of table_with_classes (Device 1) (codes "ssd") ≡ Some 0
ssd_of_other = refl

hdd_in_host : class_weight_of table_with_classes (Bucket 2) (codes "hdd") ≡ Some 0
hdd_in_host = refl

ssd_nowhere : class_weight_of table_with_classes (Bucket 9) (codes "ssd") ≡ None
ssd_nowhere = refl

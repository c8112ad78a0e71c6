-- What each edit does to the table of a map. The edits are the same as those of `ceph osd crush`, but the refusals are this editor's own.
use Rattle.std.specs.Prelude.{List, Option, Bool, true, false}
use Rattle.crush_model.specs.Table.{Row}
use Rattle.crush_edits.specs.declared.refusal.Refusal.{Refusal}
use Rattle.crush_edits.specs.declared.edit.Edit.{Edit}
use Rattle.crush_edits.specs.declared.edit.Edit.TheVariants.{Place, Move, Swap, Reweight, ReweightSubtree, Remove, AddBucket, Rename, SetClass, RemoveClass}
use Rattle.crush_edits.specs.declared.edit.Placing.TheVariants.{Insert, CreateOrMove, Update}
use Rattle.crush_edits.specs.Setting.{SettingData}
use Rattle.crush_edits.specs.Answer.{After, first_refusal, Answer, answer}
use Rattle.crush_edits.specs.Placing.{after_insert, insert_tests, after_create_or_move, after_update, device_put_tests, after_move, move_tests}
use Rattle.crush_edits.specs.Weighing.{after_reweight, reweight_tests, after_subtree, subtree_tests}
use Rattle.crush_edits.specs.Naming.{after_swap, swap_tests, after_rename, rename_tests}
use Rattle.crush_edits.specs.Classing.{after_set_class, set_class_tests, after_remove_class, remove_class_tests}
use Rattle.crush_edits.specs.Making.{after_remove, remove_tests, after_add_bucket, add_bucket_tests}

-- THE TABLE AFTER the edit, with the number of buckets that the edit creates, if the edit isn't refused
abbrev pub after : SettingData → List Row → Edit → After
after s t (Place Insert d n w l) = after_insert s t d n w l
after s t (Place CreateOrMove d n w l) = after_create_or_move s t d n w l
after s t (Place Update d n w l) = after_update s t d n w l
after s t (Move n l) = after_move s t n l
after s t (Swap m n) = after_swap t m n
after s t (Reweight n w) = after_reweight t n w
after s t (ReweightSubtree n w) = after_subtree t n w
after s t (Remove n) = after_remove t n
after s t (AddBucket n kind) = after_add_bucket s t n kind
after s t (Rename from to) = after_rename t from to
after s t (SetClass n c) = after_set_class t n c
after s t (RemoveClass n) = after_remove_class t n

-- THE REFUSALS of an edit, each with its test. The edit is refused with the first refusal whose test holds. The tests of NoRoom and SumTooLarge examine the table in a, which is the table as it would be after the edit
abbrev pub tests : SettingData → List Row → Edit → After → List (Refusal × Bool)
tests s t (Place Insert d n w l) a = insert_tests s t d n w l a
tests s t (Place CreateOrMove d n w l) a = device_put_tests s t d n w l a
tests s t (Place Update d n w l) a = device_put_tests s t d n w l a
tests s t (Move n l) a = move_tests s t n l a
tests s t (Swap m n) a = swap_tests t m n a
tests s t (Reweight n w) a = reweight_tests t n w a
tests s t (ReweightSubtree n w) a = subtree_tests t n w a
tests s t (Remove n) a = remove_tests s t n
tests s t (AddBucket n kind) a = add_bucket_tests s t n kind a
tests s t (Rename from to) a = rename_tests t from to
tests s t (SetClass n c) a = set_class_tests t n c
tests s t (RemoveClass n) a = remove_class_tests t n

-- the refusal with which an edit is refused, or none if the edit isn't refused
abbrev pub refusal : SettingData → List Row → Edit → Option Refusal
refusal s t e = first_refusal (tests s t e (after s t e))

-- THE EDIT: the result of the edit e for the setting s and the table t
abbrev pub edit : SettingData → List Row → Edit → Answer
edit s t e = answer (refusal s t e) t (after s t e)

-- whether the edit may need new memory. The memory with which a batch can undo the edit isn't counted. Setting weights, swapping buckets, and removing an item or a class need no new memory
abbrev pub takes_memory : Edit → Bool
takes_memory (Reweight n w) = false
takes_memory (ReweightSubtree n w) = false
takes_memory (Swap m n) = false
takes_memory (Remove n) = false
takes_memory (Place how d n w l) = true
takes_memory (Move n l) = true
takes_memory (AddBucket n kind) = true
takes_memory (Rename from to) = true
takes_memory (SetClass n c) = true
takes_memory (RemoveClass n) = false

-- whether the edit can change nothing except weights of devices
abbrev pub sets_weights : Edit → Bool
sets_weights (Reweight n w) = true
sets_weights (ReweightSubtree n w) = true
sets_weights (Swap m n) = false
sets_weights (Remove n) = false
sets_weights (Place how d n w l) = false
sets_weights (Move n l) = false
sets_weights (AddBucket n kind) = false
sets_weights (Rename from to) = false
sets_weights (SetClass n c) = false
sets_weights (RemoveClass n) = false

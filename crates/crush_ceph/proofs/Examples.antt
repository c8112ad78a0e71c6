-- Worked commands of Ceph: the lines of edits, and the edits of lines.
use Rattle.std.proofs.Common.{◌≡◌, [], ◌∷◌, refl}
use Rattle.std.specs.Fmt.{digits}
use Rattle.std.specs.Prelude.{None, Some, codes}
use Rattle.crush_edits.proofs.Worked.Examples.{example_table, example_kinds, rack, root, host}
use Rattle.crush_edits.specs.declared.edit.Edit.TheVariants.{Place, AddBucket, Move, Rename, SetClass, RemoveClass, Swap}
use Rattle.crush_edits.specs.declared.edit.Placing.TheVariants.{Insert, Update}
use Rattle.crush_edits.specs.Keyword.{keyword_of}
use Rattle.crush_edits.specs.Setting.{SettingData, take, emit}
use Rattle.crush_history.specs.Ceph.{ceph_heading}
use Rattle.crush_ceph.specs.CephText.{ceph_text}
use Rattle.crush_ceph.specs.LineEdits.{edits_of_line, words_of_line}
use Rattle.crush_ceph.specs.Steps.{ceph_steps}

-- the example map with a rule that takes its root with a class, and with another rule that takes the host h2 without a class
abbrev classed : SettingData
classed = record {
  kinds = example_kinds;
  tunables = [];
  rules =
      (record { name = codes "fast"; id = 0; kind = codes "replicated"; min_size = None; max_size = None; steps = take 1 (Some (codes "ssd")) ∷ emit ∷ [] })
      ∷ (record { name = codes "all"; id = 1; kind = codes "replicated"; min_size = None; max_size = None; steps = take 3 None ∷ emit ∷ [] }) ∷ [];
}

-- a new bucket is made at its place; a later move of it, and the move of another bucket, are commands of their own
made_at_its_place : ceph_text classed example_table (
    AddBucket (codes "r1") (codes "rack") ∷ Move (codes "r1") (root (codes "default") ∷ [])
    ∷ Move (codes "r1") (root (codes "default") ∷ [])
    ∷ AddBucket (codes "r2") (codes "rack") ∷ Move (codes "h2") (rack (codes "r2") ∷ root (codes "default") ∷ []) ∷ [])
    ≡ codes "# 4 commands\nceph osd crush add-bucket r1 rack root=default\nceph osd crush move r1 root=default\nceph osd crush add-bucket r2 rack\nceph osd crush move h2 rack=r2 root=default\n"
unfolding ceph_text ceph_heading ceph_steps digits
made_at_its_place = refl

-- classes of several devices, and another class
classes : ceph_text classed example_table (
    RemoveClass (codes "osd.0") ∷ RemoveClass (codes "osd.1") ∷ SetClass (codes "osd.0") (codes "ssd") ∷ SetClass (codes "osd.2") (codes "ssd") ∷ SetClass (codes "osd.1") (codes "hdd") ∷ [])
    ≡ codes "# 3 commands\nceph osd crush rm-device-class osd.0 osd.1\nceph osd crush set-device-class ssd osd.0 osd.2\nceph osd crush set-device-class hdd osd.1\n"
unfolding ceph_text ceph_heading ceph_steps digits
classes = refl

-- the root, which a rule takes with a class, is renamed twice in a row, then another bucket, and then the root again
renames : ceph_text classed example_table (
    Rename (codes "default") (codes "top") ∷ Rename (codes "top") (codes "main") ∷ Rename (codes "h2") (codes "h3") ∷ Rename (codes "main") (codes "top") ∷ [])
    ≡ codes "# 6 commands\nceph osd crush rename-bucket default top\nceph osd crush rename-bucket top main\nceph osd crush reweight-all\nceph osd crush rename-bucket h2 h3\nceph osd crush rename-bucket main top\nceph osd crush reweight-all\n"
unfolding ceph_text ceph_heading ceph_steps digits
renames = refl

-- a device that no bucket holds is added, and then it is set
set_twice : ceph_text classed example_table (
    Place Update 3 (codes "osd.3") 65536 (host (codes "h1") ∷ []) ∷ Place Update 3 (codes "osd.3") 131072 (host (codes "h2") ∷ []) ∷ [])
    ≡ codes "# 2 commands\nceph osd crush add osd.3 1.000000 host=h1\nceph osd crush set osd.3 2.000000 host=h2\n"
unfolding ceph_text ceph_heading ceph_steps digits
set_twice = refl

-- a word that begins with `-` ends the options, also if it is in a later edit of the command; a swap is assented to
dashes : ceph_text classed example_table (
    AddBucket (codes "-r") (codes "rack") ∷ Move (codes "-r") (root (codes "default") ∷ []) ∷ Swap (codes "h1") (codes "h2") ∷ [])
    ≡ codes "# 2 commands\nceph osd crush -- add-bucket -r rack root=default\nceph osd crush swap-bucket h1 h2 --yes-i-really-mean-it\n"
unfolding ceph_text ceph_heading ceph_steps digits
dashes = refl

-- no edits
nothing : ceph_text classed example_table [] ≡ codes "# 0 commands\n"
unfolding ceph_text ceph_heading ceph_steps digits
nothing = refl

-- A LINE IS READ: a new bucket with its location, and a new bucket without one
reads_bucket_with_location : edits_of_line (codes "ceph osd crush add-bucket r1 rack root=default\n")
    ≡ Some (AddBucket (codes "r1") (codes "rack") ∷ Move (codes "r1") (root (codes "default") ∷ []) ∷ [])
unfolding edits_of_line words_of_line keyword_of
reads_bucket_with_location = refl

reads_bucket : edits_of_line (codes "ceph osd crush add-bucket r1 rack\n") ≡ Some (AddBucket (codes "r1") (codes "rack") ∷ [])
unfolding edits_of_line words_of_line keyword_of
reads_bucket = refl

-- the classes of several devices
reads_classes_given : edits_of_line (codes "ceph osd crush set-device-class ssd osd.0 osd.2\n")
    ≡ Some (SetClass (codes "osd.0") (codes "ssd") ∷ SetClass (codes "osd.2") (codes "ssd") ∷ [])
unfolding edits_of_line words_of_line keyword_of
reads_classes_given = refl

reads_classes_taken : edits_of_line (codes "ceph osd crush rm-device-class osd.0 osd.1\n") ≡ Some (RemoveClass (codes "osd.0") ∷ RemoveClass (codes "osd.1") ∷ [])
unfolding edits_of_line words_of_line keyword_of
reads_classes_taken = refl

-- the word `all` isn't the name of one device
reads_no_wildcard : edits_of_line (codes "ceph osd crush rm-device-class all\n") ≡ None
unfolding edits_of_line words_of_line keyword_of
reads_no_wildcard = refl

-- a device with a weight, and a swap with its option
reads_device : edits_of_line (codes "ceph osd crush add osd.3 1.000000 host=h1\n") ≡ Some (Place Insert 3 (codes "osd.3") 65536 (host (codes "h1") ∷ []) ∷ [])
unfolding edits_of_line words_of_line keyword_of
reads_device = refl

reads_swap : edits_of_line (codes "ceph osd crush swap-bucket h1 h2 --yes-i-really-mean-it\n") ≡ Some (Swap (codes "h1") (codes "h2") ∷ [])
unfolding edits_of_line words_of_line keyword_of
reads_swap = refl

-- a name that begins with `-` is a name only after `--`
reads_dashed_name : edits_of_line (codes "ceph osd crush -- add-bucket -r rack\n") ≡ Some (AddBucket (codes "-r") (codes "rack") ∷ [])
unfolding edits_of_line words_of_line keyword_of
reads_dashed_name = refl

reads_no_option : edits_of_line (codes "ceph osd crush add-bucket -r rack\n") ≡ None
unfolding edits_of_line words_of_line keyword_of
reads_no_option = refl

-- `reweight-all` makes no edit
reads_reweight_all : edits_of_line (codes "ceph osd crush reweight-all\n") ≡ Some []
unfolding edits_of_line words_of_line keyword_of
reads_reweight_all = refl

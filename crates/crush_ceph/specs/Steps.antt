-- The steps that Ceph does for a list of edits. A step is an edit in the form in which Ceph accepts it, or the command `reweight-all`.
use Rattle.std.specs.Prelude.{List, [], ◌∷◌, ◌++◌, ◌&&◌, Bool, false, not, if◌then◌else◌}
use Rattle.crush_model.specs.Table.{Row}
use Rattle.crush_edits.specs.declared.edit.Edit.{Edit}
use Rattle.crush_edits.specs.Setting.{SettingData}
use Rattle.crush_ceph.specs.ForCeph.{edit_for_ceph, leaves_old_name, table_after_edit}
use Rattle.crush_ceph.specs.declared.steps.CephStep.{CephStep}
use Rattle.crush_ceph.specs.declared.steps.CephStep.TheVariants.{Does, ReweightAll}

-- a list with the step `reweight-all` if this step is due; otherwise the empty list
abbrev pub reweight_if : Bool → List CephStep
reweight_if is_due = if is_due then ReweightAll ∷ [] else []

-- whether the list has a first edit, and this edit leaves an old name (`leaves_old_name`)
abbrev pub first_leaves_old_name : SettingData → List Row → List Edit → Bool
first_leaves_old_name s t [] = false
first_leaves_old_name s t (e ∷ es) = leaves_old_name s t e

-- STEPS: each edit in the form in which Ceph accepts it. The step `reweight-all` follows an edit that leaves an old name, unless the next edit leaves an old name, too. So if several such edits directly follow one another, `reweight-all` follows only the last of them. The map has the setting s (its types, tunables and rules), and t is the table before the first edit. The table before each later edit is the one after all earlier edits
unfoldable pub ceph_steps : SettingData → List Row → List Edit → List CephStep
ceph_steps s t [] = []
ceph_steps s t (e ∷ es) =
    Does (edit_for_ceph t e) ∷ (reweight_if (leaves_old_name s t e && not (first_leaves_old_name s (table_after_edit s t e) es)) ++ ceph_steps s (table_after_edit s t e) es)

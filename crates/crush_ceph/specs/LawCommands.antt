-- The law about the commands into which `cut` cuts the steps for a list of edits: the commands do exactly these edits, in the same order.
use Rattle.std.specs.Prelude.{◌≡◌, List, [], ◌∷◌, flat_map}
use Rattle.crush_model.specs.Table.{Row}
use Rattle.crush_edits.specs.declared.edit.Edit.{Edit}
use Rattle.crush_edits.specs.Setting.{SettingData}
use Rattle.crush_ceph.specs.Commands.{cut}
use Rattle.crush_ceph.specs.ForCeph.{edit_for_ceph, table_after_edit}
use Rattle.crush_ceph.specs.Steps.{ceph_steps}
use Rattle.crush_ceph.specs.declared.steps.CephStep.{CephStep}
use Rattle.crush_ceph.specs.declared.steps.CephStep.TheVariants.{Does, ReweightAll}

-- the edits, each in the form in which Ceph accepts it (`edit_for_ceph`). The table before the first edit is t. The table before each later edit is the one after all earlier edits
unfoldable pub edits_for_ceph : SettingData → List Row → List Edit → List Edit
edits_for_ceph s t [] = []
edits_for_ceph s t (e ∷ es) = edit_for_ceph t e ∷ edits_for_ceph s (table_after_edit s t e) es

-- the list of the edits that a step does: one edit, or no edit if the step is `reweight-all`
abbrev pub edits_done : CephStep → List Edit
edits_done (Does e) = e ∷ []
edits_done ReweightAll = []

-- the steps of all commands as one list, in the order of the commands
abbrev pub steps_of : List (List CephStep) → List CephStep
steps_of cs = flat_map (λ (c : List CephStep). c) cs

-- COMMANDS DO THE STEPS: if steps are cut into commands, then the commands have exactly these steps, in the same order
abbrev pub CommandsDoTheSteps : Type 0
CommandsDoTheSteps = (steps : List CephStep) → steps_of (cut steps) ≡ steps

-- THE COMMANDS DO THE EDITS: the commands do all given edits, each edit once, in the same order, and no other edits. Each edit has the form in which Ceph accepts it
abbrev pub CommandsDoTheEdits : Type 0
CommandsDoTheEdits = (s : SettingData) (t : List Row) (es : List Edit) → flat_map edits_done (steps_of (cut (ceph_steps s t es))) ≡ edits_for_ceph s t es

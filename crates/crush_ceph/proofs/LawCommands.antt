-- The commands do exactly the edits.
use Rattle.std.proofs.Common.{◌≡◌, Bool, true, false, List, [], ◌∷◌, ◌++◌, ◌&&◌, not, refl, ap, ◌∙◌}
use Rattle.std.specs.Prelude.{flat_map, if◌then◌else◌}
use Rattle.crush_model.specs.Table.{Row}
use Rattle.crush_edits.specs.declared.edit.Edit.{Edit}
use Rattle.crush_edits.specs.Setting.{SettingData}
use Rattle.crush_ceph.specs.Commands.{cut, second_joins, with_step}
use Rattle.crush_ceph.specs.ForCeph.{edit_for_ceph, leaves_old_name, table_after_edit}
use Rattle.crush_ceph.specs.LawCommands.{CommandsDoTheEdits, CommandsDoTheSteps, edits_done, edits_for_ceph, steps_of}
use Rattle.crush_ceph.specs.Steps.{ceph_steps, first_leaves_old_name, reweight_if}
use Rattle.crush_ceph.specs.declared.steps.CephStep.{CephStep}

-- a step before commands is the first of their steps
front : (e : CephStep) (cs : List (List CephStep)) → steps_of (with_step e cs) ≡ e ∷ steps_of cs
front e [] = refl
front e (c ∷ cs) = by_test (second_joins (e ∷ c)) where
  by_test : (b : Bool) → steps_of (if b then (e ∷ c) ∷ cs else (e ∷ []) ∷ c ∷ cs) ≡ e ∷ steps_of (c ∷ cs)
  by_test true = refl
  by_test false = refl

pub commands_do_the_steps : CommandsDoTheSteps
commands_do_the_steps [] = refl
commands_do_the_steps (e ∷ es) = front e (cut es) ∙ ap (λ (l : List CephStep). e ∷ l) (commands_do_the_steps es)

-- the steps do the edits
steps_do : (s : SettingData) (t : List Row) (es : List Edit) → flat_map edits_done (ceph_steps s t es) ≡ edits_for_ceph s t es
unfolding ceph_steps edits_for_ceph
steps_do s t [] = refl
steps_do s t (e ∷ es) = by_test (steps_do s (table_after_edit s t e) es) (leaves_old_name s t e && not (first_leaves_old_name s (table_after_edit s t e) es)) where
  by_test : flat_map edits_done (ceph_steps s (table_after_edit s t e) es) ≡ edits_for_ceph s (table_after_edit s t e) es → (b : Bool)
      → edit_for_ceph t e ∷ flat_map edits_done (reweight_if b ++ ceph_steps s (table_after_edit s t e) es) ≡ edit_for_ceph t e ∷ edits_for_ceph s (table_after_edit s t e) es
  by_test others true = ap (λ (l : List Edit). edit_for_ceph t e ∷ l) others
  by_test others false = ap (λ (l : List Edit). edit_for_ceph t e ∷ l) others

pub commands_do_the_edits : CommandsDoTheEdits
commands_do_the_edits s t es = ap (λ (l : List CephStep). flat_map edits_done l) (commands_do_the_steps (ceph_steps s t es)) ∙ steps_do s t es

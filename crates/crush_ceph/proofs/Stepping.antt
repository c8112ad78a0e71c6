-- The steps of edits, edit by edit.
use Rattle.std.proofs.Common.{◌≡◌, Bool, true, false, ◌&&◌, not, List, [], ◌∷◌, ◌++◌, refl, ap, subst, sym, ◌∙◌, append_assoc}
use Rattle.crush_model.specs.Stands.{Stands}
use Rattle.crush_model.specs.Table.{Row}
use Rattle.crush_map.specs.MapData.{MapData}
use Rattle.crush_edits.specs.declared.edit.Edit.{Edit}
use Rattle.crush_edits.specs.Setting.{SettingData}
use Rattle.crush_ceph.specs.ForCeph.{edit_for_ceph, leaves_old_name, table_after_edit}
use Rattle.crush_ceph.specs.Steps.{ceph_steps, first_leaves_old_name, reweight_if}
use Rattle.crush_ceph.specs.declared.steps.CephStep.{CephStep}
use Rattle.crush_ceph.specs.declared.steps.CephStep.TheVariants.{Does}

-- the steps from a table on, if the edit before it does or doesn't leave an old name
pub steps_left : Bool → SettingData → List Row → List Edit → List CephStep
steps_left is_due s t es = reweight_if (is_due && not (first_leaves_old_name s t es)) ++ ceph_steps s t es

pub one_more : (s : SettingData) (t : List Row) (e : Edit) (es : List Edit) (is_due leaves : Bool) (before behind whole : List CephStep)
    → leaves ≡ leaves_old_name s t e
    → behind ≡ before ++ (reweight_if (is_due && not (leaves_old_name s t e)) ++ Does (edit_for_ceph t e) ∷ [])
    → before ++ steps_left is_due s t (e ∷ es) ≡ whole
    → behind ++ steps_left leaves s (table_after_edit s t e) es ≡ whole
unfolding steps_left ceph_steps
one_more s t e es is_due leaves before behind whole is_leaves is_behind was =
    let due = reweight_if (is_due && not (leaves_old_name s t e)) in
    let step : List CephStep = Does (edit_for_ceph t e) ∷ [] in
    let left = steps_left (leaves_old_name s t e) s (table_after_edit s t e) es in
    ap (λ (l : List CephStep). l ++ steps_left leaves s (table_after_edit s t e) es) is_behind
    ∙ ap (λ (b : Bool). (before ++ (due ++ step)) ++ steps_left b s (table_after_edit s t e) es) is_leaves
    ∙ append_assoc before (due ++ step) left
    ∙ ap (λ (l : List CephStep). before ++ l) (append_assoc due step left)
    ∙ was

pub last_one : (s : SettingData) (t : List Row) (is_due : Bool) (before behind whole : List CephStep) → behind ≡ before ++ reweight_if is_due → before ++ steps_left is_due s t [] ≡ whole → behind ≡ whole
unfolding steps_left ceph_steps
last_one s t true before behind whole is_behind was = is_behind ∙ was
last_one s t false before behind whole is_behind was = is_behind ∙ was

-- SO FAR: these steps, with the steps of the edits that are left, are those of all edits
pub record AreSteps (old new : MapData) (is_due : Bool) (steps : List CephStep) (left edits : List Edit) : Type 0 where
  pub setting : new.setting ≡ old.setting
  pub whole : (t : List Row) → Stands old.forest t → (u : List Row) × (Stands new.forest u × (steps ++ steps_left is_due old.setting u left ≡ ceph_steps old.setting t edits))

pub none_yet : (m : MapData) (es : List Edit) → AreSteps m m false [] es es
unfolding steps_left
none_yet m es = record { setting = refl; whole = λ t st. (t, (st, refl)) }

pub next_step : (old mid new : MapData) (is_due leaves : Bool) (before behind : List CephStep) (e : Edit) (es left edits : List Edit)
    → left ≡ e ∷ es
    → new.setting ≡ mid.setting
    → ((t : List Row) → Stands mid.forest t → Stands new.forest (table_after_edit mid.setting t e))
    → ((t : List Row) → Stands mid.forest t → leaves ≡ leaves_old_name mid.setting t e)
    → ((t : List Row) → Stands mid.forest t → behind ≡ before ++ (reweight_if (is_due && not (leaves_old_name mid.setting t e)) ++ Does (edit_for_ceph t e) ∷ []))
    → AreSteps old mid is_due before left edits → AreSteps old new leaves behind es edits
next_step old mid new is_due leaves before behind e es left edits is same stands is_leaves is_behind so_far =
    let setting = so_far.setting in
    record {
      setting = same ∙ setting;
      whole = λ t st.
          let at = so_far.whole t st in
          let u = at.0 in
          let made = at.1.0 in (
            table_after_edit old.setting u e,
            (
              subst (λ (s : SettingData). Stands new.forest (table_after_edit s u e)) setting (stands u made),
              one_more old.setting u e es is_due leaves before behind (ceph_steps old.setting t edits)
                  (is_leaves u made ∙ ap (λ (s : SettingData). leaves_old_name s u e) setting)
                  (is_behind u made ∙ ap (λ (s : SettingData). before ++ (reweight_if (is_due && not (leaves_old_name s u e)) ++ Does (edit_for_ceph u e) ∷ [])) setting)
                  (ap (λ (l : List Edit). before ++ steps_left is_due old.setting u l) (sym is) ∙ at.1.1),
            ),
          );
    }

pub all_steps : (old new : MapData) (is_due : Bool) (before behind : List CephStep) (edits : List Edit) → behind ≡ before ++ reweight_if is_due → AreSteps old new is_due before [] edits
    → (t : List Row) → Stands old.forest t → behind ≡ ceph_steps old.setting t edits
all_steps old new is_due before behind edits is_behind so_far t st =
    let at = so_far.whole t st in
    last_one old.setting at.0 is_due before behind (ceph_steps old.setting t edits) is_behind at.1.1

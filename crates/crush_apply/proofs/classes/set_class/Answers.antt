use Rattle.std.proofs.Common.{◌≡◌, ℕ, true, List, subst, refl}
use Rattle.std.specs.Prelude.{Some}
use Rattle.crush_units.specs.declared.id.ItemId.TheVariants.{Device}
use Rattle.crush_model.specs.Columns.{set_class}
use Rattle.crush_model.specs.Forest.{ForestData, rows_of, IsSound}
use Rattle.crush_model.specs.Stands.{Stands}
use Rattle.crush_model.specs.Table.{Row, is_there}
use Rattle.crush_model.proofs.Stands.{stands_for_rows}
use Rattle.crush_edits.specs.declared.edit.Edit.TheVariants.{SetClass}
use Rattle.crush_apply.specs.Alone.{GetsClass}
use Rattle.crush_apply.proofs.Answered.{when_changed, when_still}
use Rattle.crush_apply.proofs.Classed.{set_class_done, set_class_still}
use Rattle.crush_apply.proofs.Found.{there_by_name}
use Rattle.crush_apply.proofs.RolledBack.{class_given, when_short, when_unnoted}
use Rattle.crush_apply.proofs.Weights.{refused_edit}
use Rattle.crush_apply.proofs.classes.set_class.Goals as goal

-- the forest has the device that is to get a class
there_to_get : (f : ForestData) (n class : List ℕ) (d : ℕ) → IsSound f → ((t : List Row) → Stands f t → GetsClass t n class (Some d)) → is_there (rows_of f) (Device d) ≡ true
there_to_get f n class d sound can = there_by_name (rows_of f) n (Device d) (can (rows_of f) (stands_for_rows f sound)).named

pub returns-in_err-device : goal.returns-in_err-device
returns-in_err-device g c = λ s.
    when_unnoted _ _ _ _ _ c.from_residual.ensures.1 refl (λ t st. refused_edit s t (SetClass c.args.name.now c.args.class.now) _ (c.in_err-device.ensures.refused s t st))

pub returns-in_default : goal.returns-in_default
returns-in_default g c = λ s. record {
  answers = when_still _ _ _ (λ t st.
      let has = subst (GetsClass t c.args.name.now c.args.class.now) c.in_default.is (c.in_ok-device.ensures.can t st) in
      (t, set_class_still s t c.args.name.now has.0 st.lawful c.args.class.now has.1, st));
  logged = refl;
}

pub returns-in_err-clone : goal.returns-in_err-clone
returns-in_err-clone g c = λ s.
    when_short _ _ _ _ c.from_residual-in_err-clone.ensures.1 refl (λ t st.
    let has = subst (GetsClass t c.args.name.now c.args.class.now) c.in-Some.is (c.in_ok-device.ensures.can t st) in
    (0, set_class (Device c.in-Some.device) (Some c.args.class.now) t, set_class_done s t c.args.name.now c.in-Some.device st.lawful c.args.class.now has))

pub returns-in_err-copy : goal.returns-in_err-copy
returns-in_err-copy g c = λ s.
    when_short _ _ _ _ c.from_residual-in_err-copy.ensures.1 refl (λ t st.
    let has = subst (GetsClass t c.args.name.now c.args.class.now) c.in-Some.is (c.in_ok-device.ensures.can t st) in
    (0, set_class (Device c.in-Some.device) (Some c.args.class.now) t, set_class_done s t c.args.name.now c.in-Some.device st.lawful c.args.class.now has))

pub set_class-old-requires : goal.set_class-old-requires
set_class-old-requires g c = there_to_get c.args.hierarchy.now c.args.name.now c.args.class.now c.in-Some.device c.recall_invariant.ensures (λ t st. subst (GetsClass t c.args.name.now c.args.class.now) c.in-Some.is (c.in_ok-device.ensures.can t st))

pub returns : goal.returns
returns g c = λ s. record {
  answers = when_changed _ _ _ _ (λ t st.
      let has = subst (GetsClass t c.args.name.now c.args.class.now) c.in-Some.is (c.in_ok-device.ensures.can t st) in
      let d = c.in-Some.device in (
        set_class (Device d) (Some c.args.class.now) t,
        set_class_done s t c.args.name.now d st.lawful c.args.class.now has,
        subst (λ k. Stands c.set_class-old.new.self (set_class (Device d) (Some k) t)) c.in_ok-copy.ensures (c.set_class-old.ensures.stands t st),
      ));
  logged = class_given _ _ c.in-Some.device _ c.set_class-old.result c.recall_invariant.ensures
      (there_to_get c.args.hierarchy.now c.args.name.now c.args.class.now c.in-Some.device c.recall_invariant.ensures (λ t st. subst (GetsClass t c.args.name.now c.args.class.now) c.in-Some.is (c.in_ok-device.ensures.can t st)))
      c.set_class-old.ensures;
}

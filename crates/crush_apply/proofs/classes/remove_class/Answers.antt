use Rattle.std.proofs.Common.{◌≡◌, ℕ, List, false, ap, sym, refl, ◌∙◌}
use Rattle.std.specs.Prelude.{Option, Some, None, is_some}
use Rattle.crush_units.specs.declared.id.ItemId.TheVariants.{Device}
use Rattle.crush_model.specs.Columns.{set_class}
use Rattle.crush_model.specs.Forest.{rows_of}
use Rattle.crush_model.proofs.Stands.{stands_for_rows}
use Rattle.crush_edits.specs.declared.edit.Edit.TheVariants.{RemoveClass}
use Rattle.crush_edits.specs.Answer.{done}
use Rattle.crush_apply.specs.Alone.{HasClass}
use Rattle.crush_apply.proofs.Answered.{when_done}
use Rattle.crush_apply.proofs.Classed.{remove_class_done}
use Rattle.crush_apply.proofs.Found.{there_by_name}
use Rattle.crush_apply.proofs.Refused.{no_want}
use Rattle.crush_apply.proofs.RolledBack.{class_given, when_unnoted}
use Rattle.crush_apply.proofs.Weights.{refused_edit}
use Rattle.crush_apply.proofs.classes.remove_class.Goals as goal

pub returns-in_err-device-clause-answers : goal.returns-in_err-device-clause-answers
returns-in_err-device-clause-answers g c = λ s.
    when_unnoted _ _ _ _ _ c.from_residual.ensures.1 refl (λ t st. refused_edit s t (RemoveClass c.args.name.now) _ (c.in_err-device.ensures.refused s t st))

pub returns-in_err-device-clause-memory : goal.returns-in_err-device-clause-memory
returns-in_err-device-clause-memory g c = no_want _ _ c.from_residual.ensures.1

pub set_class-old-requires : goal.set_class-old-requires
set_class-old-requires g c =
    there_by_name (rows_of c.args.hierarchy.now) c.args.name.now (Device c.in_ok-device.device) (c.in_ok-device.ensures.can (rows_of c.args.hierarchy.now) (stands_for_rows c.args.hierarchy.now c.recall_invariant.ensures))

-- the device had no class
none_had : (k : Option (List ℕ)) → is_some k ≡ false → k ≡ None
none_had None e = refl
none_had (Some k) e = absurd cc

pub returns-clause-answers : goal.returns-clause-answers
returns-clause-answers g c = λ s. record {
  answers = when_done _ _ _ _ (λ e. c.set_class-old.ensures.same (none_had c.set_class-old.result (sym c.is_some.ensures ∙ e))) (λ t st.
      let d = c.in_ok-device.device in
      let has : HasClass t c.args.name.now c.set_class-old.result d = record { named = c.in_ok-device.ensures.can t st; class = sym (c.set_class-old.ensures.old t st) } in
      (set_class (Device d) None t, remove_class_done s t c.args.name.now d st.lawful _ has ∙ ap (λ b. done b 0 (set_class (Device d) None t)) (sym c.is_some.ensures), c.set_class-old.ensures.stands t st));
  logged = class_given _ _ c.in_ok-device.device None c.set_class-old.result c.recall_invariant.ensures
      (there_by_name (rows_of c.args.hierarchy.now) c.args.name.now (Device c.in_ok-device.device) (c.in_ok-device.ensures.can (rows_of c.args.hierarchy.now) (stands_for_rows c.args.hierarchy.now c.recall_invariant.ensures)))
      c.set_class-old.ensures;
}

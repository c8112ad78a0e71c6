-- A refused edit: the reply is the one that the model gives, and the map represents the tables that it represented before.
use Rattle.std.proofs.Common.{◌≡◌, ap, sym, subst, Err}
use Rattle.crush_edits.specs.Answer.{Answer, refused}
use Rattle.crush_edits.specs.Edit.{edit}
use Rattle.crush_map.specs.MapData.{MapData, MapStands}
use Rattle.crush_history.specs.History.{edit_outcome}
use Rattle.crush_history.proofs.making.make_edit.Goals as goal

pub returns-in-Err-Refused-clause-made : goal.returns-in-Err-Refused-clause-made
returns-in-Err-Refused-clause-made g c n s t st =
    let arm = c.in-Err-Refused in
    let e = c.args.edit.now in
    let told = arm.ensures.refused arm.refusal (ap Err arm.field-0-is) t st.forest in
    let is : edit s t e ≡ refused arm.refusal = subst (λ z. edit z t e ≡ refused arm.refusal) st.setting told in (
      sym (ap (λ (a : Answer). (edit_outcome t a).reply) is),
      subst (λ (a : Answer). MapStands c.apply.new.self s (edit_outcome t a).table) (sym is) (subst (λ (m : MapData). MapStands m s t) (sym arm.ensures.unchanged) st),
    )

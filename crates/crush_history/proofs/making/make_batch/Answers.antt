-- A refused batch: the reply is the one that the model gives, and the map represents the tables that it represented before.
use Rattle.std.proofs.Common.{◌≡◌, ap, sym, subst, ◌∙◌, Err}
use Rattle.crush_edits.specs.Batch.{batch, BatchAnswer, batch_refused}
use Rattle.crush_map.specs.MapData.{MapStands}
use Rattle.crush_history.specs.History.{batch_outcome}
use Rattle.crush_history.proofs.making.make_batch.Goals as goal

pub returns-in-Err-Refused-clause-made : goal.returns-in-Err-Refused-clause-made
returns-in-Err-Refused-clause-made g c n s t st =
    let arm = c.in-Err-Refused in
    let es = c.args.edits.now in
    let told = arm.ensures.refused arm.index arm.refusal (ap Err arm.field-0-is) t st.forest in
    let is : batch s t es ≡ batch_refused arm.index arm.refusal = subst (λ z. batch z t es ≡ batch_refused arm.index arm.refusal) st.setting told in (
      sym (ap (λ (a : BatchAnswer). (batch_outcome t a).reply) is),
      subst (λ (a : BatchAnswer). MapStands c.apply_batch.new.self s (batch_outcome t a).table) (sym is) (record { setting = c.apply_batch.ensures.setting ∙ st.setting; forest = arm.ensures.as_before.stands t st.forest }),
    )

pub returns-in-Err-OutOfMemory-clause-unchanged : goal.returns-in-Err-OutOfMemory-clause-unchanged
returns-in-Err-OutOfMemory-clause-unchanged g c = c.in-Err-OutOfMemory.ensures.memory (ap Err c.in-Err-OutOfMemory.field-0-is)
